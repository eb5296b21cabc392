-- What is put, and what is left from a shape on. Assumes nothing.
use Rattle.std.proofs.Common.{drop}
use Rattle.writer.specs.Say.{shapes_said}
use Rattle.writer.proofs.Putting.{Putting}
use Rattle.writer.proofs.put_shapes.Given as goal

abbrev pub invariant-loop-word : goal.invariant-loop-word
invariant-loop-word l = Putting l.initial.text l.text (shapes_said (drop l.word-index l.shapes)) (shapes_said l.initial.shapes)

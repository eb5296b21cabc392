-- What is put, and what is left from an operand on. Assumes nothing.
use Rattle.std.proofs.Common.{length}
use Rattle.bytecode.specs.Meaning.{maxima_of}
use Rattle.writer.specs.Say.{operands_said}
use Rattle.writer.proofs.Putting.{Putting}
use Rattle.writer.proofs.Steps.{operands_left}
use Rattle.writer.proofs.put_operands.Given as goal

abbrev pub invariant-loop-most : goal.invariant-loop-most
invariant-loop-most l = Putting l.initial.text l.text (operands_left l.float l.fn.row.number l.words (length l.yielded)) (operands_said l.float (maxima_of l.fn.row.number) l.words)

-- What is put, and what is left from a row on. Assumes nothing.
use Rattle.writer.specs.Say.{rows_said}
use Rattle.writer.proofs.Putting.{Putting}
use Rattle.writer.proofs.Steps.{rows_left}
use Rattle.writer.proofs.put_rows.Given as goal

abbrev pub invariant-loop-i : goal.invariant-loop-i
invariant-loop-i l = Putting l.initial.text l.text (rows_left l.t l.k l.first l.count l.i) (rows_said l.t l.k l.first l.count)

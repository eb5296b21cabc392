-- What is put, and what is left from table k on. Assumes nothing.
use Rattle.writer.specs.Say.{tables_said}
use Rattle.writer.proofs.Putting.{Putting}
use Rattle.writer.proofs.Steps.{tables_left}
use Rattle.writer.proofs.put_tables.Given as goal

abbrev pub invariant-loop-k : goal.invariant-loop-k
invariant-loop-k l = Putting l.initial.text l.text (tables_left l.t l.k) (tables_said l.t 1 6)

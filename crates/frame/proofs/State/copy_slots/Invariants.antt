use Rattle.frame.specs.Model.{value_at}
use Rattle.frame.specs.Slots.{Changed}
use Rattle.frame.proofs.State.copy_slots.Given as goal

abbrev pub invariant-loop-i : goal.invariant-loop-i
invariant-loop-i l = Changed l.initial.self l.lo l.i (value_at l.other) l.self

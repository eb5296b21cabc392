use Rattle.definition.specs.Shapes.{join}
use Rattle.frame.specs.Model.{value_at}
use Rattle.frame.specs.Slots.{Changed}
use Rattle.frame.proofs.State.join_slots.Given as goal

abbrev pub invariant-loop-i : goal.invariant-loop-i
invariant-loop-i l = Changed l.initial.self l.lo l.i (λ j. join (value_at l.initial.self j) (value_at l.other j)) l.self

use Rattle.shapes.specs.Model.{value_of}
use Rattle.frame.specs.Slots.{Changed}
use Rattle.frame.proofs.State.fill.Given as goal

abbrev pub invariant-loop-i : goal.invariant-loop-i
invariant-loop-i l = Changed l.initial.self l.lo l.i (λ j. value_of l.v) l.self

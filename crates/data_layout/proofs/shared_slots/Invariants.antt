-- `data_layout::shared_slots` meets its contract: the entries passed are as they must be. Assumes nothing.
use Rattle.data_layout.proofs.Laws.{Shareds}
use Rattle.data_layout.proofs.shared_slots.Given as goal

abbrev pub invariant-loop-i : goal.invariant-loop-i
invariant-loop-i l = Shareds l.t l.i

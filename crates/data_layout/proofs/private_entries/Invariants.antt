-- `data_layout::private_entries` meets its contract: the entries passed are as they must be. Assumes nothing.
use Rattle.data_layout.proofs.Laws.{Privates}
use Rattle.data_layout.proofs.private_entries.Given as goal

abbrev pub invariant-loop-i : goal.invariant-loop-i
invariant-loop-i l = Privates l.t l.i l.before

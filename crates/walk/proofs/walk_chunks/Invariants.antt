use Rattle.walk.proofs.Start.{WalkedTo}
use Rattle.walk.proofs.walk_chunks.Given as goal

abbrev pub invariant-loop-k : goal.invariant-loop-k
invariant-loop-k l = WalkedTo l.t l.initial.heights l.initial.blinds l.heights l.blinds l.k

use Rattle.std.proofs.Common.{length}
use Rattle.replay.proofs.Words.next_number.Given as goal

abbrev pub decreases-loop-self : goal.decreases-loop-self
decreases-loop-self l = length l.self.rest.now

use Rattle.std.proofs.Common.{length}
use Rattle.listing_cases.proofs.run.Given as goal

abbrev pub decreases-loop-input : goal.decreases-loop-input
decreases-loop-input g l = length l.input

use Rattle.std.proofs.Common.{◌≤◌, length}
use Rattle.listing_cases.proofs.read_lines.Given as goal

abbrev pub invariant-loop-input : goal.invariant-loop-input
invariant-loop-input l = length l.input ≤ length l.fn.input

abbrev pub decreases-loop-input : goal.decreases-loop-input
decreases-loop-input l = length l.input

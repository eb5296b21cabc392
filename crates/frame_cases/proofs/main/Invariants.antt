-- The seed counts the cases.
use Rattle.std.proofs.Common.{◌+◌, ◌*◌, ◌≤◌}
use Rattle.frame_cases.proofs.main.Given as goal

abbrev pub invariant-loop-way : goal.invariant-loop-way
invariant-loop-way l = l.seed ≤ 16 * l.way-index

abbrev pub invariant-loop-count : goal.invariant-loop-count
invariant-loop-count l = l.seed ≤ 16 * l.way-index + 4 * l.count-index

abbrev pub invariant-loop-height : goal.invariant-loop-height
invariant-loop-height l = l.seed ≤ 16 * l.way-index + 4 * l.count-index + l.height-index

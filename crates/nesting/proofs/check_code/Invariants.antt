-- `nesting::check_code` meets its contract. The loop keeps: in every chunk that has these instructions all rules hold below p, and the stack
-- holds the blocks open at p. Assumes nothing.
use Rattle.std.proofs.Common.{◌≡◌, ◌≤◌, ◌<◌, length}
use Rattle.nesting.proofs.Walk.{open_at, States}
use Rattle.nesting.proofs.check_code.Given as goal

abbrev pub invariant-loop-p : goal.invariant-loop-p
invariant-loop-p l = record {
  low : l.depth ≤ l.p;
  room : l.code.size < length l.stack;
  whole : (open_at l.stack 0).closer ≡ l.code.size;
  states : States l.code l.stack l.p l.depth l.too_deep;
}

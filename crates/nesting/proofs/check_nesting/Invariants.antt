-- `nesting::check_nesting` meets its contract. The loop keeps: what the definition finds in all chunks is what was found, or what it finds from
-- chunk k on. Assumes nothing.
use Rattle.nesting.proofs.All.{State}
use Rattle.nesting.proofs.check_nesting.Given as goal

abbrev pub invariant-loop-k : goal.invariant-loop-k
invariant-loop-k l = State l.t l.k l.too_deep

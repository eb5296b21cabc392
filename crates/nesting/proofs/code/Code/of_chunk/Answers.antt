-- `nesting::code::Code::of_chunk` meets its contract. Assumes nothing.
use Rattle.std.proofs.Common.{arith}
use Rattle.bytecode.specs.Tables.{cap}
use Rattle.nesting.proofs.code.Code.of_chunk.Goals as goal

pub overflow_cast-result : goal.overflow_cast-result
unfolding cap
overflow_cast-result c = omega (arith, c.instructions_of-span.ensures.within)

pub invariant_of-result : goal.invariant_of-result
unfolding cap
invariant_of-result c = omega (arith, c.instructions_of-span.ensures.within)

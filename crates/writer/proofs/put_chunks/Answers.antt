-- A chunk more. Assumes nothing.
use Rattle.std.proofs.Common.{sym, ◌∙◌, arith}
use Rattle.bytecode.specs.Tables.{cap}
use Rattle.writer.proofs.Steps.{puts_next_chunk}
use Rattle.writer.proofs.put_chunks.Goals as goal

pub loop-k-preserved : goal.loop-k-preserved
unfolding cap
loop-k-preserved c = record {
  put =
      puts_next_chunk _ _ _ _ _ _ _ _ c.loop-k.invariant.put (omega arith) (sym c.if-not-chunk_follows.false ∙ c.chunk_follows.ensures) _ _ _ c.constants_of.ensures.count_is c.instructions_of.ensures.count_is
      c.in_ok-put_chunk.ensures;
  few_constants = omega arith;
  few_instructions = omega arith;
}

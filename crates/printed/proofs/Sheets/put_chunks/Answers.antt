-- What is put, and what is left from chunk k on; `base` counts the instructions before it. Assumes nothing.
use Rattle.std.proofs.Common.{◌∙◌, ap, sym, arith}
use Rattle.bytecode.specs.Tables.{cap}
use Rattle.bytecode.specs.Meaning.{count_low}
use Rattle.text_out.specs.Text.{with_text}
use Rattle.text_out.proofs.Laws.{with_part, with_nothing}
use Rattle.printed.proofs.Lines.{chunks_all, chunks_more, chunks_none}
use Rattle.printed.proofs.Sheets.put_chunks.Goals as goal

pub loop-k-init : goal.loop-k-init
loop-k-init c = record {
  put = ap (with_text c.args.text.now) (sym (chunks_all c.args.t.now c.args.self.now.heights.now c.args.self.now.blinds.now));
  low = omega arith;
}

pub instructions_of-count-requires : goal.instructions_of-count-requires
unfolding cap
instructions_of-count-requires c = omega (arith, count_low c.args.t.now 7)

pub put_ops-requires : goal.put_ops-requires
unfolding cap
put_ops-requires c = omega (arith, count_low c.args.t.now 7)

pub overflow_add-base : goal.overflow_add-base
unfolding cap
overflow_add-base c = omega (arith, count_low c.args.t.now 7)

pub loop-k-preserved : goal.loop-k-preserved
unfolding cap
loop-k-preserved c = record {
  put =
      with_part _ _ _ _ _
      (chunks_more c.args.t.now c.args.self.now.heights.now c.args.self.now.blinds.now c.loop-k.k c.loop-k.base _ c.instructions_of-count.ensures.count_is (omega arith))
      c.put_ops.ensures
      ∙ c.loop-k.invariant.put;
  low = omega arith;
}

pub returns : goal.returns
returns c = sym (with_nothing c.loop-k.text _ (chunks_none c.args.t.now c.args.self.now.heights.now c.args.self.now.blinds.now c.loop-k.k c.loop-k.base (omega arith))) ∙ c.loop-k.invariant.put

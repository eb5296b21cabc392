-- Assumes nothing.
use Rattle.definition.specs.Format.{bytes}
use Rattle.definition.specs.Write.{render, at_shape, shape_text}
use Rattle.text_out.proofs.Laws.{with_both}
use Rattle.writer.proofs.put_flat.Goals as goal

pub returns : goal.returns
unfolding shape_text at_shape render bytes
returns c = with_both _ _ _ _ _ c.bytes.ensures (with_both _ _ _ _ _ (with_both _ _ _ _ _ c.spaced_decimal.ensures c.spaced_decimal-2.ensures) c.bytes-2.ensures)

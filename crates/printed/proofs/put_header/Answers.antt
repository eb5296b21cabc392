-- `printed::put_header` meets its contract. Assumes nothing.
use Rattle.definition.specs.Format.{bytes}
use Rattle.definition.specs.Printed.{words}
use Rattle.definition.specs.Write.{spaced}
use Rattle.text_out.proofs.Laws.{with_both}
use Rattle.printed.specs.Texts.{header}
use Rattle.printed.proofs.put_header.Goals as goal

pub returns : goal.returns
unfolding header words bytes spaced
returns c = with_both _ _ _ _ _ c.bytes.ensures (with_both _ _ _ _ _ c.spaced_decimal.ensures (with_both _ _ _ _ _ c.spaced_decimal-2.ensures c.byte.ensures))

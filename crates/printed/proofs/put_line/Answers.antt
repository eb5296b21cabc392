-- `printed::put_line` meets its contract. Assumes nothing.
use Rattle.definition.specs.Printed.{words}
use Rattle.definition.specs.Write.{spaced}
use Rattle.text_out.proofs.Laws.{with_both}
use Rattle.printed.specs.Texts.{line}
use Rattle.printed.proofs.put_line.Goals as goal

pub returns : goal.returns
unfolding line words spaced
returns c =
    with_both _ _ _ _ _ c.decimal.ensures (with_both _ _ _ _ _ c.spaced_decimal.ensures (with_both _ _ _ _ _ c.byte.ensures
    (with_both _ _ _ _ _ c.put_height.ensures (with_both _ _ _ _ _ c.byte-2.ensures (with_both _ _ _ _ _ c.put_blind.ensures c.byte-3.ensures)))))

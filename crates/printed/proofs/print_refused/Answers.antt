-- `printed::print_refused` meets its contract. Assumes nothing.
use Rattle.std.proofs.Common.{◌∙◌, ap, sym, rules, arith}
use Rattle.definition.specs.Format.{bytes}
use Rattle.text_out.specs.Text.{with_text}
use Rattle.text_out.proofs.Laws.{with_both}
use Rattle.printed.proofs.Lines.{words_spaced, refused_short}
use Rattle.printed.proofs.Whole.{holds}
use Rattle.printed.proofs.print_refused.Goals as goal

pub returns : goal.returns
unfolding bytes
returns c =
    let n = c.args.fields.now in
    holds _ _ _ _ _ c.new-text.ensures
    (with_both _ _ _ _ _ c.bytes.ensures (with_both _ _ _ _ _ c.put_numbers.ensures c.byte.ensures)
    ∙ ap (with_text c.new-text.result) (sym (words_spaced (bytes "refused") n)))
    c.length.ensures
    (search rules)
    (refused_short n c.requires (λ i. omega (arith, c.type_inv.fields i)))

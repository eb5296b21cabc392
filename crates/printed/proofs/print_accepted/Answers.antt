-- `printed::print_accepted` meets its contract. Assumes nothing.
use Rattle.std.proofs.Common.{◌∙◌, ap, rules, arith}
use Rattle.text_out.specs.Text.{with_text}
use Rattle.text_out.proofs.Laws.{with_both}
use Rattle.printed.proofs.Lines.{accepted_parts, accepted_short}
use Rattle.printed.proofs.Whole.{holds}
use Rattle.printed.proofs.print_accepted.Goals as goal

pub returns : goal.returns
returns c =
    let t = c.args.t.now in
    let h = c.args.heights.now in
    let b = c.args.blinds.now in
    holds _ _ _ _ _ c.new-text.ensures
    (with_both _ _ _ _ _ c.put_header.ensures c.put_chunks.ensures
    ∙ ap (with_text c.new-text.result) (accepted_parts t h b _ _ c.count-chunks.ensures c.all_instructions-instructions.ensures))
    c.length.ensures
    (search rules)
    (accepted_short t h b _ _ c.count-chunks.ensures c.all_instructions-instructions.ensures (omega arith) (λ i. omega (arith, c.type_inv.heights i)))

use Rattle.std.specs.Prelude.{[]}
use Rattle.std.proofs.Common.{arith, sym, ap, ◌∙◌}
use Rattle.std.proofs.Math.Option.{some}
use Rattle.listing.proofs.Texts.{strip_yes}
use Rattle.listing.specs.Find.{entered_then, chosen_entered}
use Rattle.listing.proofs.line_entry.Goals as goal

pub returns-in-Some : goal.returns-in-Some
returns-in-Some c =
    let t = c.in-Some.ensures.cases in
    let r = c.in_ok-rest.ensures in
    entered_then _ _ _ _ _ _ c.then_some.ensures c.is_empty.ensures c.loop-form.invariant
    (chosen_entered _ c.loop-form.form-index (omega arith) _ c.text.ensures _ _ (strip_yes _ _ t.0 ∙ ap some (sym t.1))
    c.codes.ensures r.0 _ r.1 _ (r.2 [] c.new-values.ensures))

use mathlib.Core.Path.{refl, ap, ◌∙◌}
use mathlib.Core.List.{◌∷◌, ◌++◌, []}
use Rattle.shapes.specs.Model.{list_of}
use Rattle.shapes.proofs.Text.{shift_none, shift-more, sum_is, adds_full}
use Rattle.shapes.proofs.places.Places.add_all.Goals as goal

pub loop-offset-init : goal.loop-offset-init
loop-offset-init c = shift_none (list_of c.args.self.now) c.args.by c.as_slice-offset-items.result.now

pub returns-in_err-add-clause-added : goal.returns-in_err-add-clause-added
returns-in_err-add-clause-added c = adds_full c.args.by _ _ _ _ _ c.loop-offset.offset-index _ c.loop-offset.invariant c.loop-offset-test.true c.as_slice-offset-items.ensures.value (c.in_err-add.ensures.many.0 refl) c.from_residual.ensures.0

pub loop-offset-preserved : goal.loop-offset-preserved
loop-offset-preserved c =
    c.in_ok-add.ensures.ok
    ∙ ap (λ l. l ++ (c.saturating_add.result ∷ [])) c.loop-offset.invariant
    ∙ shift-more _ c.args.by c.saturating_add.result _ c.loop-offset.offset-index (sum_is _ _ _ c.saturating_add.ensures) c.loop-offset-test.true

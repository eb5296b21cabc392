use mathlib.Core.Path.{ap, ◌∙◌}
use native.Mathlib.Omega.{arith}
use lib.ListN.{length, take, length-take}
use Rattle.shapes.specs.Model.{list_of}
use Rattle.shapes.proofs.Text.{within_none, within_in, within_out, within_short}
use Rattle.shapes.proofs.places.Places.within.Goals as goal
use Rattle.shapes.proofs.places.Places.within.Goals.{then-contains, else-contains}

pub loop-offset-init : goal.loop-offset-init
loop-offset-init c = c.new-inside.ensures ∙ within_none c.args.at c.args.size c.as_slice-offset-items.result.now

pub push-requires : goal.push-requires
push-requires c =
    omega (arith, ap length c.loop-offset.invariant, ap length c.as_slice-offset-items.ensures.value, within_short c.args.at c.args.size (take c.loop-offset.offset-index c.as_slice-offset-items.result.now), length-take c.loop-offset.offset-index c.as_slice-offset-items.result.now)

pub loop-offset-preserved : goal.loop-offset-preserved
loop-offset-preserved c =
    elim c.if-contains.branch [
      | then-contains w ↦ ap list_of w.inside-is ∙ w.push.ensures ∙ within_in _ _ _ _ _ c.loop-offset.offset-index _ c.saturating_add-end.ensures c.loop-offset-test.true c.loop-offset.invariant c.contains.ensures.value w.if-contains.true
      | else-contains w ↦ ap list_of w.inside-is ∙ within_out _ _ _ _ _ c.loop-offset.offset-index _ c.saturating_add-end.ensures c.loop-offset-test.true c.loop-offset.invariant c.contains.ensures.value w.if-contains.false
    ]

use Rattle.std.proofs.Common.{sym, ap, ◌∙◌, arith}
use Rattle.frame.specs.Words.{counted}
use Rattle.frame.specs.Model.{valued}
use Rattle.frame.specs.declared.slot.Slot.{Slot}
use Rattle.frame.proofs.Words.{few_counted, plain_value, held_value}
use Rattle.frame.proofs.slot.ValueFromHeld.from.Goals as goal

pub from_slice-requires : goal.from_slice-requires
from_slice-requires c = omega (arith, few_counted c.args.held.word)

pub returns-in-None : goal.returns-in-None
returns-in-None c =
    let l = c.args.held.places.now in
    c.from.ensures ∙ plain_value c.from-shape.result l c.in-None.is ∙ ap (λ (slot : Slot). valued slot l) c.from-shape.ensures

pub returns-in-Some : goal.returns-in-Some
returns-in-Some c =
    let l = c.args.held.places.now in
    held_value c.from-shape.result c.from_slice.result l c.in-Some.field-0 c.in-Some.is (c.args.held.counted ∙ sym (ap (λ (slot : Slot). counted slot.count) c.from-shape.ensures)) c.from_slice.ensures
    ∙ ap (λ (slot : Slot). valued slot l) c.from-shape.ensures

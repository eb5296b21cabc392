use Rattle.std.proofs.Common.{rules, ℕ, ◌*◌, List, length, refl, ap, arith, ◌∙◌, nat_eq}
use Rattle.std.proofs.lemmas.Iterator.{YieldsList-from_range}
use Rattle.std.proofs.lemmas.Iterator.Search.{all_from_yields_List}
use borrow.Author.Tests.{tests}
use Rattle.definition.specs.Shapes.{same_places}
use Rattle.definition.specs.Effects.{places_within}
use Rattle.shapes.specs.Model.{list_of}
use Rattle.shapes.proofs.Held.{count_back}
use Rattle.shapes.proofs.Alike.{alike_few, all_alike}
use Rattle.shapes.proofs.places.Places.elements_alike.Goals as goal

pub returns-then-from-elements : goal.returns-then-from-elements
returns-then-from-elements c =
    c.is_empty.ensures
    ∙ ap (λ (l : List ℕ). nat_eq (length l) 0) (c.as_slice.ensures.value ∙ c.within.ensures)
    ∙ alike_few c.args.elements c.args.size (list_of c.args.self.now) (omega (arith, count_back _ _ c.args.self.now.padded)) (omega arith)

pub returns : goal.returns
returns c =
    all_from_yields_List (λ (k : ℕ). same_places (places_within (k * c.args.size) c.args.size (list_of c.args.self.now)) (list_of c.within-first.result)) _ _ _ c.all.ensures.ran (YieldsList-from_range 0 c.args.elements c.args.elements refl (omega arith)) (λ x b q k. search (rules, tests))
    ∙ all_alike c.args.elements c.args.size (list_of c.args.self.now) (list_of c.within-first.result) c.within-first.ensures

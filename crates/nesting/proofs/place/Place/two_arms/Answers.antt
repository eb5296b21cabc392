-- `nesting::place::Place::two_arms` meets its contract. Assumes nothing.
use Rattle.std.proofs.Common.{sym, ◌∙◌, arith, ltb-true}
use Rattle.nesting.proofs.Laws.{opens_if, two_short, two_push, two_open}
use Rattle.nesting.proofs.place.Place.two_arms.Goals as goal
use Rattle.nesting.proofs.place.Place.two_arms.Goals.{then-middle-closer, else-middle-closer}

pub returns : goal.returns
returns c = λ d target H z x y. opens_if d _ c.if-middle-closer.then_some _ c.then_some.result c.then_some.ensures
    (λ t. elim c.if-middle-closer.branch [
      | then-middle-closer w ↦ rw z (two_push d c.args.self.now H target c.args.closer x y (omega arith) (w.ends.ensures.0 (sym w.then_some-is ∙ t)))
      | else-middle-closer w ↦ absurd (omega (arith, ltb-true c.args.middle c.args.closer (sym w.then_some-is ∙ t)))
    ])
    (λ f k. elim c.if-middle-closer.branch [
      | then-middle-closer w ↦ two_open d c.args.self.now H target c.args.closer x y (λ o. f (w.then_some-is ∙ w.ends.ensures.1 o)) k
      | else-middle-closer w ↦ two_short d c.args.self.now H target c.args.closer x y (omega arith) k
    ])

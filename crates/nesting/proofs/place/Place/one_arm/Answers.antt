-- `nesting::place::Place::one_arm` meets its contract. Assumes nothing.
use Rattle.nesting.proofs.Laws.{opens_if, one_push, one_open}
use Rattle.nesting.proofs.place.Place.one_arm.Goals as goal

pub returns : goal.returns
returns c = λ d H l x y. opens_if d _ c.ends.result _ c.then_some.result c.then_some.ensures
    (λ t. one_push d c.args.self.now H c.args.closer x y l (c.ends.ensures.0 t))
    (λ f. one_open d c.args.self.now H c.args.closer x y (λ z. f (c.ends.ensures.1 z)))

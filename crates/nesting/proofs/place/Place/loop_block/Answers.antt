-- `nesting::place::Place::loop_block` meets its contract. Assumes nothing.
use Rattle.nesting.proofs.Laws.{opens_if, loop_short, loop_push, loop_open}
use Rattle.nesting.proofs.place.Place.loop_block.Goals as goal

pub returns-then-self-target : goal.returns-then-self-target
returns-then-self-target c = λ d H x. loop_short d c.args.self.now H c.args.target x c.if-self-target.true

pub returns : goal.returns
returns c = λ d H x. opens_if d _ c.ends.result _ c.then_some.result c.then_some.ensures
    (λ t. loop_push d c.args.self.now H c.args.target x c.if-self-target.false (c.ends.ensures.0 t))
    (λ f. loop_open d c.args.self.now H c.args.target x (λ z. f (c.ends.ensures.1 z)))

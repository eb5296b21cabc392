use Rattle.std.proofs.Common.{◌∙◌, sym, arith, rules, tests}
use Rattle.std.proofs.lemmas.Iterator.{YieldsList-from_range}
use Rattle.std.proofs.lemmas.Iterator.Search.{all_from_yields_List}
use Rattle.definition.specs.Shapes.{same_shape}
use Rattle.frame.specs.Model.{value_at}
use Rattle.frame.proofs.Joins.{stack_same, stacks_apart}
use borrow.Author.Tests.{ne_eqb}
use Rattle.frame.proofs.Frame.same_stack.Goals as goal

pub returns-then-s-other : goal.returns-then-s-other
returns-then-s-other c =
    let s = c.args.self.now.state in
    let b = c.args.other.now in
    all_from_yields_List (λ j. same_shape (value_at s j) (value_at b j)) _ _ c.all.result c.all.ensures.ran (YieldsList-from_range 0 s.height s.height (cc) (omega arith)) (λ x b q k. search (rules, tests))
    ∙ stack_same s b c.if-s-other.true

pub returns-else-s-other : goal.returns-else-s-other
returns-else-s-other c =
    let s = c.args.self.now.state in
    let b = c.args.other.now in
    ne_eqb s.height b.height c.if-s-other.false ∙ sym (stacks_apart s b c.if-s-other.false)

use Rattle.std.proofs.Common.{◌∙◌, ◌&&◌, sym, ap, arith, rules, tests}
use Rattle.std.proofs.lemmas.Iterator.{YieldsList-from_range}
use Rattle.std.proofs.lemmas.Iterator.Search.{all_from_yields_List}
use Rattle.shapes.specs.Cover.{covers, covers_all}
use Rattle.frame.specs.Model.{value_at, stack_of}
use borrow.Author.Tests.{eq-eqb, ne_eqb}
use Rattle.frame.proofs.Joins.{stack_covers}
use Rattle.frame.proofs.Frame.covers_stack.Goals as goal

pub returns-then-s-other : goal.returns-then-s-other
returns-then-s-other c =
    let s = c.args.self.now.state in
    let b = c.args.other.now in
    all_from_yields_List (λ j. covers (value_at s j) (value_at b j)) _ _ c.all.result c.all.ensures.ran (YieldsList-from_range 0 s.height s.height (cc) (omega arith)) (λ x b q k. search (rules, tests))
    ∙ stack_covers s b c.if-s-other.true
    ∙ ap (λ t. t && covers_all (stack_of s) (stack_of b)) (sym (eq-eqb s.height b.height c.if-s-other.true))

pub returns-else-s-other : goal.returns-else-s-other
returns-else-s-other c =
    let s = c.args.self.now.state in
    let b = c.args.other.now in
    ne_eqb s.height b.height c.if-s-other.false ∙ ap (λ t. t && covers_all (stack_of s) (stack_of b)) (sym (ne_eqb s.height b.height c.if-s-other.false))

use Rattle.std.proofs.Common.{◌+◌, ◌∙◌, arith, rules, tests}
use Rattle.std.proofs.lemmas.Iterator.{YieldsList-from_range}
use Rattle.std.proofs.lemmas.Iterator.Search.{all_from_yields_List}
use Rattle.shapes.specs.Cover.{covers}
use Rattle.frame.specs.Model.{value_at}
use Rattle.frame.proofs.Joins.{locals_cover}
use Rattle.frame.proofs.State.covers_locals.Goals as goal

pub returns : goal.returns
returns c =
    let f = value_at c.args.self.now in
    let g = value_at c.args.other.now in
    let n = c.args.locals.count in
    all_from_yields_List (λ j. covers (f j) (g j)) _ _ c.all.result c.all.ensures.ran (YieldsList-from_range 64 (64 + n) n (cc) (omega arith)) (λ x b q k. search (rules, tests))
    ∙ locals_cover f g 64 n

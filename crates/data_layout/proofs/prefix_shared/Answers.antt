-- `data_layout::prefix_shared` meets its contract: the chain gives the slots that it counts. Assumes nothing.
use Rattle.std.proofs.Common.{rules, of_calls, ◌∙◌, ◌<◌, arith}
use Rattle.std.specs.List.{range_with_len}
use Rattle.std.proofs.lemmas.Iterator.{YieldsList-from_range, serves_from_Range}
use Rattle.std.proofs.lemmas.Iterator.Consumers.{count_from_yields_List}
use Rattle.std.proofs.lemmas.Iterator.Search.{YieldsList-from_take_while}
use Rattle.std.proofs.lemmas.List.Folds.{length-prefix_len}
use Rattle.bytecode.specs.Tables.{cap}
use Rattle.bytecode.specs.Meaning.{count_low}
use Rattle.data_layout.proofs.Laws.{shares, shared_is, prefixed}
use Rattle.data_layout.proofs.prefix_shared.Goals as goal

pub count-requires-2-clause-can : goal.count-requires-2-clause-can
unfolding cap
count-requires-2-clause-can c =
    let n : c.count.result < 257 = omega (arith, c.count.ensures, count_low c.args.t.now 1) in
    (tt, serves_from_Range (λ x q e. search rules) (λ x a b. search (of_calls, rules)))

pub returns : goal.returns
returns c =
    count_from_yields_List c.take_while.result c.count-2.result c.count-2.ensures.ran
    (YieldsList-from_take_while _ (shares c.args.t.now) (YieldsList-from_range 0 c.count.result c.count.result (cc) (omega arith)) c.take_while.ensures.closure c.take_while.ensures.done (λ x b q k. (search rules, shared_is _ _ (search rules))))
    ∙ length-prefix_len (shares c.args.t.now) (range_with_len 0 c.count.result)
    ∙ prefixed c.args.t.now c.count.result c.count.ensures

-- `sheets::all_instructions` meets its contract: the chain gives the number of instructions of each chunk. Assumes nothing.
use Rattle.std.proofs.Common.{rules, of_calls, ◌∙◌, ◌<◌, ◌≤◌, ◌^◌, arith, length}
use Rattle.std.specs.List.{range_with_len}
use Rattle.std.proofs.lemmas.List.FromFn.{length-range_with_len}
use Rattle.std.proofs.lemmas.Iterator.{YieldsList-from_range, YieldsList-from_map, serves_from_Range}
use Rattle.std.proofs.lemmas.Iterator.Adapters.{fits_from_length, at_most_from_yields_List}
use Rattle.std.proofs.lemmas.Iterator.Consumers.{sum_by_from_yields_List}
use Rattle.bytecode.specs.Tables.{cap}
use Rattle.bytecode.specs.Meaning.{count_low, op_count}
use Rattle.sheets.proofs.Laws.{counted}
use Rattle.sheets.proofs.all_instructions.Goals as goal

pub sum-requires-clause-can : goal.sum-requires-clause-can
unfolding cap
sum-requires-clause-can c =
    let n : c.count.result < 65 = omega (arith, c.count.ensures, count_low c.args.t.now 7) in
    (tt, serves_from_Range (λ x q e. search rules) (λ x a b. search (of_calls, rules)))

pub sum-requires-clause-fits : goal.sum-requires-clause-fits
unfolding cap
sum-requires-clause-fits c =
    let n : length (range_with_len 0 c.count.result) ≤ 64 = omega (arith, length-range_with_len 0 c.count.result, c.count.ensures, count_low c.args.t.now 7) in
    fits_from_length _ _ 64 (2 ^ 64) (at_most_from_yields_List (YieldsList-from_range 0 c.count.result c.count.result (cc) (omega arith)) n) c.map.ensures.closure (omega arith) (λ x r q k. search rules)

pub returns : goal.returns
returns c =
    sum_by_from_yields_List (op_count c.args.t.now) (range_with_len 0 c.count.result) c.map.result c.sum.result c.sum.ensures.ran
    (YieldsList-from_map _ (op_count c.args.t.now) (YieldsList-from_range 0 c.count.result c.count.result (cc) (omega arith)) c.map.ensures.closure (λ x r q k. search rules))
    ∙ counted c.args.t.now c.count.result c.count.ensures

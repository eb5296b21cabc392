use mathlib.Core.Path.{◌≡◌, ◌∙◌, refl, ap}
use Prim.Native.Nat.{◌<◌}
use native.Mathlib.Omega.{arith}
use borrow.Author.Rules.{rules}
use borrow.Author.Tests.{tests}
use Rattle.std.proofs.lemmas.Iterator.{YieldsList-from_range}
use Rattle.std.proofs.lemmas.Iterator.Adapters.{serves_from_places}
use Rattle.std.proofs.lemmas.Iterator.Search.{any_from_yields_List}
use Rattle.std.proofs.lemmas.List.FromFn.{length-range_with_len, get_or-range_with_len}
use Rattle.std.specs.List.{list_any, range_with_len}
use Rattle.bytecode.specs.Lists.{limited}
use Rattle.bytecode.specs.Meaning.{count_low, table_header}
use Rattle.bytecode.specs.Tables.{cap, base, stride}
use Rattle.bytecode.proofs.Laws.{has_size, has_sizes}
use Rattle.bytecode.proofs.has_enum_size.Goals as goal

pub any-requires-clause-callable : goal.any-requires-clause-callable
unfolding cap
any-requires-clause-callable c =
    let n = c.count.result in
    serves_from_places (YieldsList-from_range 0 n n refl (omega arith)) (λ x q r. search rules)
    (λ x k l e. let b : x < 64 = omega (arith, length-range_with_len 0 n, get_or-range_with_len 0 n k x (omega (arith, length-range_with_len 0 n)), count_low c.args.t.now 4, c.count.ensures) in search rules)

pub returns : goal.returns
unfolding table_header base stride
returns c =
    let n = c.count.result in
    let h : c.any.result ≡ list_any (has_size c.args.t.now c.min.result c.args.s) (range_with_len 0 n) =
    any_from_yields_List (has_size c.args.t.now c.min.result c.args.s) _ _ c.any.result c.any.ensures.ran (YieldsList-from_range 0 n n refl (omega arith)) (λ x b q k. search (rules, tests)) in
    h ∙ has_sizes c.args.t.now c.min.result c.args.s (c.min.ensures ∙ ap (limited 8) c.word.ensures) n c.count.ensures

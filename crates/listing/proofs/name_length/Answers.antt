use Rattle.std.specs.Prelude.{take, drop}
use Rattle.std.proofs.Common.{◌≡◌, ◌∙◌, refl, ap, rules, arith, length, ◌-◌}
use borrow.Author.Tests.{tests}
use Rattle.std.proofs.lemmas.Iterator.{YieldsList-from_range}
use Rattle.std.proofs.lemmas.Iterator.Search.{find_from_yields_List}
use Rattle.listing.specs.OpLines.{name_ends, ends_at, name_found, from_is}
use Rattle.listing.proofs.name_length.Goals as goal

pub returns : goal.returns
returns c =
    let bs = c.args.bytes.now in
    c.unwrap_or.ensures
    ∙ name_found bs c.find.result
    (find_from_yields_List (ends_at bs) _ _ c.find.result c.find.ensures.ran (YieldsList-from_range 0 (length bs) (length bs) refl (omega arith))
    (λ x b q k.
    let e : b ≡ name_ends (take (length bs - x) (drop x bs)) = search (rules, tests, k.called.met.0) in
    (search (rules, k.called.met.1), e ∙ ap name_ends (from_is bs x))))

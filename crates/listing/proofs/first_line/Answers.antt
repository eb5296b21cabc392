use Rattle.std.proofs.Common.{rules}
use borrow.Author.Tests.{tests}
use Rattle.std.proofs.lemmas.Iterator.{YieldsList-from_slice}
use Rattle.std.proofs.lemmas.Iterator.Search.{position_from_yields_List}
use Rattle.listing.specs.Reads.{is_lf, lf_none, lf_some}
use Rattle.listing.proofs.first_line.Goals as goal

pub returns-in_err-end : goal.returns-in_err-end
returns-in_err-end c =
    lf_none _ _
    (position_from_yields_List is_lf _ _ c.position.result c.position.ensures.ran (YieldsList-from_slice _ c.iter.ensures.rest) (λ x b q k. search (rules, tests)))
    c.in_err-end.was _ c.from_residual.ensures

pub returns : goal.returns
returns c =
    lf_some _ _
    (position_from_yields_List is_lf _ _ c.position.result c.position.ensures.ran (YieldsList-from_slice _ c.iter.ensures.rest) (λ x b q k. search (rules, tests)))
    _ c.in_ok-end.was

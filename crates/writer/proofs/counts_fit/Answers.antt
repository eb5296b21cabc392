-- The chain tests each table. Assumes nothing.
use Rattle.std.proofs.Common.{rules, refl, ◌∙◌}
use borrow.Author.Tests.{tests}
use Rattle.std.proofs.lemmas.Iterator.{YieldsList-from_range}
use Rattle.std.proofs.lemmas.Iterator.Search.{all_from_yields_List}
use Rattle.writer.proofs.Steps.{fits_table, counts_all}
use Rattle.writer.proofs.counts_fit.Goals as goal

pub returns : goal.returns
returns c =
    all_from_yields_List (fits_table c.args.t.now) _ _ c.all.result c.all.ensures.ran (YieldsList-from_range 1 10 9 refl refl) (λ x b q k. search (rules, tests))
    ∙ counts_all c.args.t.now 1 9

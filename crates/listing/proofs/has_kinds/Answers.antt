use Rattle.std.specs.Prelude.{take, drop}
use Rattle.std.proofs.Common.{◌≡◌, rules, length, ◌-◌, ◌∙◌, ne_eqb}
use borrow.Author.Tests.{tests}
use Rattle.std.proofs.lemmas.Iterator.{YieldsList-from_slice, YieldsList-from_zip}
use Rattle.std.proofs.lemmas.Iterator.Search.{all_from_yields_List}
use Rattle.bytecode.specs.Meaning.{maxima_of}
use Rattle.listing.specs.Kinds.{is_fine, named_all}
use Rattle.listing.specs.OpRead.{kinds_stored}
use Rattle.listing.proofs.has_kinds.Goals as goal

pub returns-then-float-ne0 : goal.returns-then-float-ne0
returns-then-float-ne0 c = λ vs st. rw (ne_eqb c.args.float 0 c.if-float-ne0.true) (named_all _ _ vs c.if-float-ne0.true)

pub returns-else-float-ne0 : goal.returns-else-float-ne0
returns-else-float-ne0 c = λ vs st.
    let words = c.args.values.now.words in
    let a : c.zip.result.a.rest.now ≡ maxima_of c.args.row.number = search rules in
    let b : c.zip.result.b.rest.now ≡ take (length words - 1) (drop 1 words) = search rules in
    all_from_yields_List {s = c.zip.result} (is_fine c.args.float) c.all.new.self _ c.all.result c.all.ensures.ran (YieldsList-from_zip (YieldsList-from_slice _ a) (YieldsList-from_slice _ b))
    (λ x b q k. (search (rules, k.met.1), search (rules, tests, k.met.0)))
    ∙ kinds_stored c.args.float c.args.row c.args.values.now vs st

use Rattle.std.proofs.Common.{◌≡◌, sym, ◌∙◌, ap, ap₂, length, rules, ℕ, List, ◌++◌, ◌-◌}
use Rattle.std.proofs.lemmas.List.{drop-replicate}
use Rattle.std.proofs.Math.ListN.{replicate}
use Rattle.answer.specs.Numbers.{row_of}
use Rattle.answer.proofs.row.Goals as goal

pub returns : goal.returns
unfolding row_of
returns g c =
    let e : length c.args.values ≡ g.row.N = search rules in
    let d = drop-replicate g.row.N 8 0 in
    ap₂ (λ (n : ℕ) (xs : List ℕ). (record { count = n; words = xs })) (sym e) (ap₂ (λ xs ys. xs ++ ys) c.copy_from_slice.ensures.after (d ∙ ap (λ n. replicate (8 - n) 0) (sym e)))

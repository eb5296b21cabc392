-- The row in the place of the words that stood there; then the count.
use mathlib.Core.List.{List}
use mathlib.Core.Logic.{⊎_elim}
use mathlib.Core.Path.{◌≡◌, ◌∙◌, sym, ap}
use native.Mathlib.Omega.{arith}
use borrow.Author.Rules.{rules}
use borrow.Rule.Slice.PartMut.{put_mid}
use Prim.Native.Nat.{ℕ, ◌+◌, ◌≤◌, ◌<◌}
use lib.ListN.{get_or, length, take, set, length-set}
use Rattle.std.proofs.Common.{get_or-set_same, get_or-set_other}
use Rattle.std.proofs.lemmas.List.{places}
use Rattle.bytecode.specs.Tables.{tables, size, cap, stride, row_at, Appended, row_fits, row_low, stride_small}
use Rattle.bytecode.proofs.append.Goals as goal

module _ (t vs ys : List ℕ) (k at s n : ℕ) (hk : k < tables) (long : length t ≡ size) (room : get_or t k 0 < cap k)
    (a : at ≡ row_at k (get_or t k 0)) (f : s ≡ stride k) (m : n ≡ s) (w : ys ≡ take s vs) (v : length vs ≡ 19) where
  abbrev laid : List ℕ
  laid = put_mid at n t ys

  inside : at + s ≤ length t
  inside = omega (arith, row_fits t k hk long room)

  whole : length ys ≡ s
  whole = rw w (let l = stride_small k hk in search (rules, places))

  laid_long : length laid ≡ length t
  laid_long = let i = inside in let l = whole in search (rules, places)

  laid_here : (j : ℕ) → j < s → get_or laid (at + j) 0 ≡ get_or vs j 0
  laid_here j h = let i = inside in let l = whole in search (rules, places)

  laid_before : (i : ℕ) → i < at → get_or laid i 0 ≡ get_or t i 0
  laid_before i h = let i = inside in let l = whole in search (rules, places)

  laid_after : (i : ℕ) → at + s ≤ i → get_or laid i 0 ≡ get_or t i 0
  laid_after i h = let i = inside in let l = whole in search (rules, places)

  stored : Appended t k vs (set laid k (get_or t k 0 + 1))
  stored =
      let low = row_low t k hk long room in
      let i = inside in
      let l = laid_long in
      record {
        long = length-set laid k (get_or t k 0 + 1) ∙ laid_long;
        count = get_or-set_same laid k (get_or t k 0 + 1) 0 (omega arith);
        here =
            λ j h. get_or-set_other laid k (row_at k (get_or t k 0) + j) (get_or t k 0 + 1) 0 (λ e. absurd (omega arith))
            ∙ ap (λ (m : ℕ). get_or laid (m + j) 0) (sym a)
            ∙ laid_here j (omega arith);
        there =
            λ j ne h. get_or-set_other laid k j (get_or t k 0 + 1) 0 ne
            ∙ ⊎_elim (λ b. laid_before j (omega arith)) (λ b. laid_after j (omega arith)) h;
      }

pub returns : goal.returns
returns c = stored c.args.t.now c.args.row.now _ c.args.k c.row_place-at.result c.layout_of-stride.result.stride _ c.requires.0 c.requires.1 c.requires.2 c.row_place-at.ensures.0 c.layout_of-stride.ensures.stride_is (omega arith) c.copy_from_slice.ensures.after c.told-row

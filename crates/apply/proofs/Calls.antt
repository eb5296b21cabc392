-- The arguments of a call against its parameters.
use Rattle.std.proofs.Common.{◌≡◌, Bool, refl, sym, ap, ap₂, ◌∙◌, ℕ, zero, suc, min, ◌+◌, ◌-◌, ◌≤◌, ◌<◌, add-one, List, [], ◌∷◌, map, length, get_or, take, drop, drop-cons, reverse, arith}
use Rattle.std.proofs.Math.ListN.{length-take, get_elem?}
use Rattle.std.proofs.Math.Option.{Option, none}
use mathlib.Core.Logic.{⊎_elim}
use Rattle.std.proofs.lemmas.List.{length-reverse, get_or-reverse, get_or-take, drop_all}
use Rattle.definition.specs.Basics.{first, unless}
use Rattle.definition.specs.Shapes.{Shape as AnyShape, unknown, Wire, top, from_wire}
use Rattle.std.proofs.lemmas.List.{get_or-map}
use Rattle.shapes.proofs.Lists.{lt_or_ge}
use Rattle.definition.specs.Instructions.{Sig}
use Rattle.definition.specs.Module.{no_sig}
use Rattle.definition.specs.Tests.{fits_declared, args_test, call_test}

-- ── The n top operands, in the order of the parameters ────────────────────────────────────

module _ (st : List AnyShape) (n : ℕ) (h : n ≤ length st) where
  taken : length (take n st) ≡ n
  taken = omega (arith, length-take n st)

  pub args_length : length (reverse (take n st)) ≡ n
  args_length = length-reverse (take n st) ∙ taken

  pub args_at : (a : ℕ) → a < n → get_or (reverse (take n st)) a unknown ≡ get_or st (n - 1 - a) unknown
  args_at a l =
      get_or-reverse (take n st) a unknown (omega (arith, taken))
      ∙ ap (λ (m : ℕ). get_or (take n st) (m - 1 - a) unknown) taken
      ∙ get_or-take n st (n - 1 - a) unknown (omega arith)

-- ── The loop over them ────────────────────────────────────────────────────────────────────

module _ (ip k : ℕ) (xs : List AnyShape) (ps : List Wire) where
  abbrev pub args_from : ℕ → Option (List ℕ)
  args_from a = args_test ip k a (drop a xs) (drop a ps)

  pub args_next : (a : ℕ) → a < length xs → a < length ps
      → args_from a ≡ first (unless (fits_declared (get_or xs a unknown) (from_wire (get_or ps a top))) (14 ∷ ip ∷ k ∷ a ∷ [])) (args_from (a + 1))
  unfolding args_test
  args_next a h g = rw (add-one a) (ap₂ (λ (y : List AnyShape) (q : List Wire). args_test ip k a y q) (drop-cons xs a unknown h) (drop-cons ps a top g))

  no_param : (a : ℕ) (ys : List AnyShape) → args_test ip k a ys [] ≡ none
  unfolding args_test
  no_param a [] = refl
  no_param a (y ∷ ys) = refl

  pub args_end : (a : ℕ) → min (length xs) (length ps) ≤ a → args_from a ≡ none
  unfolding args_test
  args_end a h =
      ⊎_elim (λ (l : a < length ps). rw (drop_all a xs (omega arith))) (λ (l : length ps ≤ a). rw (drop_all a ps l) (no_param a (drop a xs))) (lt_or_ge a (length ps))

-- An operand that is an argument against its parameter, and those after it; b says whether it fits.
pub args_step : (ip k n : ℕ) (st : List AnyShape) (ps : List Wire) (a : ℕ) (v d : AnyShape) (b : Bool) → n ≤ length st → a < n → a < length ps
    → v ≡ get_or st (n - 1 - a) unknown → d ≡ get_or (map from_wire ps) a unknown → b ≡ fits_declared v d
    → args_from ip k (reverse (take n st)) ps a ≡ first (unless b (14 ∷ ip ∷ k ∷ a ∷ [])) (args_from ip k (reverse (take n st)) ps (a + 1))
args_step ip k n st ps a v d b h l g e f q =
    args_next ip k (reverse (take n st)) ps a (omega (arith, args_length st n h)) g
    ∙ ap (λ (z : Bool). first (unless z (14 ∷ ip ∷ k ∷ a ∷ [])) (args_from ip k (reverse (take n st)) ps (a + 1)))
    (ap₂ fits_declared (args_at st n h a l ∙ sym e) (sym (get_or-map from_wire ps a top unknown g) ∙ sym f) ∙ sym q)

-- the test of a call, from the signatures
pub call_is : (ip callee : ℕ) (args : List AnyShape) (sigs : List Sig) (k : ℕ)
    → args_test ip callee 0 args (get_or sigs k no_sig).params ≡ call_test ip callee args (get_elem? sigs k)
unfolding call_test no_sig
call_is ip callee args [] k = no_param ip callee args [] 0 args
call_is ip callee args (g ∷ sigs) zero = refl
call_is ip callee args (g ∷ sigs) (suc k) = call_is ip callee args sigs k

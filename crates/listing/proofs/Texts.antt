-- A text at the front, as std tests it.
use Rattle.std.specs.Prelude.{◌≡◌, refl, Bool, true, false, ◌&&◌, [], ◌∷◌, length, take, drop, eqb, T}
use Rattle.std.proofs.Common.{sym, ap, ◌∙◌, subst, eqb-true, eq-eqb}
use Rattle.std.proofs.Math.Option.{Option, none, some}
use lib.Pointwise.{pointwise}
use Rattle.definition.specs.Format.{Bytes, strip}

true_false : {P : Type 0} → true ≡ false → P
true_false e = absurd (subst T e tt)

and_both : (a b : Bool) → (a && b) ≡ true → (a ≡ true) × (b ≡ true)
and_both true b e = (refl, e)
and_both false b e = true_false (sym e)

pub strip_yes : (t bs : Bytes) → pointwise eqb (take (length t) bs) t ≡ true → strip t bs ≡ some (drop (length t) bs)
unfolding strip
strip_yes [] bs e = refl
strip_yes (t ∷ ts) [] e = true_false (sym e)
strip_yes (t ∷ ts) (b ∷ bs) e =
    let p = and_both (eqb b t) (pointwise eqb (take (length ts) bs) ts) e in
    rw (strip, eq-eqb t b (sym (eqb-true b t p.0))) (strip_yes ts bs p.1)

pub strip_no : (t bs : Bytes) → pointwise eqb (take (length t) bs) t ≡ false → strip t bs ≡ none
unfolding strip
strip_no [] bs e = true_false e
strip_no (t ∷ ts) [] e = refl
strip_no (t ∷ ts) (b ∷ bs) e = go (eqb t b) refl (λ d. strip_no ts bs d)
  where
    go : (x : Bool) → eqb t b ≡ x → (pointwise eqb (take (length ts) bs) ts ≡ false → strip ts bs ≡ none)
        → ◌≡◌ {A = Option Bytes} (elim x as (λ _. Option Bytes) [ true ↦ strip ts bs | false ↦ none ]) none
    go true q f = f (sym (ap (λ (y : Bool). y && pointwise eqb (take (length ts) bs) ts) (eq-eqb b t (sym (eqb-true t b q)))) ∙ e)
    go false q f = refl

pub ruleset texts = (strip_yes, strip_no)

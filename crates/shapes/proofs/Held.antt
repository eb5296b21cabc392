-- Laws of the sixteen numbers that hold text places.
-- Assumes nothing.
use mathlib.Core.Path.{◌≡◌, refl, sym, ap, ap₂, ◌∙◌}
use mathlib.Core.Bool.{Bool, true}
use mathlib.Core.Option.{Option, none, some}
use mathlib.Core.List.{List, ◌++◌}
use Prim.Native.Nat.{ℕ, ◌+◌, ◌-◌, ◌<◌}
use native.Mathlib.Omega.{arith}
use Rattle.std.proofs.lemmas.Bool.{false≢true}
use lib.ListN.{length, set, take, drop, replicate}
use Rattle.std.proofs.lemmas.List.{take-append-drop, length-take-le, length-set, drop-set-lt, drop-drop, drop-replicate}
use Rattle.std.specs.Prelude.{Option as Maybe, None, Some}
use Rattle.std.specs.Option.{option_eq}
use Rattle.std.proofs.lemmas.Bool.Decides.{same_from_decides, Decides-eqb, Decides-and, Decides-like}
use Rattle.std.proofs.lemmas.Slice.Eq.{bytes_eq-Decides, compares_Decides}
use Rattle.std.specs.Bool.{Decides}
use Rattle.definition.specs.Shapes.{same_places, same_text}
use Rattle.shapes.specs.Padded.{IsPadded}
use Rattle.shapes.specs.Model.{list_of, places_of}
use Rattle.shapes.specs.declared.places.Places.{Places}
use Rattle.shapes.specs.contracts.places.PlacesPartialEq.TheImpl.{ghosts as held}

-- ── The same places ───────────────────────────────────────────────────────────────────────

same_decides : (xs ys : List ℕ) → Decides (same_places xs ys) (xs ≡ ys)
unfolding same_places
same_decides = compares_Decides same_places (record { empty = refl; shorter = λ y ys. refl; longer = λ x xs. refl; heads = λ x y xs ys. refl })

pub list_sound : (xs ys : List ℕ) → same_places xs ys ≡ true → xs ≡ ys
list_sound xs ys = (same_decides xs ys).0

pub list_refl : (xs : List ℕ) → same_places xs xs ≡ true
list_refl xs = (same_decides xs xs).1 refl

pub text_sound : (s t : Option (List ℕ)) → same_text s t ≡ true → s ≡ t
unfolding same_text
text_sound none none e = refl
text_sound none (some y) e = absurd (false≢true e)
text_sound (some x) none e = absurd (false≢true e)
text_sound (some x) (some y) e = ap some (list_sound x y e)

pub text_refl : (t : Option (List ℕ)) → same_text t t ≡ true
unfolding same_text
text_refl none = refl
text_refl (some x) = list_refl x

-- the count and the sixteen numbers come back from the list
pub count_back : (n : ℕ) (at : List ℕ) → IsPadded n at → length (take n at) ≡ n
count_back n at h = length-take-le n at (omega (arith, h.few, h.long))

at_back : (n : ℕ) (at : List ℕ) → IsPadded n at → take n at ++ replicate (16 - n) 0 ≡ at
at_back n at h = ap (λ (r : List ℕ). take n at ++ r) (sym h.rest) ∙ take-append-drop n at

fields_same : (n m : ℕ) (at to : List ℕ) → IsPadded n at → IsPadded m to → take n at ≡ take m to → (n ≡ m) × (at ≡ to)
fields_same n m at to h g e =
    let c : n ≡ m = sym (count_back n at h) ∙ ap length e ∙ count_back m to g in
    (c, sym (at_back n at h) ∙ ap₂ (λ (l : List ℕ) (k : ℕ). l ++ replicate (16 - k) 0) e c ∙ at_back m to g)

places_is : (p q : Places) → held.eq p q ≡ same_places (list_of p) (list_of q)
places_is p q =
    same_from_decides (held.eq p q) (same_places (list_of p) (list_of q))
    (Decides-like (held.eq p q) (λ (e, f). ap₂ take e f) (fields_same _ _ _ _ p.padded q.padded)
    (Decides-and _ _ (Decides-eqb p.count q.count) (bytes_eq-Decides p.at q.at)))
    (same_decides (list_of p) (list_of q))

-- the same, of places that are known as lists
pub places_test : (p q : Places) (xs ys : List ℕ) (b : Bool) → list_of p ≡ xs → list_of q ≡ ys → b ≡ held.eq p q → b ≡ same_places xs ys
places_test p q xs ys b e f g = g ∙ places_is p q ∙ ap₂ same_places e f

-- the derived `==` is the definition's
pub text_is : (p q : Maybe Places) → option_eq held.eq p q ≡ same_text (places_of p) (places_of q)
unfolding same_text places_of
text_is None None = refl
text_is None (Some q) = refl
text_is (Some p) None = refl
text_is (Some p) (Some q) = places_is p q

-- one more
pub padded_push : (n o : ℕ) (at : List ℕ) → IsPadded n at → length (take n at) < 16 → IsPadded (n + 1) (set at n o)
padded_push n o at h l =
    record {
      few = omega (arith, count_back n at h);
      long = length-set at n o ∙ h.long;
      rest = drop-set-lt (n + 1) at n o (omega arith) ∙ sym (drop-drop 1 n at) ∙ ap (drop 1) h.rest ∙ drop-replicate 1 (16 - n) 0 ∙ ap (λ (k : ℕ). replicate k 0) (let e : 16 - n - 1 ≡ 16 - (n + 1) = omega arith in e);
    }

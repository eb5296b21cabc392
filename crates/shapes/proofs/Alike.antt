-- More elements than places: all are alike exactly where no place lies inside them.
-- Assumes nothing.
use mathlib.Core.Path.{◌≡◌, refl, sym, ap, ap₂, ◌∙◌}
use mathlib.Core.Bool.{Bool, true, false, ◌&&◌}
use mathlib.Core.Logic.{⊎_elim}
use mathlib.Core.List.{List, [], ◌∷◌}
use Prim.Native.Nat.{ℕ, zero, suc, ◌+◌, ◌*◌, ◌-◌, ◌≤◌, ◌<◌}
use native.Mathlib.Omega.{arith}
use borrow.Author.Tests.{le-leb, lt-leb, le-ltb, lt-ltb}
use lib.Dec.{leb, ltb, eqb}
use lib.ListN.{length}
use Rattle.std.proofs.lemmas.Bool.{cases_lt, and_parts}
use Rattle.std.proofs.lemmas.Bool.Decides.{same_from_decides, Decides-eqb}
use Rattle.shapes.proofs.Held.{list_sound}
use Rattle.std.specs.List.{list_all, range_with_len}
use Rattle.definition.specs.Basics.{saturating_add}
use Rattle.definition.specs.Shapes.{same_places}
use Rattle.definition.specs.Effects.{keep_if, places_within, elements_alike}
use Rattle.shapes.proofs.Text.{sum_fits, within_short}

-- ── Counted places ───────────────────────────────────────────────────────────────────────

abbrev one : Bool → ℕ
one true = 1
one false = 0

-- how many of the places lie from a on, below b
abbrev tally : ℕ → ℕ → List ℕ → ℕ
tally a b [] = 0
tally a b (o ∷ os) = one (leb a o && ltb o b) + tally a b os

keep_counts : (b : Bool) (o : ℕ) (os : List ℕ) → length (keep_if b o os) ≡ one b + length os
unfolding keep_if
keep_counts true o os = omega arith
keep_counts false o os = omega arith

within-counts : (at n end : ℕ) (os : List ℕ) → saturating_add at n ≡ end → length (places_within at n os) ≡ tally at end os
unfolding places_within
within-counts at n end [] e = refl
within-counts at n end (o ∷ os) e =
    keep_counts (leb at o && ltb o (saturating_add at n)) (o - at) (places_within at n os)
    ∙ ap₂ (λ (x y : ℕ). one (leb at o && ltb o x) + y) e (within-counts at n end os e)

one_split : (a b o : ℕ) → a ≤ b → one (leb 0 o && ltb o b) ≡ one (leb 0 o && ltb o a) + one (leb a o && ltb o b)
one_split a b o h =
    ⊎_elim (λ (u : o < a). rw (le-leb 0 o (omega arith), lt-ltb o b (omega arith), lt-ltb o a u, lt-leb a o u))
    (λ (u : a ≤ o).
    ⊎_elim (λ (v : o < b). rw (le-leb 0 o (omega arith), lt-ltb o b v, le-ltb o a u, le-leb a o u))
    (λ (v : b ≤ o). rw (le-leb 0 o (omega arith), le-ltb o b v, le-ltb o a u, le-leb a o u)) (cases_lt o b)) (cases_lt o a)

tally_split : (a b : ℕ) (os : List ℕ) → a ≤ b → tally 0 b os ≡ tally 0 a os + tally a b os
tally_split a b [] h = refl
tally_split a b (o ∷ os) h =
    let x : one (leb 0 o && ltb o b) ≡ one (leb 0 o && ltb o a) + one (leb a o && ltb o b) = one_split a b o h in
    let y : tally 0 b os ≡ tally 0 a os + tally a b os = tally_split a b os h in
    omega arith

-- the places of the first a + n bytes are those of the first a and those of the n after them
split : (a n : ℕ) (os : List ℕ) → a + n ≤ 4294967295
    → length (places_within 0 (a + n) os) ≡ length (places_within 0 a os) + length (places_within a n os)
split a n os h =
    within-counts 0 (a + n) (a + n) os (sym (sum_fits 0 (a + n) (omega arith)) ∙ omega arith)
    ∙ tally_split a (a + n) os (omega arith)
    ∙ ap₂ (λ (x y : ℕ). x + y) (sym (within-counts 0 a a os (sym (sum_fits 0 a (omega arith)) ∙ omega arith))) (sym (within-counts a n (a + n) os (sym (sum_fits a n h))))

-- ── Alike ────────────────────────────────────────────────────────────────────────────────

same_empty : (xs ys : List ℕ) → length xs ≡ 0 → length ys ≡ 0 → same_places xs ys ≡ true
unfolding same_places
same_empty [] [] e f = refl
same_empty [] (y ∷ ys) e f = absurd (omega arith)
same_empty (x ∷ xs) ys e f = absurd (omega arith)

-- e alike elements hold e times as many places as the first
alike_counts : (e n : ℕ) (os : List ℕ) → e * n ≤ 4294967295 → elements_alike e n os ≡ true
    → length (places_within 0 (e * n) os) ≡ e * length (places_within 0 n os)
unfolding elements_alike
alike_counts zero n os h a =
    ap (λ (z : ℕ). length (places_within 0 z os)) (let z : 0 * n ≡ 0 = omega arith in z)
    ∙ within-counts 0 0 0 os (sym (sum_fits 0 0 (omega arith)))
    ∙ tally_none os
    ∙ omega arith
  where
    tally_none : (os : List ℕ) → tally 0 0 os ≡ 0
    tally_none [] = refl
    tally_none (o ∷ os) = rw (le-leb 0 o (omega arith), le-ltb o 0 (omega arith), tally_none os)
alike_counts (suc e) n os h a =
    let w : suc e * n ≡ e * n + n = omega arith in
    let b : same_places (places_within (e * n) n os) (places_within 0 n os) ≡ true = (and_parts (same_places (places_within (e * n) n os) (places_within 0 n os)) (elements_alike e n os) a).0 in
    let l : length (places_within (e * n) n os) ≡ length (places_within 0 n os) = ap length (list_sound _ _ b) in
    let k : length (places_within 0 (e * n) os) ≡ e * length (places_within 0 n os) = alike_counts e n os (omega arith) (and_parts (same_places (places_within (e * n) n os) (places_within 0 n os)) (elements_alike e n os) a).1 in
    let s : length (places_within 0 (e * n + n) os) ≡ length (places_within 0 (e * n) os) + length (places_within (e * n) n os) = split (e * n) n os (omega arith) in
    ap (λ (z : ℕ). length (places_within 0 z os)) w ∙ omega arith

-- elements that hold no place are alike
empty_alike : (e n : ℕ) (os : List ℕ) → e * n ≤ 4294967295 → length (places_within 0 n os) ≡ 0 → length (places_within 0 (e * n) os) ≡ 0
    → elements_alike e n os ≡ true
unfolding elements_alike
empty_alike zero n os h f a = refl
empty_alike (suc e) n os h f a =
    let w : suc e * n ≡ e * n + n = omega arith in
    let s : length (places_within 0 (e * n + n) os) ≡ length (places_within 0 (e * n) os) + length (places_within (e * n) n os) = split (e * n) n os (omega arith) in
    let b : length (places_within 0 (e * n + n) os) ≡ 0 = ap (λ (z : ℕ). length (places_within 0 z os)) (sym w) ∙ a in
    rw (same_empty (places_within (e * n) n os) (places_within 0 n os) (omega arith) f, empty_alike e n os (omega arith) f (omega arith))

-- the first of some elements that hold no place holds none
first_empty : (e n : ℕ) (os : List ℕ) → 0 < e → e * n ≤ 4294967295 → length (places_within 0 (e * n) os) ≡ 0 → length (places_within 0 n os) ≡ 0
first_empty zero n os p h a = absurd (omega arith)
first_empty (suc e) n os p h a =
    let w : suc e * n ≡ n + e * n = omega arith in
    let s : length (places_within 0 (n + e * n) os) ≡ length (places_within 0 n os) + length (places_within n (e * n) os) = split n (e * n) os (omega arith) in
    let b : length (places_within 0 (n + e * n) os) ≡ 0 = ap (λ (z : ℕ). length (places_within 0 z os)) (sym w) ∙ a in
    omega arith

-- so many alike elements, more than places, hold none
times_less : (e l t : ℕ) → e * l ≤ t → t < e → l ≡ 0
times_less e zero t h g = refl
times_less e (suc l) t h g = absurd (let w : e * suc l ≡ e * l + e = omega arith in omega arith)

-- The law: more elements than places are alike exactly where no place lies inside them.
pub alike_few : (e n : ℕ) (os : List ℕ) → length os < e → e * n ≤ 4294967295 → eqb (length (places_within 0 (e * n) os)) 0 ≡ elements_alike e n os
alike_few e n os g h =
    same_from_decides _ _ (Decides-eqb (length (places_within 0 (e * n) os)) 0) (
      λ a.
          let k : length (places_within 0 (e * n) os) ≡ e * length (places_within 0 n os) = alike_counts e n os h a in
          let q : length (places_within 0 (e * n) os) ≤ length os = within_short 0 (e * n) os in
          let z : length (places_within 0 n os) ≡ 0 = times_less e (length (places_within 0 n os)) (length os) (omega arith) g in
          k ∙ ap (λ (l : ℕ). e * l) z ∙ omega arith,
      λ z. empty_alike e n os h (first_empty e n os (omega arith) h z) z,
    )

-- ── In turn ──────────────────────────────────────────────────────────────────────────────

and_swap : (x y z : Bool) → x && (y && z) ≡ y && (x && z)
and_swap true true z = refl
and_swap true false z = refl
and_swap false true z = refl
and_swap false false z = refl

all_last : (test : ℕ → Bool) (a n : ℕ) → list_all test (range_with_len a (suc n)) ≡ test (a + n) && list_all test (range_with_len a n)
all_last test a zero = ap (λ (k : ℕ). test k && true) (let e : a ≡ a + 0 = omega arith in e)
all_last test a (suc n) =
    ap (λ (b : Bool). test a && b) (all_last test (a + 1) n)
    ∙ and_swap (test a) (test (a + 1 + n)) (list_all test (range_with_len (a + 1) n))
    ∙ ap (λ (k : ℕ). test k && (test a && list_all test (range_with_len (a + 1) n))) (let e : a + 1 + n ≡ a + suc n = omega arith in e)

-- the law for a chain over the elements' numbers
pub all_alike : (e n : ℕ) (os first : List ℕ) → first ≡ places_within 0 n os
    → list_all (λ (k : ℕ). same_places (places_within (k * n) n os) first) (range_with_len 0 e) ≡ elements_alike e n os
unfolding elements_alike
all_alike zero n os first f = refl
all_alike (suc e) n os first f =
    all_last (λ (k : ℕ). same_places (places_within (k * n) n os) first) 0 e
    ∙ ap₂ (λ (a b : Bool). a && b)
    (ap₂ (λ (k : ℕ) (l : List ℕ). same_places (places_within (k * n) n os) l) (let q : 0 + e ≡ e = omega arith in q) f)
    (all_alike e n os first f)

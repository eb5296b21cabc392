-- A text that packs to a name's words, and has its length, is that name.
use mathlib.Core.Path.{◌≡◌, refl, sym, ap, ap₂, subst, ◌∙◌}
use mathlib.Core.Bool.{Bool, true, false, ◌&&◌}
use mathlib.Core.Option.{Option, none, some}
use mathlib.Core.List.{List, [], ◌∷◌, ◌++◌, reverse}
use Prim.Native.Nat.{ℕ, zero, suc, ◌+◌, ◌-◌, ◌*◌, ◌/◌, ◌%◌, ◌^◌, ◌≤◌, ◌<◌, min}
use native.Mathlib.Decide.{dec_lt}
use native.Mathlib.Nat.{pow-succ', zero-div, div-div-eq-div-mul}
use native.Mathlib.Numerals.{add-one}
use native.Mathlib.Omega.{arith}
use lib.Dec.{T, eqb, ltb, leb, leb→le, ltb→lt, eqb→eq}
use lib.Ieee.Fits.{and_l, and_r}
use lib.ListN.{length, get_or, take, drop, take-append-drop, length-take, length-drop, drop_of_length-le}
use lib.Pow.{pow-add}
use Rattle.std.specs.List.{fold, slice_range}
use Rattle.std.proofs.lemmas.List.{reverse-append, take_min}
use Rattle.std.proofs.lemmas.List.Sums.{fold-append}
use lib.Seq.{drop-cons, drop-drop, take_all, get_or-take, get_or-drop}
use Rattle.definition.specs.Shapes.{same_places}
use Rattle.definition.specs.Format.{Bytes, bytes}
use Rattle.definition.specs.Ops.{ops, row}
use Rattle.bytecode.specs.Tables.{all_below, at_each}
use Rattle.bytecode.specs.Lists.{tabulate}
use Rattle.std.specs.Bool.{then_some}
use Rattle.bytecode.specs.declared.ops.row.Row.{Row}
use Rattle.bytecode.specs.declared.ops.rows.Op.{Op}
use Rattle.bytecode.specs.Names.{told, row_number, names, name_at, lookup_from, lookup, little, AllBytes, words_of, packed_of, Packs, place_of, text_place, index_of, placing, places}
use Rattle.bytecode.specs.declared.ops.Packed.{Packed}
use Rattle.bytecode.specs.declared.ops.rows.TheConstants.{PLACES}
use Rattle.bytecode.specs.contracts.ops.PackedPartialEq.TheImpl.{ghosts as packed_eq}
use Rattle.std.proofs.lemmas.Bool.Decides.{same_from_decides, Decides-eqb, Decides-and, Decides-like}
use Rattle.std.proofs.lemmas.Slice.Eq.{bytes_eq-Decides, compares_Decides}
use Rattle.std.specs.Bool.{Decides}

-- ── The same bytes ────────────────────────────────────────────────────────────────────────

same_decides : (xs ys : Bytes) → Decides (same_places xs ys) (xs ≡ ys)
unfolding same_places
same_decides = compares_Decides same_places (record { empty = refl; shorter = λ y ys. refl; longer = λ x xs. refl; heads = λ x y xs ys. refl })

same_yes : (xs ys : Bytes) → xs ≡ ys → true ≡ same_places xs ys
same_yes xs ys e = sym ((same_decides xs ys).1 e)

same_no : (xs ys : Bytes) → (xs ≡ ys → ⊥) → false ≡ same_places xs ys
same_no xs ys n = go (same_places xs ys) refl
  where
    go : (b : Bool) → same_places xs ys ≡ b → false ≡ b
    go true e = absurd (n ((same_decides xs ys).0 e))
    go false e = refl

-- ── Packing loses nothing ─────────────────────────────────────────────────────────────────

little-one : (xs ys : Bytes) → AllBytes xs → AllBytes ys → length xs ≡ length ys → little xs ≡ little ys → xs ≡ ys
unfolding little
little-one [] [] p q l e = refl
little-one [] (y ∷ ys) p q l e = absurd (omega arith)
little-one (x ∷ xs) [] p q l e = absurd (omega arith)
little-one (x ∷ xs) (y ∷ ys) p q l e =
    let a : x < 256 = p.0 in
    let b : y < 256 = q.0 in
    ap₂ (λ (z : ℕ) (zs : Bytes). z ∷ zs) (let h : x ≡ y = omega arith in h)
    (little-one xs ys p.1 q.1 (omega arith) (let h : little xs ≡ little ys = omega arith in h))

all_take : (n : ℕ) (xs : Bytes) → AllBytes xs → AllBytes (take n xs)
all_take zero xs p = tt
all_take (suc n) [] p = tt
all_take (suc n) (x ∷ xs) p = (p.0, all_take n xs p.1)

all_drop : (n : ℕ) (xs : Bytes) → AllBytes xs → AllBytes (drop n xs)
all_drop zero xs p = p
all_drop (suc n) [] p = tt
all_drop (suc n) (x ∷ xs) p = all_drop n xs p.1

part : (n : ℕ) (xs ys : Bytes) → AllBytes xs → AllBytes ys → length xs ≡ length ys → little (take 8 (drop n xs)) ≡ little (take 8 (drop n ys))
    → take 8 (drop n xs) ≡ take 8 (drop n ys)
part n xs ys p q l e =
    little-one (take 8 (drop n xs)) (take 8 (drop n ys)) (all_take 8 (drop n xs) (all_drop n xs p)) (all_take 8 (drop n ys) (all_drop n ys q))
    (simp (length-take, length-drop, l)) e

split : (xs : Bytes) → length xs ≤ 24 → xs ≡ take 8 (drop 0 xs) ++ (take 8 (drop 8 xs) ++ take 8 (drop 16 xs))
split xs h =
    sym
    (ap (λ (r : Bytes). take 8 xs ++ (take 8 (drop 8 xs) ++ r)) last
    ∙ ap (λ (r : Bytes). take 8 xs ++ (take 8 (drop 8 xs) ++ r)) (sym (drop-drop 8 8 xs))
    ∙ ap (λ (r : Bytes). take 8 xs ++ r) (take-append-drop 8 (drop 8 xs))
    ∙ take-append-drop 8 xs)
  where
    last : take 8 (drop 16 xs) ≡ drop 16 xs
    last = take_all 8 (drop 16 xs) (rw length-drop (omega arith))

words-one : (xs ys : Bytes) → AllBytes xs → AllBytes ys → length xs ≤ 24 → length xs ≡ length ys → little (take 8 xs) ≡ little (take 8 ys)
    → little (take 8 (drop 8 xs)) ≡ little (take 8 (drop 8 ys)) → little (take 8 (drop 16 xs)) ≡ little (take 8 (drop 16 ys)) → xs ≡ ys
words-one xs ys p q h l e0 e1 e2 =
    split xs h
    ∙ ap₂ (λ (a b : Bytes). a ++ b) (part 0 xs ys p q l e0) (ap₂ (λ (a b : Bytes). a ++ b) (part 8 xs ys p q l e1) (part 16 xs ys p q l e2))
    ∙ sym (split ys (omega arith))

-- a letter of a packed text
little_letter : (xs : Bytes) (j : ℕ) → AllBytes xs → little xs / 2 ^ (8 * j) % 256 ≡ get_or xs j 0
unfolding little
little_letter [] j p = rw (zero-div (2 ^ (8 * j)))
little_letter (x ∷ xs) zero p = let a : x < 256 = p.0 in omega arith
little_letter (x ∷ xs) (suc j) p =
    let a : x < 256 = p.0 in
    let q : (x + 256 * little xs) / 256 ≡ little xs = omega arith in
    let w : 2 ^ (8 * suc j) ≡ 256 * 2 ^ (8 * j) = ap (λ (n : ℕ). 2 ^ n) (let n : 8 * suc j ≡ 8 + 8 * j = omega arith in n) ∙ pow-add 2 8 (8 * j) in
    ap (λ (d : ℕ). (x + 256 * little xs) / d % 256) w
    ∙ ap (λ (n : ℕ). n % 256) (sym (div-div-eq-div-mul (x + 256 * little xs) 256 (2 ^ (8 * j))) ∙ ap (λ (n : ℕ). n / 2 ^ (8 * j)) q)
    ∙ little_letter xs j p.1

-- ── The names: at most 24 bytes each ──────────────────────────────────────────────────────

unfoldable all_bytes : Bytes → Bool
all_bytes [] = true
all_bytes (b ∷ bs) = ltb b 256 && all_bytes bs

all_are : (xs : Bytes) → T (all_bytes xs) → AllBytes xs
unfolding all_bytes
all_are [] t = tt
all_are (b ∷ bs) t = (ltb→lt b 256 (and_l (ltb b 256) (all_bytes bs) t), all_are bs (and_r (ltb b 256) (all_bytes bs) t))

good : ℕ → Bool
good i = leb (length (name_at i)) 24 && all_bytes (name_at i)

all_good : T (all_below 75 good)
unfolding all_below good name_at names all_bytes ops row bytes
all_good = tt

module _ (i : ℕ) (h : i < 75) where
  pub name_short : length (name_at i) ≤ 24
  unfolding good
  name_short = leb→le (length (name_at i)) 24 (and_l (leb (length (name_at i)) 24) (all_bytes (name_at i)) (at_each 75 good all_good i h))

  name_all : AllBytes (name_at i)
  unfolding good
  name_all = all_are (name_at i) (and_r (leb (length (name_at i)) 24) (all_bytes (name_at i)) (at_each 75 good all_good i h))

  pub name_letter : (j w : ℕ) → w ≡ little (take 8 (drop (8 * (j / 8)) (name_at i))) → w / 2 ^ (8 * (j % 8)) % 256 ≡ get_or (name_at i) j 0
  name_letter j w e =
      ap (λ (n : ℕ). n / 2 ^ (8 * (j % 8)) % 256) e
      ∙ little_letter (take 8 (drop (8 * (j / 8)) (name_at i))) (j % 8) (all_take 8 (drop (8 * (j / 8)) (name_at i)) (all_drop (8 * (j / 8)) (name_at i) name_all))
      ∙ get_or-take 8 (drop (8 * (j / 8)) (name_at i)) (j % 8) 0 (omega arith)
      ∙ get_or-drop (8 * (j / 8)) (name_at i) (j % 8) 0
      ∙ ap (λ (n : ℕ). get_or (name_at i) n 0) (let n : 8 * (j / 8) + j % 8 ≡ j = omega arith in n)

true_false : true ≡ false → ⊥
true_false e = subst T e tt

-- ── A packed text against a row ───────────────────────────────────────────────────────────

module _ (p : Packed) (text : Bytes) (k : Packs text p) where
  words_is : p.words ≡ words_of text
  unfolding packed_of
  words_is = ap (λ (q : Packed). q.words) k.packed

  long_is : p.length ≡ length text
  unfolding packed_of
  long_is = ap (λ (q : Packed). q.length) k.packed

  module _ (i : ℕ) (h : i < 75) where
    -- the same words and the same length are the same bytes
    words_name : (words_of (name_at i) ≡ p.words) × (length (name_at i) ≡ p.length) → name_at i ≡ text
    unfolding words_of
    words_name (w, l) =
        let e : words_of (name_at i) ≡ words_of text = w ∙ words_is in
        words-one (name_at i) text (name_all i h) k.all (name_short i h) (l ∙ long_is)
        (ap (λ (ws : List ℕ). get_or ws 0 0) e) (ap (λ (ws : List ℕ). get_or ws 1 0) e) (ap (λ (ws : List ℕ). get_or ws 2 0) e)

    pub words_same : packed_eq.eq (packed_of (name_at i)) p ≡ same_places (name_at i) text
    unfolding packed_of
    words_same =
        same_from_decides (packed_eq.eq (packed_of (name_at i)) p) (same_places (name_at i) text)
        (Decides-like (packed_eq.eq (packed_of (name_at i)) p) words_name (λ e. (ap words_of e ∙ sym words_is, ap length e ∙ sym long_is))
        (Decides-and _ _ (bytes_eq-Decides (words_of (name_at i)) p.words) (Decides-eqb (length (name_at i)) p.length)))
        (same_decides (name_at i) text)

-- ── Places ────────────────────────────────────────────────────────────────────────────────

right : ℕ → Bool
right i = eqb (get_or places (text_place (name_at i)) 0) i

-- Each row stands at its name's place, tested once for all rows: so no two names have the same place.
all_right : T (all_below 75 right)
unfolding all_below right places placing index_of tabulate text_place place_of little name_at names ops row bytes
all_right = tt

low : ℕ → Bool
low k = ltb (get_or places k 0) 75

all_low : T (all_below 256 low)
unfolding all_below low places placing index_of tabulate text_place place_of little name_at names ops row bytes
all_low = tt

placed_low : (k : ℕ) → k < 256 → get_or places k 0 < 75
unfolding low
placed_low k h = ltb→lt (get_or places k 0) 75 (at_each 256 low all_low k h)

-- the code's own
places_are : PLACES ≡ places
unfolding places placing index_of tabulate text_place place_of little names ops row bytes
places_are = refl

pub place_is : (k d : ℕ) → get_or PLACES k d ≡ get_or places k d
place_is k d = ap (λ (ks : List ℕ). get_or ks k d) places_are

pub place_low : (k : ℕ) → k < 256 → get_or PLACES k 0 < 75
place_low k h = omega (arith, place_is k 0, placed_low k h)

placed_at : (k i : ℕ) → i < 75 → text_place (name_at i) ≡ k → get_or places k 0 ≡ i
unfolding right
placed_at k i h e = ap (λ (n : ℕ). get_or places n 0) (sym e) ∙ eqb→eq (get_or places (text_place (name_at i)) 0) i (at_each 75 right all_right i h)

-- the row at the place of a packed text
pub placed_only : (text : Bytes) (k : ℕ) → k ≡ text_place text → (r : ℕ) → r ≡ get_or places k 0 →
    (i : ℕ) → i < 75 → text_place (name_at i) ≡ text_place text → r ≡ i
placed_only text k e r f i h g = f ∙ placed_at k i h (g ∙ sym e)

-- ── The search over the rows ──────────────────────────────────────────────────────────────

names_long : length names ≡ 75
unfolding names ops
names_long = refl

module _ (text : Bytes) (i : ℕ) where
  left_in : Option ℕ
  left_in = lookup_from i (drop i names) text

module _ (text : Bytes) where
  search_start : lookup text ≡ left_in text 0
  unfolding lookup left_in
  search_start = refl

  search_end : (i : ℕ) → 75 ≤ i → left_in text i ≡ none
  unfolding left_in lookup_from
  search_end i h = rw (drop_of_length-le names {i = i} (omega (arith, names_long)))

  row_first : (i : ℕ) → i < 75 → left_in text i ≡ lookup_from i (name_at i ∷ drop (suc i) names) text
  unfolding left_in name_at
  row_first i h = ap (λ (ns : List Bytes). lookup_from i ns text) (drop-cons names i [] (omega (arith, names_long)))

  search_found : (i : ℕ) → i < 75 → true ≡ same_places (name_at i) text → left_in text i ≡ some i
  unfolding lookup_from
  search_found i h e = row_first i h ∙ (rw (lookup_from, ← e))

  search_more : (i : ℕ) → i < 75 → false ≡ same_places (name_at i) text → left_in text i ≡ left_in text (i + 1)
  unfolding lookup_from left_in
  search_more i h e = row_first i h ∙ (rw (lookup_from, ← e, add-one i))

  -- rows that are not the text are passed over
  pass : (n i stop : ℕ) → i + n ≡ stop → stop ≤ 75 → ((j : ℕ) → j < stop → name_at j ≡ text → ⊥) → left_in text i ≡ left_in text stop
  pass zero i stop e l other = ap (left_in text) (let z : i ≡ stop = omega arith in z)
  pass (suc n) i stop e l other =
      search_more i (omega arith) (same_no (name_at i) text (other i (omega arith))) ∙ pass n (i + 1) stop (omega arith) l other

  none_of : ((j : ℕ) → j < 75 → name_at j ≡ text → ⊥) → none ≡ lookup text
  none_of other = sym (search_start ∙ pass 75 0 75 (omega arith) (omega arith) other ∙ search_end 75 (omega arith))

  -- A text of more than 24 bytes is no name.
  pub long_none : 24 < length text → none ≡ lookup text
  long_none l = none_of (λ j h q. absurd (omega (arith, ap length q, name_short j h)))

  -- ── The one row that has the text's place ─────────────────────────────────────────────────

  module _ (r : ℕ) (l : r < 75) (only : (i : ℕ) → i < 75 → text_place (name_at i) ≡ text_place text → r ≡ i) where
    at_row : (j : ℕ) → j < 75 → name_at j ≡ text → r ≡ j
    at_row j h q = only j h (ap text_place q)

    pub placed_found : true ≡ same_places (name_at r) text → some r ≡ lookup text
    placed_found e =
        sym
        (search_start
        ∙ pass r 0 r (omega arith) (omega arith) (λ j h q. absurd (omega (arith, at_row j (omega arith) q)))
        ∙ search_found r l e)

    pub placed_none : false ≡ same_places (name_at r) text → none ≡ lookup text
    placed_none e =
        none_of
        (λ j h q.
        let s : name_at r ≡ text = ap name_at (at_row j h q) ∙ q in
        true_false (same_yes (name_at r) text s ∙ sym e))

-- The row of a packed text: the one at its place, where that has the text's words.
module _ (p : Packed) (text : Bytes) (k : Packs text p) (r : Row) where
  named : (b : Bool) → b ≡ same_places (name_at r.number) text → ((i : ℕ) → i < 75 → text_place (name_at i) ≡ text_place text → r.number ≡ i)
      → row_number (then_some b r) ≡ lookup text
  named true e only = placed_found text r.number r.low only e
  named false e only = placed_none text r.number r.low only e

  pub row_named : (at : ℕ) → at ≡ place_of (get_or p.words 0 0) (get_or p.words 1 0) (get_or p.words 2 0) → r.number ≡ get_or places at 0
      → (o : Op) → o ≡ told r.number → row_number (then_some (packed_eq.eq o.name p) r) ≡ lookup text
  unfolding told text_place words_of
  row_named at e f o g =
      named _ (ap (λ (x : Op). packed_eq.eq x.name p) g ∙ words_same p text k r.number r.low)
      (placed_only text at (e ∙ ap (λ (ws : List ℕ). place_of (get_or ws 0 0) (get_or ws 1 0) (get_or ws 2 0)) (words_is p text k)) r.number f)

-- ── Packing eight bytes from the last on ──────────────────────────────────────────────────

pub all_of : (s : Bytes) → ((i : ℕ) → get_or s i 0 < 256) → AllBytes s
all_of [] h = tt
all_of (b ∷ s) h = (h 0, all_of s (λ i. h (suc i)))

little_below : (n : ℕ) (xs : Bytes) → AllBytes xs → length xs ≤ n → little xs < 256 ^ n
unfolding little
little_below zero [] p h = omega arith
little_below zero (x ∷ xs) p h = absurd (omega arith)
little_below (suc n) [] p h = let r : 0 < 256 ^ n = little_below n [] tt (omega arith) in rw (pow-succ' 256 n) (omega arith)
little_below (suc n) (x ∷ xs) p h =
    let r : little xs < 256 ^ n = little_below n xs p.1 (omega arith) in
    let b : x < 256 = p.0 in
    rw (pow-succ' 256 n) (omega arith)

-- a word that takes byte after byte from below, the last byte first
abbrev pub packed : List ℕ → ℕ
packed = fold (λ (w b : ℕ). w * 256 % 18446744073709551616 + b) 0

packed-reverse : (bs : Bytes) → AllBytes bs → length bs ≤ 8 → packed (reverse bs) ≡ little bs
unfolding little
packed-reverse [] p h = refl
packed-reverse (b ∷ bs) p h =
    let r : packed (reverse bs) ≡ little bs = packed-reverse bs p.1 (omega arith) in
    let l : little bs < 256 ^ 7 = little_below 7 bs p.1 (omega arith) in
    ap packed (reverse-append (b ∷ []) bs)
    ∙ fold-append (λ (w c : ℕ). w * 256 % 18446744073709551616 + c) 0 (reverse bs) (b ∷ [])
    ∙ (rw r (omega arith))

module _ (s : Bytes) (at : ℕ) where
  abbrev pub end : ℕ
  end = min (length s) (at + 8)

  eight_of : slice_range s (min at end) end ≡ take 8 (drop at s)
  eight_of = elim (dec_lt at (length s)) [
    | yes p ↦ (let a : min at end ≡ at = omega arith in
        let n : end - at ≡ min 8 (length (drop at s)) = rw length-drop (omega arith) in
        rw (a, n) (take_min 8 (drop at s)))
    | no q ↦ (let a : min at end ≡ length s = omega arith in
        let n : end - length s ≡ 0 = omega arith in
        rw (a, n, drop_of_length-le s {i = at} (omega arith)))
  ]

  pub packed_eight : AllBytes s → packed (reverse (slice_range s (min at end) end)) ≡ little (take 8 (drop at s))
  packed_eight p =
      ap (λ (bs : Bytes). packed (reverse bs)) eight_of
      ∙ packed-reverse (take 8 (drop at s)) (all_take 8 (drop at s) (all_drop at s p)) (simp length-take (omega arith))

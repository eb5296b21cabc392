-- Laws of text places: added, cut out, moved, looked for.
-- Assumes nothing.
use mathlib.Core.Path.{◌≡◌, refl, sym, ap, ap₂, subst, ◌∙◌}
use mathlib.Core.Bool.{Bool, true, false, ◌&&◌, ◌||◌}
use mathlib.Core.Logic.{⊎_elim}
use mathlib.Core.Option.{Option, none, some, some_inj}
use mathlib.Core.List.{List, [], ◌∷◌, ◌++◌, append-nil, append_assoc, reverse, reverse_aux}
use Prim.Native.Nat.{ℕ, zero, suc, ◌+◌, ◌*◌, ◌-◌, ◌/◌, ◌^◌, ◌≤◌, ◌<◌, min}
use native.Mathlib.Nat.{mul-le-mul_right, div-add-mod'}
use native.Mathlib.Numerals.{add-one}
use native.Mathlib.Omega.{arith}
use lib.Dec.{leb, ltb, eqb}
use lib.ListN.{length, get_or, take, length-append}
use lib.Seq.{take-suc, length-take-le}
use Rattle.std.specs.Prelude.{Option as Maybe, Some, None, Result, Ok, Err, ⊤, OnOk, IsErr}
use Rattle.std.specs.Result.{result_and}
use Rattle.std.specs.List.{list_any}
use Rattle.std.specs.Ordering.{nat_cmp, is_le, is_lt}
use Rattle.std.proofs.lemmas.Bool.Decides.{same_from_decides, Decides-eqb, Decides-like, nat_tests}
use Rattle.definition.specs.Basics.{saturating_add, is_member}
use Rattle.definition.specs.Shapes.{Shape as AnyShape, unknown, scalar, composite}
use Rattle.definition.specs.Instructions.{Chunk}
use Rattle.definition.specs.Effects.{keep_if, places_within, shift, before_text, built_places, add_known, packed}
use Rattle.shapes.specs.Text.{Adds, HeldAll, Means, bytes, own, Took, packed_of}
use Rattle.shapes.specs.declared.places.ManyPlaces.{ManyPlaces}
use Rattle.shapes.specs.declared.places.Places.{Places}
use Rattle.shapes.specs.Model.{list_of, places_of}
use Rattle.shapes.specs.Tabulated.{down, up}
use Rattle.shapes.proofs.Lists.{down-same}
use Rattle.std.proofs.lemmas.Bool.{cases_lt, false≢true}

-- ── Sums ─────────────────────────────────────────────────────────────────────────────────

-- std's sum is the definition's
pub sum_is : (a b s : ℕ) → s ≡ min (a + b) (2 ^ 32 - 1) → s ≡ saturating_add a b
unfolding saturating_add
sum_is a b s e = e

pub sum_fits : (a b : ℕ) → a + b ≤ 4294967295 → a + b ≡ saturating_add a b
unfolding saturating_add
sum_fits a b h = let e : a + b ≡ min (a + b) 4294967295 = omega arith in e

-- ── Cut out ──────────────────────────────────────────────────────────────────────────────

pub kept_out : (b : Bool) (o : ℕ) (l : List ℕ) → b ≡ false → l ≡ l ++ keep_if b o []
unfolding keep_if
kept_out true o l e = absurd (false≢true (sym e))
kept_out false o l e = sym (append-nil l)

pub kept_in : (b : Bool) (o : ℕ) (l : List ℕ) → b ≡ true → l ++ (o ∷ []) ≡ l ++ keep_if b o []
unfolding keep_if
kept_in true o l e = refl
kept_in false o l e = absurd (false≢true e)

keep_on : (b : Bool) (o : ℕ) (xs ys : List ℕ) → keep_if b o (xs ++ ys) ≡ keep_if b o xs ++ ys
unfolding keep_if
keep_on true o xs ys = refl
keep_on false o xs ys = refl

within-append : (at n : ℕ) (xs ys : List ℕ) → places_within at n (xs ++ ys) ≡ places_within at n xs ++ places_within at n ys
unfolding places_within
within-append at n [] ys = refl
within-append at n (o ∷ os) ys =
    ap (λ (z : List ℕ). keep_if (leb at o && ltb o (saturating_add at n)) (o - at) z) (within-append at n os ys)
    ∙ keep_on (leb at o && ltb o (saturating_add at n)) (o - at) (places_within at n os) (places_within at n ys)

pub within_none : (at n : ℕ) (ps : List ℕ) → [] ≡ places_within at n (take 0 ps)
unfolding places_within
within_none at n ps = refl

within_more : (at n : ℕ) (ps : List ℕ) (i : ℕ) → i < length ps
    → places_within at n (take i ps) ++ keep_if (leb at (get_or ps i 0) && ltb (get_or ps i 0) (saturating_add at n)) (get_or ps i 0 - at) []
    ≡ places_within at n (take (i + 1) ps)
unfolding places_within
within_more at n ps i h = rw (add-one, take-suc ps i 0) (sym (within-append at n (take i ps) (get_or ps i 0 ∷ [])))

-- a turn of a loop that keeps those that lie there: std's test of a range is the definition's
module _ (at n end : ℕ) (ps held : List ℕ) (i : ℕ) (b : Bool) (e : end ≡ min (at + n) (2 ^ 32 - 1)) (h : i < length ps) where
  abbrev offset : ℕ
  offset = get_or ps i 0

  is_test : b ≡ is_le (nat_cmp at offset) && is_lt (nat_cmp offset end) → b ≡ leb at offset && ltb offset (saturating_add at n)
  is_test t = t ∙ (let q : is_le (nat_cmp at offset) && is_lt (nat_cmp offset end) ≡ leb at offset && ltb offset end = grind (arith, nat_tests) in q) ∙ ap (λ (z : ℕ). leb at offset && ltb offset z) (sum_is at n end e)

  pub within_in : held ≡ places_within at n (take i ps) → b ≡ is_le (nat_cmp at offset) && is_lt (nat_cmp offset end) → b ≡ true
      → held ++ ((offset - at) ∷ []) ≡ places_within at n (take (i + 1) ps)
  within_in k t u = kept_in _ (offset - at) held (sym (is_test t) ∙ u) ∙ ap (λ (l : List ℕ). l ++ keep_if (leb at offset && ltb offset (saturating_add at n)) (offset - at) []) k ∙ within_more at n ps i h

  pub within_out : held ≡ places_within at n (take i ps) → b ≡ is_le (nat_cmp at offset) && is_lt (nat_cmp offset end) → b ≡ false
      → held ≡ places_within at n (take (i + 1) ps)
  within_out k t u = kept_out _ (offset - at) held (sym (is_test t) ∙ u) ∙ ap (λ (l : List ℕ). l ++ keep_if (leb at offset && ltb offset (saturating_add at n)) (offset - at) []) k ∙ within_more at n ps i h

keep_short : (b : Bool) (o : ℕ) (os : List ℕ) → length (keep_if b o os) ≤ suc (length os)
unfolding keep_if
keep_short true o os = omega arith
keep_short false o os = omega arith

pub within_short : (at n : ℕ) (os : List ℕ) → length (places_within at n os) ≤ length os
unfolding places_within
within_short at n [] = omega arith
within_short at n (o ∷ os) =
    let q = keep_short (leb at o && ltb o (saturating_add at n)) (o - at) (places_within at n os) in
    let r = within_short at n os in
    omega arith

-- ── Moved ────────────────────────────────────────────────────────────────────────────────

shift-append : (by : ℕ) (xs ys : List ℕ) → shift by (xs ++ ys) ≡ shift by xs ++ shift by ys
unfolding shift
shift-append by [] ys = refl
shift-append by (o ∷ os) ys = ap (λ (z : List ℕ). saturating_add by o ∷ z) (shift-append by os ys)

shift-length : (by : ℕ) (xs : List ℕ) → length (shift by xs) ≡ length xs
unfolding shift
shift-length by [] = refl
shift-length by (o ∷ os) = ap suc (shift-length by os)

pub shift_none : (l : List ℕ) (by : ℕ) (ps : List ℕ) → l ≡ l ++ shift by (take 0 ps)
unfolding shift
shift_none l by ps = sym (append-nil l)

pub shift-more : (l : List ℕ) (by o : ℕ) (ps : List ℕ) (i : ℕ) → o ≡ saturating_add by (get_or ps i 0) → i < length ps
    → (l ++ shift by (take i ps)) ++ (o ∷ []) ≡ l ++ shift by (take (i + 1) ps)
unfolding shift
shift-more l by o ps i e h =
    append_assoc l (shift by (take i ps)) (o ∷ [])
    ∙ ap (λ (z : List ℕ). l ++ z) (rw (e, add-one, take-suc ps i 0) (sym (shift-append by (take i ps) (get_or ps i 0 ∷ []))))

-- one place more
pub adds_one : (held after : List ℕ) (o : ℕ) (r : Result ⊤ ManyPlaces) → OnOk r (after ≡ held ++ (o ∷ [])) → (IsErr r → length held ≡ 16) → Adds held (o ∷ []) r after
adds_one held after o (Ok done) e f = e
adds_one held after o (Err many) e f = omega (arith, f refl, length-append held (o ∷ []))

-- more places than are held, of which the first leave no room for one more
pub adds_full : (by : ℕ) (held now ps more after : List ℕ) (i : ℕ) (r : Result ⊤ ManyPlaces) → now ≡ held ++ shift by (take i ps) → i < length ps → ps ≡ more
    → length now ≡ 16 → IsErr r → Adds held (shift by more) r after
adds_full by held now ps more after i (Ok done) e h f l r = absurd (false≢true r)
adds_full by held now ps more after i (Err many) e h f l r =
    omega (
      arith,
      ap length e,
      ap length f,
      length-append held (shift by (take i ps)),
      length-append held (shift by more),
      shift-length by (take i ps),
      shift-length by more,
      length-take-le i ps (omega arith),
    )

-- ── Looked for ───────────────────────────────────────────────────────────────────────────

eqb_swap : (x y : ℕ) → eqb y x ≡ eqb x y
eqb_swap x y = same_from_decides (eqb y x) (eqb x y) (Decides-like (eqb y x) (λ e. sym e) (λ e. sym e) (Decides-eqb y x)) (Decides-eqb x y)

-- std's search is the definition's
pub any_is : (x : ℕ) (xs : List ℕ) → list_any (λ y. eqb y x) xs ≡ is_member x xs
unfolding is_member
any_is x [] = refl
any_is x (y ∷ ys) = ap₂ (λ (a b : Bool). a || b) (eqb_swap x y) (any_is x ys)

-- ── Packed bytes ─────────────────────────────────────────────────────────────────────────

packed_open : (c : Chunk) (x : AnyShape) (es : List AnyShape) → bytes c x ≡ none → packed c (x ∷ es) ≡ none
unfolding packed bytes
packed_open c unknown es e = refl
packed_open c (scalar k) es e = cc
packed_open c (composite k m t) es e = cc

packed-rest : (c : Chunk) (x : AnyShape) (es : List AnyShape) → packed c es ≡ none → packed c (x ∷ es) ≡ none
unfolding packed add_known
packed-rest c unknown es e = refl
packed-rest c (scalar k) es e = rw e
packed-rest c (composite k m t) es e = rw e

packed_sum : (c : Chunk) (x : AnyShape) (es : List AnyShape) (a b : ℕ) → bytes c x ≡ some b → packed c es ≡ some a → packed c (x ∷ es) ≡ some (saturating_add a b)
unfolding packed bytes add_known
packed_sum c unknown es a b e f = cc
packed_sum c (scalar k) es a b e f = rw (f, some_inj.0 e)
packed_sum c (composite k m t) es a b e f = rw (f, some_inj.0 e)

pub packed_start : (c : Chunk) (f : ℕ → AnyShape) (lo : ℕ) → packed c (down (λ j. f (lo + j)) 0) ≡ some 0
unfolding packed
packed_start c f lo = refl

pub packed_more : (c : Chunk) (f : ℕ → AnyShape) (lo i a b s : ℕ) → packed c (down (λ j. f (lo + j)) i) ≡ some a → some b ≡ bytes c (f (lo + i)) → s ≡ saturating_add a b
    → packed c (down (λ j. f (lo + j)) (i + 1)) ≡ some s
packed_more c f lo i a b s e q r =
    ap (λ (n : ℕ). packed c (down (λ j. f (lo + j)) n)) (add-one i) ∙ packed_sum c (f (lo + i)) (down (λ j. f (lo + j)) i) a b (sym q) e ∙ ap some (sym r)

pub packed_stop : (c : Chunk) (f : ℕ → AnyShape) (lo i n : ℕ) → i < n → none ≡ bytes c (f (lo + i)) → packed c (down (λ j. f (lo + j)) n) ≡ none
packed_stop c f lo i zero h e = absurd (omega arith)
packed_stop c f lo i (suc n) h e =
    ⊎_elim (λ (q : i < n). packed-rest c (f (lo + n)) (down (λ j. f (lo + j)) n) (packed_stop c f lo i n q e))
    (λ (q : n ≤ i). packed_open c (f (lo + n)) (down (λ j. f (lo + j)) n) (let u : i ≡ n = omega arith in ap (λ (j : ℕ). bytes c (f (lo + j))) (sym u) ∙ sym e))
    (cases_lt i n)

pub take-down : {A : Type 0} (f : ℕ → A) (n h : ℕ) → n ≤ h → take n (down f h) ≡ down (λ j. f (h - n + j)) n
take-down f zero h l = refl
take-down f (suc n) zero l = absurd (omega arith)
take-down f (suc n) (suc h) l =
    ap₂ (λ x xs. x ∷ xs) (ap f (let e : h ≡ suc h - suc n + n = omega arith in e))
    (take-down f n h (omega arith) ∙ down-same _ _ n (λ j u. ap f (let e : h - n + j ≡ suc h - suc n + j = omega arith in e)))

-- ── Places of a packed body, first to last ───────────────────────────────────────────────

reverse_down : {A : Type 0} (f : ℕ → A) (n : ℕ) (r : List A) → reverse_aux (down f n) r ≡ up f 0 n ++ r
reverse_down f zero r = refl
reverse_down f (suc n) r =
    reverse_down f n (f n ∷ r) ∙ sym (append_assoc (up f 0 n) (f n ∷ []) r) ∙ ap (λ l. l ++ r) (ap (λ (j : ℕ). up f 0 n ++ (f j ∷ [])) (let e : n ≡ 0 + n = omega arith in e) ∙ snoc f 0 n)
  where
    snoc : {A : Type 0} (f : ℕ → A) (lo n : ℕ) → up f lo n ++ (f (lo + n) ∷ []) ≡ up f lo (suc n)
    snoc f lo zero = ap (λ x. x ∷ []) (ap f (let e : lo + 0 ≡ lo = omega arith in e))
    snoc f lo (suc n) = ap (λ l. f lo ∷ l) (ap (λ x. up f (suc lo) n ++ (x ∷ [])) (ap f (let e : lo + suc n ≡ suc lo + n = omega arith in e)) ∙ snoc f (suc lo) n)

pub reverse-take : {A : Type 0} (f : ℕ → A) (n h : ℕ) → n ≤ h → reverse (take n (down f h)) ≡ up (λ j. f (h - n + j)) 0 n
reverse-take f n h l = ap reverse (take-down f n h l) ∙ reverse_down (λ j. f (h - n + j)) n [] ∙ append-nil (up (λ j. f (h - n + j)) 0 n)

before_before : (t : Option (List ℕ)) (os l : List ℕ) → before_text (before_text t os) l ≡ before_text t (l ++ os)
unfolding before_text
before_before none os l = refl
before_before (some ps) os l = ap some (sym (append_assoc l os ps))

built_open : (c : Chunk) (at : ℕ) (x : AnyShape) (es : List AnyShape) → own at x ≡ none → built_places c at (x ∷ es) ≡ none
unfolding built_places own
built_open c at unknown es e = refl
built_open c at (scalar k) es e = cc
built_open c at (composite k m none) es e = refl
built_open c at (composite k m (some os)) es e = cc

built_sizeless : (c : Chunk) (at : ℕ) (x : AnyShape) (es : List AnyShape) → bytes c x ≡ none → built_places c at (x ∷ es) ≡ none
unfolding built_places bytes
built_sizeless c at unknown es e = refl
built_sizeless c at (scalar k) es e = cc
built_sizeless c at (composite k m t) es e = cc

built_on : (c : Chunk) (at : ℕ) (x : AnyShape) (es : List AnyShape) (os : List ℕ) (b : ℕ) → own at x ≡ some os → bytes c x ≡ some b
    → built_places c at (x ∷ es) ≡ before_text (built_places c (saturating_add at b) es) os
unfolding built_places own bytes
built_on c at unknown es os b e f = cc
built_on c at (scalar k) es os b e f = rw (some_inj.0 e, some_inj.0 f)
built_on c at (composite k m none) es os b e f = cc
built_on c at (composite k m (some o)) es os b e f = rw (some_inj.0 e, some_inj.0 f)

-- all that is added, from the places that are held
holds_more : (whole done : Result ⊤ ManyPlaces) (held l os after : List ℕ) → HeldAll whole held l → Adds held os done after → HeldAll (result_and whole done) after (l ++ os)
holds_more (Ok d) (Ok f) held l os after h a = a ∙ ap (λ (z : List ℕ). z ++ os) h
holds_more (Ok d) (Err m) held l os after h a = subst (λ (z : List ℕ). 16 < length (z ++ os)) h a
holds_more (Err m) done held l os after h a = omega (arith, length-append l os)

-- The places of n elements, i of which are passed: those added, then the rest's from `at` on.
pub record Gathering (c : Chunk) (f : ℕ → AnyShape) (lo n i at : ℕ) (whole : Result ⊤ ManyPlaces) (held : List ℕ) : Type 0 where
  pub list : List ℕ
  pub added : HeldAll whole held list
  pub all : built_places c 0 (up (λ j. f (lo + j)) 0 n) ≡ before_text (built_places c at (up (λ j. f (lo + j)) i (n - i))) list

before_none : (t : Option (List ℕ)) → t ≡ before_text t []
unfolding before_text
before_none none = refl
before_none (some ps) = refl

pub gather_start : (c : Chunk) (f : ℕ → AnyShape) (lo n : ℕ) (held : List ℕ) → held ≡ [] → Gathering c f lo n 0 0 (Ok tt) held
gather_start c f lo n held h =
    record {
      list = [];
      added = h;
      all = ap (λ (m : ℕ). built_places c 0 (up (λ j. f (lo + j)) 0 m)) (let e : n ≡ n - 0 = omega arith in e) ∙ before_none (built_places c 0 (up (λ j. f (lo + j)) 0 (n - 0)));
    }

next : {A : Type 0} (f : ℕ → A) (n i : ℕ) → i < n → up f i (n - i) ≡ f i ∷ up f (suc i) (n - (i + 1))
next f n i h = ap (λ (m : ℕ). up f i m) (let e : n - i ≡ suc (n - (i + 1)) = omega arith in e)

module _ (c : Chunk) (f : ℕ → AnyShape) (lo n i at : ℕ) (whole : Result ⊤ ManyPlaces) (held : List ℕ) (h : i < n) (g : Gathering c f lo n i at whole held) where
  abbrev k : ℕ → AnyShape
  k j = f (lo + j)

  abbrev rest : List AnyShape
  rest = up k (suc i) (n - (i + 1))

  pub gather_open : own at (f (lo + i)) ≡ none → built_places c 0 (up (λ j. f (lo + j)) 0 n) ≡ none
  unfolding before_text
  gather_open e =
      g.all ∙ ap (λ (t : Option (List ℕ)). before_text t g.list) (ap (λ (l : List AnyShape). built_places c at l) (next k n i h) ∙ built_open c at (f (lo + i)) rest e)

  pub gather_sizeless : none ≡ bytes c (f (lo + i)) → built_places c 0 (up (λ j. f (lo + j)) 0 n) ≡ none
  unfolding before_text
  gather_sizeless e =
      g.all ∙ ap (λ (t : Option (List ℕ)). before_text t g.list) (ap (λ (l : List AnyShape). built_places c at l) (next k n i h) ∙ built_sizeless c at (f (lo + i)) rest (sym e))

  pub gather_more : (to b : ℕ) (done : Result ⊤ ManyPlaces) (after : List ℕ) → Took at (f (lo + i)) held (Some done) after → some b ≡ bytes c (f (lo + i)) → to ≡ saturating_add at b
      → Gathering c f lo n (i + 1) to (result_and whole done) after
  gather_more to b done after t e u =
      record {
        list = g.list ++ t.0;
        added = holds_more whole done held g.list t.0 after g.added t.2;
        all =
            g.all
            ∙ ap (λ (l : List AnyShape). before_text (built_places c at l) g.list) (next k n i h)
            ∙ ap (λ (z : Option (List ℕ)). before_text z g.list) (built_on c at (k i) rest t.0 b t.1 (sym e))
            ∙ before_before (built_places c (saturating_add at b) rest) t.0 g.list
            ∙ ap (λ (z : ℕ). before_text (built_places c z rest) (g.list ++ t.0)) (sym u)
            ∙ ap (λ (z : ℕ). before_text (built_places c to (up k z (n - (i + 1)))) (g.list ++ t.0)) (sym (add-one i));
      }

gather_list : (c : Chunk) (f : ℕ → AnyShape) (lo n i at : ℕ) (whole : Result ⊤ ManyPlaces) (held : List ℕ) → n ≤ i → (g : Gathering c f lo n i at whole held)
    → built_places c 0 (up (λ j. f (lo + j)) 0 n) ≡ some g.list
unfolding before_text built_places
gather_list c f lo n i at whole held h g =
    g.all ∙ ap (λ (m : ℕ). before_text (built_places c at (up (λ j. f (lo + j)) i m)) g.list) (let e : n - i ≡ 0 = omega arith in e) ∙ ap some (append-nil g.list)

-- what they are at the end
pub gather_held : (c : Chunk) (f : ℕ → AnyShape) (lo n i at : ℕ) (whole : Result ⊤ ManyPlaces) (p : Places) → n ≤ i → Gathering c f lo n i at whole (list_of p) → whole ≡ Ok tt
    → Means (Ok (Some p)) (built_places c 0 (up (λ j. f (lo + j)) 0 n))
unfolding Means places_of
gather_held c f lo n i at (Ok done) p h g e = gather_list c f lo n i at (Ok done) (list_of p) h g ∙ ap some (sym g.added)
gather_held c f lo n i at (Err many) p h g e = cc

pub gather_many : (c : Chunk) (f : ℕ → AnyShape) (lo n i at : ℕ) (whole : Result ⊤ ManyPlaces) (held : List ℕ) (many : ManyPlaces) → n ≤ i → Gathering c f lo n i at whole held
    → whole ≡ Err many → Means (Err many) (built_places c 0 (up (λ j. f (lo + j)) 0 n))
unfolding Means
gather_many c f lo n i at (Ok done) held many h g e = cc
gather_many c f lo n i at (Err m) held many h g e = (g.list, gather_list c f lo n i at (Err m) held h g, g.added)

pub got_bytes : (c : Chunk) (p : Maybe ℕ) (b : ℕ) (x y : AnyShape) → p ≡ Some b → packed_of p ≡ bytes c x → x ≡ y → some b ≡ bytes c y
unfolding packed_of
got_bytes c p b x y e f g = sym (ap packed_of e) ∙ f ∙ ap (bytes c) g

pub got_none : (c : Chunk) (p : Maybe ℕ) (x y : AnyShape) → p ≡ None → packed_of p ≡ bytes c x → x ≡ y → none ≡ bytes c y
unfolding packed_of
got_none c p x y e f g = sym (ap packed_of e) ∙ f ∙ ap (bytes c) g

pub took_as : (at : ℕ) (x y : AnyShape) (held after : List ℕ) (r s : Maybe (Result ⊤ ManyPlaces)) → r ≡ s → x ≡ y → Took at x held r after → Took at y held s after
took_as at x y held after r s e f t = subst (λ (z : Maybe (Result ⊤ ManyPlaces)). Took at y held z after) e (subst (λ (z : AnyShape). Took at z held r after) f t)

-- ── Elements of an array ─────────────────────────────────────────────────────────────────

pub next_at : (i e size at s : ℕ) → i < e → e * size < 4294967296 → at ≡ i * size → s ≡ saturating_add at size → s ≡ (i + 1) * size
next_at i e size at s h l q r =
    let u : (i + 1) * size ≤ e * size = mul-le-mul_right size (let v : i + 1 ≤ e = omega arith in v) in
    let w : (i + 1) * size ≡ i * size + size = omega arith in
    r ∙ sym (sum_fits at size (omega arith)) ∙ omega arith

pub part_fits : (m size : ℕ) → m < 4294967296 → m / size * size < 4294967296
part_fits m size h = omega (arith, div-add-mod' m size)

-- Lines `(op NAME ..)`: the name is cut off before `)` or before a space and a digit, and its row decides the form.
use Rattle.std.specs.Prelude.{Option as CodeOption, Some, None, ◌≡◌, Bool, true, false, not, ◌&&◌, ◌||◌, ℕ, suc, ◌+◌, ◌-◌, ◌≤◌, ◌<◌, leb, eqb, length, take, drop}
use Rattle.std.proofs.Math.Path.{refl, sym, ap}
use Rattle.std.proofs.lemmas.List.{take_all}
use Rattle.std.proofs.Common.{◌∙◌, subst, arith, length-append, length-drop, add-zero, add-suc, suc-add, zero-add, eqb→eq, eqb-true, eq-eqb, ne_eqb}
use Rattle.std.specs.List.{find, range_with_len}
use Rattle.std.specs.Option.{option_map, unwrap_or}
use Rattle.std.proofs.lemmas.List.{drop-drop}
use Rattle.std.proofs.Math.Option.{Option, none, some}
use mathlib.Core.List.{List, [], ◌∷◌, ◌++◌, map}
use Prim.Native.String.{String}
use Rattle.std.proofs.Math.Dec.{T}
use Rattle.std.specs.Float.Ieee.Fits.{and_l, and_r}
use Rattle.std.proofs.Math.ListN.{get_or}
use Rattle.std.proofs.Math.Seq.{drop-append_seam}
use Rattle.std.proofs.lemmas.Bool.{eqb-false}
use Rattle.definition.specs.Shapes.{same_places}
use Rattle.definition.specs.Format.{Bytes, bytes, Item, text, numbers, Form, form, parse, shape_at, strip, number_at, numbers_at, provided}
use Rattle.definition.specs.Format.{◌and_then◌, nothing_after, whole, is_digit, begins_digit, begins_number}
use Rattle.definition.specs.Ops.{Row, ops, row}
use Rattle.definition.specs.Read.{Line, op_line, op_forms}
use Rattle.bytecode.specs.Meaning.{maxima_in, maxima_of}
use Rattle.bytecode.specs.Names.{name_bytes, names, lookup_from, lookup}

-- ── Where a name ends ─────────────────────────────────────────────────────────────────────

unfoldable pub name_ends : Bytes → Bool
name_ends [] = true
name_ends (b ∷ bs) = eqb b 41 || (eqb b 32 && begins_digit bs)

unfoldable pub name_of : Bytes → Bytes
name_of [] = []
name_of (b ∷ bs) = elim (name_ends (b ∷ bs)) [ true ↦ [] | false ↦ b ∷ name_of bs ]

pub name_stop : (bs : Bytes) → name_ends bs ≡ true → name_of bs ≡ []
unfolding name_of
name_stop [] e = refl
name_stop (b ∷ bs) e = rw (name_of, e)

pub name_more : (b : ℕ) (bs : Bytes) → name_ends (b ∷ bs) ≡ false → name_of (b ∷ bs) ≡ b ∷ name_of bs
unfolding name_of
name_more b bs e = rw (name_of, e)

-- whether it ends at byte i, as a search over the bytes asks
abbrev pub ends_at : Bytes → ℕ → Bool
ends_at bs i = name_ends (drop i bs)

name_from : (all bs : Bytes) (i : ℕ) → drop i all ≡ bs
    → unwrap_or (find (ends_at all) (range_with_len i (length bs))) (i + length bs) ≡ i + length (name_of bs)
unfolding name_of
name_from all [] i e = refl
name_from all (b ∷ bs) i e =
    go (name_ends (b ∷ bs)) refl (name_from all bs (i + 1) (sym (drop-drop 1 i all) ∙ ap (drop 1) e))
  where
    go : (x : Bool) → name_ends (b ∷ bs) ≡ x
        → unwrap_or (find (ends_at all) (range_with_len (i + 1) (length bs))) ((i + 1) + length bs) ≡ (i + 1) + length (name_of bs)
        → unwrap_or (find (ends_at all) (range_with_len i (suc (length bs)))) (i + suc (length bs)) ≡ i + length (name_of (b ∷ bs))
    go true q on = rw (e, name_of, q) (sym (add-zero i))
    go false q on =
        rw (e, name_of, q)
        (ap (unwrap_or (find (ends_at all) (range_with_len (i + 1) (length bs)))) (let z : i + suc (length bs) ≡ (i + 1) + length bs = omega arith in z)
        ∙ on ∙ (let z : (i + 1) + length (name_of bs) ≡ i + suc (length (name_of bs)) = omega arith in z))

-- the first byte at which it ends
pub name_found : (bs : Bytes) (r : CodeOption ℕ) → option_map (λ x. x) r ≡ find (ends_at bs) (range_with_len 0 (length bs))
    → unwrap_or r (length bs) ≡ length (name_of bs)
name_found bs r e =
    ap (λ (o : CodeOption ℕ). unwrap_or o (length bs)) (same r ∙ e)
    ∙ ap (unwrap_or (find (ends_at bs) (range_with_len 0 (length bs)))) (sym (zero-add (length bs)))
    ∙ name_from bs bs 0 refl
    ∙ zero-add (length (name_of bs))
  where
    same : (o : CodeOption ℕ) → o ≡ option_map (λ x. x) o
    same None = refl
    same (Some x) = refl

-- the bytes from one on, as the code has them
pub from_is : (bs : Bytes) (i : ℕ) → take (length bs - i) (drop i bs) ≡ drop i bs
from_is bs i = take_all (length bs - i) (drop i bs) (omega (arith, length-drop i bs))

-- a name and what follows it
pub name_front : (bs : Bytes) → bs ≡ name_of bs ++ drop (length (name_of bs)) bs
unfolding name_of
name_front [] = refl
name_front (b ∷ bs) = go (name_ends (b ∷ bs)) (name_front bs)
  where
    go : (x : Bool) → bs ≡ name_of bs ++ drop (length (name_of bs)) bs
        → b ∷ bs ≡ (elim x as (λ _. Bytes) [ true ↦ [] | false ↦ b ∷ name_of bs ]) ++ drop (length {A = ℕ} (elim x as (λ _. Bytes) [ true ↦ [] | false ↦ b ∷ name_of bs ])) (b ∷ bs)
    go true h = refl
    go false h = ap (λ (r : Bytes). b ∷ r) h

-- a text in which no name ends
unfoldable clean : Bytes → Bool
clean [] = true
clean (b ∷ bs) = not (eqb b 41) && (not (eqb b 32 && begins_digit bs) && clean bs)

digit_front : (nm rest : Bytes) → begins_digit rest ≡ false → begins_digit (nm ++ rest) ≡ begins_digit nm
unfolding begins_digit
digit_front [] rest e = e
digit_front (b ∷ nm) rest e = refl

neither : (a b : Bool) → T (not a) → T (not b) → (a || b) ≡ false
neither true b p q = absurd p
neither false true p q = absurd q
neither false false p q = refl

cut_name : (nm rest : Bytes) → T (clean nm) → name_ends rest ≡ true → begins_digit rest ≡ false → name_of (nm ++ rest) ≡ nm
unfolding clean name_ends
cut_name [] rest t e d = name_stop rest e
cut_name (b ∷ nm) rest t e d =
    let u = and_r (not (eqb b 41)) _ t in
    name_more b (nm ++ rest)
    (ap (λ (x : Bool). eqb b 41 || (eqb b 32 && x)) (digit_front nm rest d)
    ∙ neither (eqb b 41) (eqb b 32 && begins_digit nm) (and_l (not (eqb b 41)) _ t) (and_l (not (eqb b 32 && begins_digit nm)) (clean nm) u))
    ∙ ap (λ (r : Bytes). b ∷ r) (cut_name nm rest (and_r (not (eqb b 32 && begins_digit nm)) (clean nm) u) e d)

-- ── A row's form ──────────────────────────────────────────────────────────────────────────

no_some : {A : Type 0} {x : A} → none ≡ some x → ⊥
no_some e = let z : ◌≡◌ {A = ℕ} 0 1 = cc in omega arith

then_some : {A B : Type 0} (o : Option A) (g : A → Option B) (r : B) → (o and_then g) ≡ some r → (a : A) × (o ≡ some a) × (g a ≡ some r)
unfolding ◌and_then◌
then_some none g r e = absurd (no_some e)
then_some (some a) g r e = (a, refl, e)

strip-front : (t bs r : Bytes) → strip t bs ≡ some r → bs ≡ t ++ r
unfolding strip
strip-front [] bs r e = cc
strip-front (t ∷ ts) [] r e = absurd (no_some e)
strip-front (t ∷ ts) (b ∷ bs) r e = go (eqb t b) refl e (λ d. strip-front ts bs r d)
  where
    go : (x : Bool) → eqb t b ≡ x → ◌≡◌ {A = Option Bytes} (elim x [ true ↦ strip ts bs | false ↦ none ]) (some r)
        → (strip ts bs ≡ some r → bs ≡ ts ++ r) → b ∷ bs ≡ t ∷ (ts ++ r)
    go true q d f = let h : bs ≡ ts ++ r = f d in let k : t ≡ b = eqb-true t b q in cc
    go false q d f = absurd (no_some d)

-- what follows a text at the front
pub strip-rest : (t s r : Bytes) → some r ≡ strip t s → (r ≡ drop (length t) s) × (length t ≤ length s)
strip-rest t s r e =
    let f : s ≡ t ++ r = strip-front t s r (sym e) in
    (sym (ap (drop (length t)) f ∙ drop-append_seam t r), omega (arith, ap length f, length-append t r))

strip_back : (t r : Bytes) → strip t (t ++ r) ≡ some r
unfolding strip
strip_back [] r = refl
strip_back (t ∷ ts) r = rw (strip, eq-eqb t t refl) (strip_back ts r)

-- The closing parenthesis, and nothing after it.
unfoldable pub closing : ℕ → List ℕ → Bytes → Option Line
closing n vs bs = elim (same_places bs (41 ∷ [])) [ true ↦ some (op_line (record { code = n; operands = vs })) | false ↦ none ]

unfoldable pub after_name : ℕ → List ℕ → Bytes → Option Line
after_name n ms bs = numbers_at ms bs and_then λ r. closing n r.0 r.1

abbrev made : ℕ → List ℕ → Line
made n vs = op_line (record { code = n; operands = vs })

end_is : (n : ℕ) (vs : List ℕ) (bs : Bytes) → ((strip (41 ∷ []) bs and_then λ e. some (made n vs, e)) and_then nothing_after) ≡ closing n vs bs
unfolding closing strip same_places ◌and_then◌ nothing_after
end_is n vs [] = refl
end_is n vs (b ∷ bs) = go (eqb 41 b) refl bs
  where
    same : (x : Bool) → eqb 41 b ≡ x → eqb b 41 ≡ x
    same true e = eq-eqb b 41 (sym (eqb-true 41 b e))
    same false e = ne_eqb b 41 (λ q. eqb-false 41 b e (sym q))

    go : (x : Bool) → eqb 41 b ≡ x → (r : Bytes)
        → ((elim x as (λ _. Option Bytes) [ true ↦ some r | false ↦ none ] and_then λ e. some (made n vs, e)) and_then nothing_after)
        ≡ elim (eqb b 41 && same_places r []) as (λ _. Option Line) [ true ↦ some (made n vs) | false ↦ none ]
    go true q [] = rw (same true q)
    go true q (y ∷ r) = rw (same true q)
    go false q r = rw (same false q)

module _ (n : ℕ) (ms : List ℕ) (name : String) where
  abbrev its : List Item
  its = text "(op " ∷ text name ∷ numbers ms ∷ text ")" ∷ []

  attempt : Bytes → Option Line
  attempt s = parse shape_at its (λ ns. made n ns) s and_then nothing_after

  then_end : (o : Option (List ℕ × Bytes))
      → ((o and_then λ r. strip (41 ∷ []) r.1 and_then λ e. some (made n r.0, e)) and_then nothing_after) ≡ (o and_then λ r. closing n r.0 r.1)
  unfolding ◌and_then◌
  then_end none = refl
  then_end (some r) = end_is n r.0 r.1

  module _ (s a : Bytes) (e : strip (bytes "(op ") s ≡ some a) where
    attempt_is : (b : Bytes) → strip (bytes name) a ≡ some b → attempt s ≡ after_name n ms b
    unfolding attempt parse after_name bytes ◌and_then◌
    attempt_is b d = rw (e, d) (then_end (numbers_at ms b))

    attempt_none : strip (bytes name) a ≡ none → attempt s ≡ none
    unfolding attempt parse bytes ◌and_then◌
    attempt_none d = rw (e, d)

provided_true : {A : Type 0} (x : Bool) (a r : A) → provided x a ≡ some r → T x
unfolding provided
provided_true true a r e = tt
provided_true false a r e = absurd (no_some e)

digit_first : (bs : Bytes) → T (begins_number bs) → begins_digit bs ≡ true
unfolding begins_number begins_digit
digit_first [] t = absurd t
digit_first (b ∷ bs) t = go (is_digit b) (and_l (is_digit b) _ t)
  where
    go : (x : Bool) → T x → x ≡ true
    go true t = refl
    go false t = absurd t

-- what follows the name of a line that is read
followed : (n : ℕ) (ms : List ℕ) (b : Bytes) (l : Line) → after_name n ms b ≡ some l → (name_ends b ≡ true) × (begins_digit b ≡ false)
unfolding after_name numbers_at number_at closing same_places name_ends begins_digit is_digit ◌and_then◌
followed n [] [] l e = absurd (no_some e)
followed n [] (b ∷ bs) l e = go (eqb b 41) refl e
  where
    go : (x : Bool) → eqb b 41 ≡ x
        → ◌≡◌ {A = Option Line} (elim (x && same_places bs []) as (λ _. Option Line) [ true ↦ some (made n []) | false ↦ none ]) (some l)
        → ((eqb b 41 || (eqb b 32 && begins_digit bs)) ≡ true) × (is_digit b ≡ false)
    go true q d = (rw q, rw (eqb-true b 41 q))
    go false q d = absurd (no_some d)
followed n (m ∷ ms) [] l e = absurd (no_some e)
followed n (m ∷ ms) (b ∷ bs) l e =
    let p = then_some (numbers_at (m ∷ ms) (b ∷ bs)) (λ r. closing n r.0 r.1) l e in
    let q = then_some (number_at (λ k. leb k m) (b ∷ bs)) (λ r. numbers_at ms r.1 and_then λ x. some (r.0 ∷ x.0, x.1)) p.0 p.1 in
    let t = provided_true _ _ q.0 q.1 in
    let k : b ≡ 32 = eqb→eq b 32 (and_l (eqb b 32) _ t) in
    let d : begins_digit bs ≡ true = digit_first bs (and_l (begins_number bs) _ (and_r (eqb b 32) _ t)) in
    (rw (k, d), rw k)

-- ── All rows ──────────────────────────────────────────────────────────────────────────────

same_itself : (xs : Bytes) → same_places xs xs ≡ true
unfolding same_places
same_itself [] = refl
same_itself (x ∷ xs) = rw (eq-eqb x x refl) (same_itself xs)

same_is : (xs ys : Bytes) → T (same_places xs ys) → xs ≡ ys
unfolding same_places
same_is [] [] t = refl
same_is [] (y ∷ ys) t = absurd t
same_is (x ∷ xs) [] t = absurd t
same_is (x ∷ xs) (y ∷ ys) t =
    let e : x ≡ y = eqb→eq x y (and_l (eqb x y) (same_places xs ys) t) in
    let r : xs ≡ ys = same_is xs ys (and_r (eqb x y) (same_places xs ys) t) in
    cc

-- no name ends in another, and no name stands twice
unfoldable is_none : Option ℕ → Bool
is_none none = true
is_none (some n) = false

unfoldable good_rows : List Row → Bool
good_rows [] = true
good_rows (r ∷ rs) = clean (bytes r.name) && (is_none (lookup_from 0 (map name_bytes rs) (bytes r.name)) && good_rows rs)

ops_good : T (good_rows ops)
unfolding good_rows clean is_none lookup_from same_places ops row bytes begins_digit is_digit
ops_good = tt

lookup_none : (n m : ℕ) (bs : List Bytes) (t : Bytes) → T (is_none (lookup_from n bs t)) → lookup_from m bs t ≡ none
unfolding lookup_from is_none
lookup_none n m [] t h = refl
lookup_none n m (b ∷ bs) t h = go (same_places b t) h (λ u. lookup_none (suc n) (suc m) bs t u)
  where
    go : (x : Bool) → T (is_none (elim x as (λ _. Option ℕ) [ true ↦ some n | false ↦ lookup_from (suc n) bs t ]))
        → (T (is_none (lookup_from (suc n) bs t)) → lookup_from (suc m) bs t ≡ none)
        → ◌≡◌ {A = Option ℕ} (elim x [ true ↦ some m | false ↦ lookup_from (suc m) bs t ]) none
    go true u f = absurd u
    go false u f = f u

-- the line of the row that a name has
unfoldable pub line_of_row : Option ℕ → Bytes → Option Line
line_of_row none b = none
line_of_row (some n) b = after_name n (maxima_of n) b

module _ (s a : Bytes) (e : strip (bytes "(op ") s ≡ some a) where
  skipped : (n : ℕ) (r : Row) → T (clean (bytes r.name)) → same_places (bytes r.name) (name_of a) ≡ false → attempt n r.maxima r.name s ≡ none
  skipped n r c d = go (strip (bytes r.name) a) refl
    where
      go : (o : Option Bytes) → strip (bytes r.name) a ≡ o → attempt n r.maxima r.name s ≡ none
      go none q = attempt_none n r.maxima r.name s a e q
      go (some b) q = read (after_name n r.maxima b) refl
        where
          read : (o : Option Line) → after_name n r.maxima b ≡ o → attempt n r.maxima r.name s ≡ none
          read none x = attempt_is n r.maxima r.name s a e b q ∙ x
          read (some l) x =
              let f = followed n r.maxima b l x in
              let k : name_of a ≡ bytes r.name =
              ap name_of (strip-front (bytes r.name) a b q) ∙ cut_name (bytes r.name) b c f.0 f.1 in
              absurd (subst T (sym (same_itself (bytes r.name)) ∙ ap (same_places (bytes r.name)) (sym k) ∙ d) tt)

  rest : Bytes
  rest = drop (length (name_of a)) a

  found : (n : ℕ) (r : Row) → same_places (bytes r.name) (name_of a) ≡ true → attempt n r.maxima r.name s ≡ after_name n r.maxima rest
  unfolding rest
  found n r d =
      let k : bytes r.name ≡ name_of a = same_is (bytes r.name) (name_of a) (subst T (sym d) tt) in
      attempt_is n r.maxima r.name s a e (drop (length (name_of a)) a)
      (ap (λ (x : Bytes). strip x a) k
      ∙ ap (strip (name_of a)) (name_front a)
      ∙ strip_back (name_of a) (drop (length (name_of a)) a))

  stop_at : (o x : Option Line) → x ≡ none → ◌≡◌ {A = Option Line} (elim o [ some l ↦ some l | none ↦ x ]) o
  stop_at none x h = h
  stop_at (some l) x h = refl

  by_rows : (n : ℕ) (rs : List Row) → T (good_rows rs) → ((i : ℕ) → i < length rs → get_or (map maxima_in rs) i [] ≡ maxima_of (n + i))
      → whole shape_at (op_forms n rs) s ≡ line_of_row (lookup_from n (map name_bytes rs) (name_of a)) rest
  unfolding whole op_forms form lookup_from good_rows attempt line_of_row
  by_rows n [] g mx = refl
  by_rows n (r ∷ rs) g mx =
      go (same_places (bytes r.name) (name_of a)) refl
      (by_rows (suc n) rs (and_r (is_none (lookup_from 0 (map name_bytes rs) (bytes r.name))) (good_rows rs) h)
      (λ i l. mx (suc i) (omega arith) ∙ ap maxima_of (add-suc n i ∙ sym (suc-add n i))))
    where
      h : T (is_none (lookup_from 0 (map name_bytes rs) (bytes r.name)) && good_rows rs)
      h = and_r (clean (bytes r.name)) _ g

      go : (x : Bool) → same_places (bytes r.name) (name_of a) ≡ x
          → whole shape_at (op_forms (suc n) rs) s ≡ line_of_row (lookup_from (suc n) (map name_bytes rs) (name_of a)) rest
          → ◌≡◌ {A = Option Line}
          (elim (attempt n r.maxima r.name s) [ some l ↦ some l | none ↦ whole shape_at (op_forms (suc n) rs) s ])
          (line_of_row (elim x [ true ↦ some n | false ↦ lookup_from (suc n) (map name_bytes rs) (name_of a) ]) rest)
      go true q ih =
          let k : bytes r.name ≡ name_of a = same_is (bytes r.name) (name_of a) (subst T (sym q) tt) in
          stop_at (attempt n r.maxima r.name s) (whole shape_at (op_forms (suc n) rs) s)
          (ih ∙ ap (λ (o : Option ℕ). line_of_row o rest)
          (ap (lookup_from (suc n) (map name_bytes rs)) (sym k)
          ∙ lookup_none 0 (suc n) (map name_bytes rs) (bytes r.name) (and_l (is_none (lookup_from 0 (map name_bytes rs) (bytes r.name))) (good_rows rs) h)))
          ∙ found n r q
          ∙ ap (λ (ms : List ℕ). after_name n ms rest) (mx 0 (omega arith) ∙ ap maxima_of (add-zero n))
      go false q ih =
          ap (λ (o : Option Line). elim o as (λ _. Option Line) [ some l ↦ some l | none ↦ whole shape_at (op_forms (suc n) rs) s ])
          (skipped n r (and_l (clean (bytes r.name)) _ g) q)
          ∙ ih

  -- An op's line is that of the row that its name has.
  pub by_name : whole shape_at (op_forms 0 ops) s ≡ line_of_row (lookup (name_of a)) (drop (length (name_of a)) a)
  unfolding lookup names rest maxima_of
  by_name = by_rows 0 ops ops_good (λ i l. ap (λ (k : ℕ). get_or (map maxima_in ops) k []) (sym (zero-add i)))

-- ── Which lines are ops ───────────────────────────────────────────────────────────────────

pub no_ops : (s : Bytes) (n : ℕ) (rs : List Row) → strip (bytes "(op ") s ≡ none → whole shape_at (op_forms n rs) s ≡ none
unfolding whole op_forms form parse ◌and_then◌
no_ops s n [] e = refl
no_ops s n (r ∷ rs) e = rw (whole, e) (no_ops s (suc n) rs e)

pub both_whole : (s : Bytes) (fs gs : List (Form Line)) → whole shape_at (fs ++ gs) s ≡ elim (whole shape_at fs s) as (λ _. Option Line) [ some l ↦ some l | none ↦ whole shape_at gs s ]
unfolding whole
both_whole s [] gs = refl
both_whole s (f ∷ fs) gs = go (parse shape_at f.items f.make s and_then nothing_after) (both_whole s fs gs)
  where
    go : (o : Option Line) → whole shape_at (fs ++ gs) s ≡ elim (whole shape_at fs s) as (λ _. Option Line) [ some l ↦ some l | none ↦ whole shape_at gs s ]
        → ◌≡◌ {A = Option Line} (elim o [ some a ↦ some a | none ↦ whole shape_at (fs ++ gs) s ])
        (elim (elim o as (λ _. Option Line) [ some a ↦ some a | none ↦ whole shape_at fs s ]) as (λ _. Option Line) [ some l ↦ some l | none ↦ whole shape_at gs s ])
    go none h = h
    go (some a) h = refl

-- An op's line, from its name on.
unfoldable pub named_line : Bytes → Option Line
named_line a = line_of_row (lookup (name_of a)) (drop (length (name_of a)) a)

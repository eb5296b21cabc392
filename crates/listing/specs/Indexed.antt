-- Laws of what the reader reads, at a place that is counted from the front of a line or of a listing: at byte i, or from byte i on. The code goes by what is
-- left, and its laws stand beside the definitions; these say it for whoever follows a line by an index.
use Rattle.std.specs.Prelude.{◌≡◌, refl, Bool, true, false, not, [], ◌∷◌, ◌++◌, ℕ, suc, ◌+◌, ◌-◌, ◌≤◌, ◌<◌, T, eqb, length, get_or, take, drop}
use Rattle.std.proofs.Common.{sym, ap, ◌∙◌, subst, arith, add-one, append_assoc, append-nil, drop-cons, drop_of_length-le, get_or-drop, length-drop, eqb-true, eq-eqb, ne_eqb, take_all}
use Rattle.std.proofs.Math.Bool.{and-true}
use Rattle.std.proofs.Math.Option.{Option, none, some}
use Rattle.std.proofs.Math.Seq.{take-suc}
use Rattle.definition.specs.Shapes.{same_places}
use Rattle.definition.specs.Format.{Bytes, is_digit, digits_from, begins_digit, begins_number, strip}
use Rattle.definition.specs.Read.{Lines, line, end, byte_before, cut}
use Rattle.listing.specs.Num.{at_most}
use Rattle.listing.specs.OpLines.{name_ends, name_of, name_stop, name_more}

-- ── Numbers ───────────────────────────────────────────────────────────────────────────────

-- the answer, once the digits have ended at i
pub done : (max at n i : ℕ) (s : Bytes) (o : Option (ℕ × Bytes))
    → digits_from 0 (drop at s) ≡ digits_from n (drop i s) → digits_from n (drop i s) ≡ (n, drop i s)
    → o ≡ at_most max (n, drop i s) → o ≡ at_most max (digits_from 0 (drop at s))
done max at n i s o p q r = r ∙ ap (at_most max) (sym (p ∙ q))

module _ (s : Bytes) (i : ℕ) where
  pub digit_here : i < length s → is_digit (get_or s i 0) ≡ begins_digit (drop i s)
  unfolding begins_digit
  digit_here h = rw (drop-cons s i 0 h)

  pub digit_none : length s ≤ i → false ≡ begins_digit (drop i s)
  unfolding begins_digit
  digit_none h = rw (drop_of_length-le s h)

  pub begins_none : length s ≤ i → false ≡ begins_number (drop i s)
  unfolding begins_number
  begins_none h = rw (drop_of_length-le s h)

  pub begins_zero : i < length s → get_or s i 0 ≡ 48 → (b : Bool) → b ≡ begins_digit (drop (i + 1) s) → not b ≡ begins_number (drop i s)
  unfolding begins_number is_digit
  begins_zero h e b q = rw (drop-cons s i 0 h, e, q, add-one i)

  pub begins_other : i < length s → (get_or s i 0 ≡ 48 → ⊥) → (b : Bool) → b ≡ is_digit (get_or s i 0) → b ≡ begins_number (drop i s)
  unfolding begins_number
  begins_other h n b q = rw (drop-cons s i 0 h, ne_eqb (get_or s i 0) 48 n, ← q, and-true b)

-- ── A text, byte j of it at byte i ────────────────────────────────────────────────────────

module _ (s t : Bytes) (i j : ℕ) where
  pub text_done : length t ≤ j → strip (drop j t) (drop i s) ≡ some (drop i s)
  unfolding strip
  text_done h = rw (drop_of_length-le t h)

  module _ (h : j < length t) where
    pub text_short : length s ≤ i → strip (drop j t) (drop i s) ≡ none
    unfolding strip
    text_short l = rw (drop-cons t j 0 h, drop_of_length-le s l)

    at_bytes : i < length s → strip (drop j t) (drop i s) ≡ strip (get_or t j 0 ∷ drop (suc j) t) (get_or s i 0 ∷ drop (suc i) s)
    at_bytes l = rw (drop-cons t j 0 h, drop-cons s i 0 l)

    pub text_differs : i < length s → (get_or s i 0 ≡ get_or t j 0 → ⊥) → strip (drop j t) (drop i s) ≡ none
    unfolding strip
    text_differs l n = at_bytes l ∙ (rw (strip, ne_eqb (get_or t j 0) (get_or s i 0) (λ e. n (sym e))))

    pub text_more : i < length s → get_or s i 0 ≡ get_or t j 0 → strip (drop j t) (drop i s) ≡ strip (drop (j + 1) t) (drop (i + 1) s)
    unfolding strip
    text_more l e = at_bytes l ∙ (rw (strip, eq-eqb (get_or t j 0) (get_or s i 0) (sym e), add-one j, add-one i))

-- ── Where an op's name ends ───────────────────────────────────────────────────────────────

module _ (s : Bytes) (i : ℕ) where
  pub ends_short : length s ≤ i → true ≡ name_ends (drop i s)
  unfolding name_ends
  ends_short h = rw (drop_of_length-le s {i = i} h)

  module _ (h : i < length s) where
    pub ends_close : get_or s i 0 ≡ 41 → true ≡ name_ends (drop i s)
    unfolding name_ends
    ends_close e = rw (drop-cons s i 0 h, e)

    pub ends_space : get_or s i 0 ≡ 32 → (b : Bool) → b ≡ begins_digit (drop (i + 1) s) → b ≡ name_ends (drop i s)
    unfolding name_ends
    ends_space e b q = rw (drop-cons s i 0 h, e, q, add-one i)

    pub ends_not : (get_or s i 0 ≡ 41 → ⊥) → (get_or s i 0 ≡ 32 → ⊥) → false ≡ name_ends (drop i s)
    unfolding name_ends
    ends_not n m = rw (drop-cons s i 0 h, ne_eqb (get_or s i 0) 41 n, ne_eqb (get_or s i 0) 32 m)

-- ── A name from one place to another ──────────────────────────────────────────────────────

module _ (s : Bytes) (at : ℕ) where
  part_start : take (at - at) (drop at s) ≡ []
  part_start = ap (λ (k : ℕ). take k (drop at s)) (let z : at - at ≡ 0 = omega arith in z)

  -- one byte further
  part_on : (i : ℕ) → at ≤ i → i < length s → take (i + 1 - at) (drop at s) ≡ take (i - at) (drop at s) ++ (get_or s i 0 ∷ [])
  part_on i l h =
      let k : i + 1 - at ≡ suc (i - at) = omega arith in
      let z : at + (i - at) ≡ i = omega arith in
      ap (λ (x : ℕ). take x (drop at s)) k
      ∙ take-suc (drop at s) (i - at) 0 (omega (arith, length-drop at s))
      ∙ ap (λ (x : ℕ). take (i - at) (drop at s) ++ (x ∷ [])) (get_or-drop at s (i - at) 0 ∙ ap (λ (x : ℕ). get_or s x 0) z)

  -- the name from `at` on is what stands before i, and the rest of the name from i on
  pub NameFrom : ℕ → Type 0
  NameFrom i = name_of (drop at s) ≡ take (i - at) (drop at s) ++ name_of (drop i s)

  pub name_start : NameFrom at
  unfolding NameFrom
  name_start = rw part_start

  pub name_done : (i : ℕ) → NameFrom i → name_ends (drop i s) ≡ true → take (i - at) (drop at s) ≡ name_of (drop at s)
  unfolding NameFrom
  name_done i f e = sym (f ∙ ap (λ (x : Bytes). take (i - at) (drop at s) ++ x) (name_stop (drop i s) e) ∙ append-nil (take (i - at) (drop at s)))

  pub name_on : (i : ℕ) → at ≤ i → i < length s → NameFrom i → name_ends (drop i s) ≡ false → NameFrom (i + 1)
  unfolding NameFrom
  name_on i l h f e =
      let d : drop i s ≡ get_or s i 0 ∷ drop (suc i) s = drop-cons s i 0 h in
      let m : name_of (drop i s) ≡ get_or s i 0 ∷ name_of (drop (i + 1) s) =
      ap name_of d ∙ name_more (get_or s i 0) (drop (suc i) s) (ap name_ends (sym d) ∙ e) ∙ (rw (add-one i)) in
      f ∙ ap (λ (x : Bytes). take (i - at) (drop at s) ++ x) m
      ∙ sym (append_assoc (take (i - at) (drop at s)) (get_or s i 0 ∷ []) (name_of (drop (i + 1) s)))
      ∙ ap (λ (x : Bytes). x ++ name_of (drop (i + 1) s)) (sym (part_on i l h))

-- ── The end of an op's line ───────────────────────────────────────────────────────────────

module _ (s : Bytes) (i : ℕ) where
  pub close_short : length s ≤ i → false ≡ same_places (drop i s) (41 ∷ [])
  unfolding same_places
  close_short h = rw (drop_of_length-le s {i = i} h)

  pub close_other : i < length s → (get_or s i 0 ≡ 41 → ⊥) → false ≡ same_places (drop i s) (41 ∷ [])
  unfolding same_places
  close_other h n = rw (drop-cons s i 0 h, ne_eqb (get_or s i 0) 41 n)

  past_end : (bs : Bytes) → eqb (length bs) 0 ≡ same_places bs []
  unfolding same_places
  past_end [] = refl
  past_end (b ∷ bs) = ne_eqb (suc (length bs)) 0 (λ e. absurd (omega arith))

  pub close_here : i < length s → get_or s i 0 ≡ 41 → eqb (length s) (i + 1) ≡ same_places (drop i s) (41 ∷ [])
  unfolding same_places
  close_here h e =
      same_test (length s) (i + 1) (length (drop (suc i) s)) 0 (λ q. omega (arith, length-drop (suc i) s)) (λ q. omega (arith, length-drop (suc i) s))
      ∙ past_end (drop (suc i) s) ∙ (rw (drop-cons s i 0 h, e))
    where
      same_test : (a b c d : ℕ) → (a ≡ b → c ≡ d) → (c ≡ d → a ≡ b) → eqb a b ≡ eqb c d
      same_test a b c d f g = go (eqb a b) refl
        where
          go : (x : Bool) → eqb a b ≡ x → x ≡ eqb c d
          go true p = sym (eq-eqb c d (f (eqb-true a b p)))
          go false p = sym (ne_eqb c d (λ q. absurd (subst T (sym (eq-eqb a b (g q)) ∙ p) tt)))

-- ── Where a line of a listing ends ────────────────────────────────────────────────────────

-- The line from `at` on ends at r: before r stands no LF, and at r an LF or nothing.
pub record LineEnd (s : Bytes) (at r : ℕ) : Type 0 where
  pub from : at ≤ r
  pub in_bytes : r ≤ length s
  pub none_left : length s ≤ r → cut (drop at s) ≡ end (drop at s)
  pub one_more : r < length s → cut (drop at s) ≡ line (take (r - at) (drop at s)) (cut (drop (r + 1) s))

unfoldable bytes_before : Bytes → Lines → Lines
bytes_before [] ls = ls
bytes_before (b ∷ bs) ls = byte_before b (bytes_before bs ls)

before_line : (bs : Bytes) (ls : Lines) → bytes_before bs (line [] ls) ≡ line bs ls
unfolding bytes_before byte_before
before_line [] ls = refl
before_line (b ∷ bs) ls = ap (byte_before b) (before_line bs ls)

before_end : (bs : Bytes) → bytes_before bs (end []) ≡ end bs
unfolding bytes_before byte_before
before_end [] = refl
before_end (b ∷ bs) = ap (byte_before b) (before_end bs)

before_more : (bs : Bytes) (b : ℕ) (ls : Lines) → bytes_before (bs ++ (b ∷ [])) ls ≡ bytes_before bs (byte_before b ls)
unfolding bytes_before
before_more [] b ls = refl
before_more (x ∷ bs) b ls = ap (byte_before x) (before_more bs b ls)

cut_lf : (b : ℕ) (bs : Bytes) → b ≡ 10 → cut (b ∷ bs) ≡ line [] (cut bs)
unfolding cut
cut_lf b bs e = rw (cut, eq-eqb b 10 e)

cut_other : (b : ℕ) (bs : Bytes) → (b ≡ 10 → ⊥) → cut (b ∷ bs) ≡ byte_before b (cut bs)
unfolding cut
cut_other b bs n = rw (cut, ne_eqb b 10 n)

module _ (s : Bytes) (at : ℕ) where
  -- no LF stands before i
  pub LineTo : ℕ → Type 0
  LineTo i = cut (drop at s) ≡ bytes_before (take (i - at) (drop at s)) (cut (drop i s))

  pub line_start : LineTo at
  unfolding LineTo bytes_before
  line_start = rw (part_start s at)

  module _ (i : ℕ) (l : at ≤ i) (f : LineTo i) where
    pub line_on : i < length s → (get_or s i 0 ≡ 10 → ⊥) → LineTo (i + 1)
    unfolding LineTo
    line_on h n =
        let d : cut (drop i s) ≡ byte_before (get_or s i 0) (cut (drop (i + 1) s)) =
        ap cut (drop-cons s i 0 h) ∙ cut_other (get_or s i 0) (drop (suc i) s) n ∙ (rw (add-one i)) in
        f ∙ ap (bytes_before (take (i - at) (drop at s))) d
        ∙ sym (before_more (take (i - at) (drop at s)) (get_or s i 0) (cut (drop (i + 1) s)))
        ∙ ap (λ (x : Bytes). bytes_before x (cut (drop (i + 1) s))) (sym (part_on s at i l h))

    pub line_lf : i < length s → get_or s i 0 ≡ 10 → LineEnd s at i
    unfolding LineTo
    line_lf h e =
        record {
          from = l;
          in_bytes = omega arith;
          none_left = λ x. absurd (omega arith);
          one_more =
              λ x. f
              ∙ ap (bytes_before (take (i - at) (drop at s))) (ap cut (drop-cons s i 0 h) ∙ cut_lf (get_or s i 0) (drop (suc i) s) e)
              ∙ before_line (take (i - at) (drop at s)) (cut (drop (suc i) s))
              ∙ (rw (add-one i));
        }

    pub line_short : length s ≤ i → i ≤ length s → LineEnd s at i
    unfolding LineTo cut
    line_short h u =
        record {
          from = l;
          in_bytes = u;
          none_left =
              λ x. f
              ∙ ap (λ (y : Bytes). bytes_before (take (i - at) (drop at s)) (cut y)) (drop_of_length-le s {i = i} h)
              ∙ before_end (take (i - at) (drop at s))
              ∙ ap end (take_all (i - at) (drop at s) (omega (arith, length-drop at s)));
          one_more = λ x. absurd (omega arith);
        }

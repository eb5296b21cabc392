-- The digits of a number: its last digit apart, and how many there are. What is written is read as the same number, and the digits that are read as a
-- number are those that write it.
use Rattle.std.specs.Prelude.{◌≡◌, refl, Bool, true, false, not, ◌&&◌, [], ◌∷◌, ◌++◌, ℕ, zero, suc, ◌+◌, ◌*◌, ◌-◌, ◌/◌, ◌%◌, ◌^◌, ◌≤◌, ◌<◌, leb, eqb, length}
use Rattle.std.proofs.Common.{sym, ap, ◌∙◌, subst, append_assoc, arith, pow-suc, lt-ltb, le-ltb, le-leb, ne_eqb, leb→le, length-append}
use Rattle.std.proofs.Math.Option.{some}
use Rattle.std.proofs.Math.Decide.{dec_lt}
use Rattle.definition.specs.Format.{Bytes, is_digit, digits_from, begins_digit, begins_number, number_at, provided, decimal_before, decimal}
use Rattle.theorems.specs.Cover.{no_some, no_false, T_of, and_true, eqb_eq}

before_one : (f n : ℕ) (ds : Bytes) → n < 10 → decimal_before (suc f) n ds ≡ (48 + n) ∷ ds
unfolding decimal_before
before_one f n ds h = rw (lt-ltb n 10 h, decimal_before)

before_more : (f n : ℕ) (ds : Bytes) → 10 ≤ n → decimal_before (suc f) n ds ≡ decimal_before f (n / 10) ((48 + n % 10) ∷ ds)
unfolding decimal_before
before_more f n ds h = rw (le-ltb n 10 h, decimal_before)

before_none : (n : ℕ) (ds es : Bytes) → decimal_before zero n (ds ++ es) ≡ decimal_before zero n ds ++ es
unfolding decimal_before
before_none n ds es = refl

-- what follows the digits stays as it is
before_append : (f n : ℕ) (ds es : Bytes) → decimal_before f n (ds ++ es) ≡ decimal_before f n ds ++ es
before_append zero n ds es = before_none n ds es
before_append (suc f) n ds es =
    elim (dec_lt n 10) [
      | yes h ↦ rw (before_one f n (ds ++ es) h, before_one f n ds h)
      | no h ↦
          before_more f n (ds ++ es) (omega arith)
          ∙ before_append f (n / 10) ((48 + n % 10) ∷ ds) es
          ∙ ap (λ (l : Bytes). l ++ es) (sym (before_more f n ds (omega arith)))
    ]

-- more fuel gives the same digits
before_same : (f g n : ℕ) (ds : Bytes) → n < f → n < g → decimal_before f n ds ≡ decimal_before g n ds
before_same zero g n ds p q = absurd (omega arith)
before_same (suc f) zero n ds p q = absurd (omega arith)
before_same (suc f) (suc g) n ds p q =
    elim (dec_lt n 10) [
      | yes h ↦ before_one f n ds h ∙ sym (before_one g n ds h)
      | no h ↦
          before_more f n ds (omega arith)
          ∙ before_same f g (n / 10) ((48 + n % 10) ∷ ds) (omega arith) (omega arith)
          ∙ sym (before_more g n ds (omega arith))
    ]

pub decimal-one : (n : ℕ) → n < 10 → decimal n ≡ (48 + n) ∷ []
unfolding decimal
decimal-one n h = before_one n n [] h

pub decimal-more : (n : ℕ) → 10 ≤ n → decimal n ≡ decimal (n / 10) ++ ((48 + n % 10) ∷ [])
unfolding decimal
decimal-more n h =
    before_more n n [] h
    ∙ before_append n (n / 10) [] ((48 + n % 10) ∷ [])
    ∙ ap (λ (l : Bytes). l ++ ((48 + n % 10) ∷ [])) (before_same n (suc (n / 10)) (n / 10) [] (omega arith) (omega arith))

pub decimal_longer : (n : ℕ) → 10 ≤ n → length (decimal n) ≡ length (decimal (n / 10)) + 1
decimal_longer n h = ap length (decimal-more n h) ∙ length-append (decimal (n / 10)) ((48 + n % 10) ∷ [])

-- A number below 10 ^ d has at most d digits.
pub decimal_short : (d n : ℕ) → n < 10 ^ suc d → length (decimal n) ≤ suc d
decimal_short zero n h = omega (arith, ap length (decimal-one n (omega (arith, pow-suc 10 0))))
decimal_short (suc d) n h =
    elim (dec_lt n 10) [
      | yes l ↦ omega (arith, ap length (decimal-one n l))
      | no l ↦ omega (arith, decimal_longer n (omega arith), decimal_short d (n / 10) (omega (arith, pow-suc 10 (suc d))))
    ]

-- ── One digit ─────────────────────────────────────────────────────────────────────────────

digit_yes : (b : ℕ) → 48 ≤ b → b ≤ 57 → is_digit b ≡ true
unfolding is_digit
digit_yes b h k = rw (le-leb 48 b h, le-leb b 57 k)

digit_bounds : (b : ℕ) → is_digit b ≡ true → (48 ≤ b) × (b ≤ 57)
unfolding is_digit
digit_bounds b e = let p = and_true (leb 48 b) (leb b 57) e in (leb→le 48 b (T_of p.0), leb→le b 57 (T_of p.1))

digit_on : (n b : ℕ) (bs : Bytes) → is_digit b ≡ true → digits_from n (b ∷ bs) ≡ digits_from (10 * n + (b - 48)) bs
unfolding digits_from
digit_on n b bs e = rw (e, digits_from)

digit_off : (n b : ℕ) (bs : Bytes) → is_digit b ≡ false → digits_from n (b ∷ bs) ≡ (n, b ∷ bs)
unfolding digits_from
digit_off n b bs e = rw (e, digits_from)

no_digits : (n : ℕ) (bs : Bytes) → begins_digit bs ≡ false → digits_from n bs ≡ (n, bs)
unfolding begins_digit digits_from
no_digits n [] e = refl
no_digits n (b ∷ bs) e = digit_off n b bs e

-- ── Written, then read ────────────────────────────────────────────────────────────────────

before_reads : (f n : ℕ) (ds : Bytes) → n < f → digits_from 0 (decimal_before f n ds) ≡ digits_from n ds
before_reads zero n ds h = absurd (omega arith)
before_reads (suc f) n ds h =
    elim (dec_lt n 10) [
      | yes l ↦
          let k : 10 * 0 + (48 + n - 48) ≡ n = omega arith in
          ap (digits_from 0) (before_one f n ds l)
          ∙ digit_on 0 (48 + n) ds (digit_yes (48 + n) (omega arith) (omega arith))
          ∙ ap (λ (m : ℕ). digits_from m ds) k
      | no l ↦
          let k : 10 * (n / 10) + (48 + n % 10 - 48) ≡ n = omega arith in
          ap (digits_from 0) (before_more f n ds (omega arith))
          ∙ before_reads f (n / 10) ((48 + n % 10) ∷ ds) (omega arith)
          ∙ digit_on (n / 10) (48 + n % 10) ds (digit_yes (48 + n % 10) (omega arith) (omega arith))
          ∙ ap (λ (m : ℕ). digits_from m ds) k
    ]

decimal_before_is : (n : ℕ) (rest : Bytes) → decimal n ++ rest ≡ decimal_before (suc n) n rest
unfolding decimal
decimal_before_is n rest = sym (before_append (suc n) n [] rest)

decimal_reads : (n : ℕ) (rest : Bytes) → begins_digit rest ≡ false → digits_from 0 (decimal n ++ rest) ≡ (n, rest)
decimal_reads n rest e = ap (digits_from 0) (decimal_before_is n rest) ∙ before_reads (suc n) n rest (omega arith) ∙ no_digits n rest e

begins_one : (b : ℕ) (bs : Bytes) → 49 ≤ b → b ≤ 57 → begins_number (b ∷ bs) ≡ true
unfolding begins_number
begins_one b bs h k = rw (digit_yes b (omega arith) k, ne_eqb b 48 (λ q. omega arith))

begins_before : (f n : ℕ) (ds : Bytes) → n < f → 1 ≤ n → begins_number (decimal_before f n ds) ≡ true
begins_before zero n ds h k = absurd (omega arith)
begins_before (suc f) n ds h k =
    elim (dec_lt n 10) [
      | yes l ↦ ap begins_number (before_one f n ds l) ∙ begins_one (48 + n) ds (omega arith) (omega arith)
      | no l ↦ ap begins_number (before_more f n ds (omega arith)) ∙ begins_before f (n / 10) ((48 + n % 10) ∷ ds) (omega arith) (omega arith)
    ]

begins_zero : (rest : Bytes) → begins_digit rest ≡ false → begins_number (48 ∷ rest) ≡ true
unfolding begins_number is_digit
begins_zero rest e = rw e

decimal_begins : (n : ℕ) (rest : Bytes) → begins_digit rest ≡ false → begins_number (decimal n ++ rest) ≡ true
decimal_begins zero rest e = ap begins_number (ap (λ (l : Bytes). l ++ rest) (decimal-one 0 (omega arith))) ∙ begins_zero rest e
decimal_begins (suc n) rest e = ap begins_number (decimal_before_is (suc n) rest) ∙ begins_before (suc (suc n)) (suc n) rest (omega arith) (omega arith)

-- A number that is written after a space is read, where no digit follows.
pub number_back : (test : ℕ → Bool) (n : ℕ) (rest : Bytes) → test n ≡ true → begins_digit rest ≡ false → number_at test (32 ∷ (decimal n ++ rest)) ≡ some (n, rest)
unfolding number_at provided
number_back test n rest e d = rw (decimal_reads n rest d, decimal_begins n rest d, e)

-- ── Read, then written ────────────────────────────────────────────────────────────────────

abbrev first_of : ℕ × Bytes → ℕ
first_of p = p.0

abbrev rest_of : ℕ × Bytes → Bytes
rest_of p = p.1

next_digit : (n b : ℕ) → 1 ≤ n → is_digit b ≡ true → decimal (10 * n + (b - 48)) ≡ decimal n ++ (b ∷ [])
next_digit n b h e =
    let p = digit_bounds b e in
    let q : (10 * n + (b - 48)) / 10 ≡ n = omega arith in
    let r : 48 + (10 * n + (b - 48)) % 10 ≡ b = omega arith in
    decimal-more (10 * n + (b - 48)) (omega arith) ∙ (rw (q, r))

digits_written : (n : ℕ) (bs : Bytes) (v : ℕ) (rest : Bytes) → 1 ≤ n → digits_from n bs ≡ (v, rest) → (decimal n ++ bs ≡ decimal v ++ rest) × (begins_digit rest ≡ false)
unfolding digits_from begins_digit
digits_written n [] v rest h e =
    let k : n ≡ v = ap first_of e in
    let r : [] ≡ rest = ap rest_of e in
    (rw (k, r), subst (λ (l : Bytes). begins_digit l ≡ false) r refl)
digits_written n (b ∷ bs) v rest h e = go (is_digit b) refl (λ k f. digits_written (10 * n + (b - 48)) bs v rest k f)
  where
    go : (x : Bool) → is_digit b ≡ x →
        (1 ≤ 10 * n + (b - 48) → digits_from (10 * n + (b - 48)) bs ≡ (v, rest) → (decimal (10 * n + (b - 48)) ++ bs ≡ decimal v ++ rest) × (begins_digit rest ≡ false)) →
        (decimal n ++ (b ∷ bs) ≡ decimal v ++ rest) × (begins_digit rest ≡ false)
    go true f ih =
        let q = ih (omega arith) (sym (digit_on n b bs f) ∙ e) in
        (sym (append_assoc (decimal n) (b ∷ []) bs) ∙ ap (λ (l : Bytes). l ++ bs) (sym (next_digit n b h f)) ∙ q.0, q.1)
    go false f ih =
        let q : ◌≡◌ {A = ℕ × Bytes} (n, b ∷ bs) (v, rest) = sym (digit_off n b bs f) ∙ e in
        let r : b ∷ bs ≡ rest = ap rest_of q in
        let k : n ≡ v = ap first_of q in
        (rw (k, r), subst (λ (l : Bytes). begins_digit l ≡ false) r f)

begins_first : (b : ℕ) (bs : Bytes) → begins_number (b ∷ bs) ≡ true → (is_digit b ≡ true) × (b ≡ 48 → begins_digit bs ≡ false)
unfolding begins_number
begins_first b bs e =
    let p = and_true (is_digit b) _ e in
    (p.0, λ q. go (begins_digit bs) (subst (λ (x : ℕ). not (eqb x 48 && begins_digit bs) ≡ true) q p.1))
  where
    go : (x : Bool) → not x ≡ true → x ≡ false
    go true f = absurd (no_false f)
    go false f = refl

number_from : (bs : Bytes) (v : ℕ) (rest : Bytes) → begins_number bs ≡ true → digits_from 0 bs ≡ (v, rest) → (bs ≡ decimal v ++ rest) × (begins_digit rest ≡ false)
unfolding begins_number
number_from [] v rest h e = absurd (no_false h)
number_from (b ∷ bs) v rest h e =
    let p = begins_first b bs h in
    let q = digit_bounds b p.0 in
    let f : digits_from (10 * 0 + (b - 48)) bs ≡ (v, rest) = sym (digit_on 0 b bs p.0) ∙ e in
    elim (dec_lt 48 b) [
      | yes l ↦
          let k : 10 * 0 + (b - 48) ≡ b - 48 = omega arith in
          let t : 48 + (b - 48) ≡ b = omega arith in
          let r = digits_written (b - 48) bs v rest (omega arith) (ap (λ (m : ℕ). digits_from m bs) (sym k) ∙ f) in
          let d : decimal (b - 48) ≡ b ∷ [] = decimal-one (b - 48) (omega arith) ∙ (rw t) in
          (ap (λ (l : Bytes). l ++ bs) (sym d) ∙ r.0, r.1)
      | no l ↦
          let t : b ≡ 48 = omega arith in
          let k : 10 * 0 + (b - 48) ≡ 0 = omega arith in
          let z : ◌≡◌ {A = ℕ × Bytes} (0, bs) (v, rest) = sym (no_digits 0 bs (p.1 t)) ∙ ap (λ (m : ℕ). digits_from m bs) (sym k) ∙ f in
          let x : 0 ≡ v = ap first_of z in
          let y : bs ≡ rest = ap rest_of z in
          let d : decimal v ≡ 48 ∷ [] = subst (λ (m : ℕ). decimal m ≡ 48 ∷ []) x (decimal-one 0 (omega arith)) in (
            ap (λ (m : ℕ). m ∷ bs) t ∙ ap (λ (l : Bytes). 48 ∷ l) y ∙ ap (λ (l : Bytes). l ++ rest) (sym d),
            subst (λ (l : Bytes). begins_digit l ≡ false) y (p.1 t),
          )
    ]

provided_some : {A : Type 0} (t : Bool) (a b : A) → provided t a ≡ some b → (t ≡ true) × (a ≡ b)
unfolding provided
provided_some true a b e = (refl, cc)
provided_some false a b e = absurd (no_some (sym e))

-- A number that is read after a space stands there as it is written, and no digit follows.
pub number_was : (test : ℕ → Bool) (bs : Bytes) (r : ℕ × Bytes) → number_at test bs ≡ some r → (bs ≡ 32 ∷ (decimal r.0 ++ r.1)) × (test r.0 ≡ true)
unfolding number_at
number_was test [] r e = absurd (no_some (sym e))
number_was test (b ∷ bs) r e =
    let p = provided_some (eqb b 32 && (begins_number bs && test (digits_from 0 bs).0)) (digits_from 0 bs) r e in
    let q = and_true (eqb b 32) _ p.0 in
    let t = and_true (begins_number bs) _ q.1 in
    let s : b ≡ 32 = eqb_eq q.0 in
    let w = number_from bs r.0 r.1 t.0 p.1 in
    (ap (λ (x : ℕ). x ∷ bs) s ∙ ap (λ (l : Bytes). 32 ∷ l) w.0, subst (λ (z : ℕ × Bytes). test z.0 ≡ true) p.1 t.1)

-- ── No LF ─────────────────────────────────────────────────────────────────────────────────

-- no byte is an LF
unfoldable pub one_line : Bytes → Bool
one_line [] = true
one_line (b ∷ bs) = not (eqb b 10) && one_line bs

pub one_line-append : (a b : Bytes) → one_line a ≡ true → one_line b ≡ true → one_line (a ++ b) ≡ true
unfolding one_line
one_line-append [] b p q = q
one_line-append (x ∷ a) b p q =
    let r = and_true (not (eqb x 10)) (one_line a) p in
    rw (r.0, one_line-append a b r.1 q)

digit_line : (d : ℕ) (ds : Bytes) → one_line ds ≡ true → one_line ((48 + d) ∷ ds) ≡ true
unfolding one_line
digit_line d ds e = rw (ne_eqb (48 + d) 10 (λ q. omega arith), e)

before_line : (f n : ℕ) (ds : Bytes) → one_line ds ≡ true → one_line (decimal_before f n ds) ≡ true
unfolding decimal_before
before_line zero n ds e = e
before_line (suc f) n ds e =
    elim (dec_lt n 10) [
      | yes l ↦ ap one_line (before_one f n ds l) ∙ digit_line n ds e
      | no l ↦ ap one_line (before_more f n ds (omega arith)) ∙ before_line f (n / 10) ((48 + n % 10) ∷ ds) (digit_line (n % 10) ds e)
    ]

pub decimal-line : (n : ℕ) → one_line (decimal n) ≡ true
unfolding decimal one_line
decimal-line n = before_line (suc n) n [] refl

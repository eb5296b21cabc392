-- 02, S-1: "an op naming it is a bad line". Whether an op's operands name a kind that is lacking, operand by operand, for a loop over them.
use Rattle.std.specs.Prelude.{◌≡◌, refl, Bool, true, false, not, ◌&&◌, List, [], ◌∷◌, ℕ, zero, suc, ◌+◌, ◌≤◌, ◌<◌, eqb, length, get_or, drop}
use Rattle.std.proofs.Common.{sym, ap, ◌∙◌, arith, add-one, ne_eqb, drop_of_length-le}
use Rattle.std.proofs.Math.Decide.{dec_lt}
use Rattle.std.specs.List.{list_all, zip}
use Rattle.definition.specs.Shapes.{is_lacking}
use Rattle.theorems.specs.KindOf.{has_kinds}
use Rattle.bytecode.specs.Lists.{limited, limited-same, limited-over}

-- operand j is a kind, and one that is lacking
abbrev pub is_named : ℕ → List ℕ → List ℕ → ℕ → Bool
is_named float ms ns j = eqb (get_or ms j 0) 7 && is_lacking float (get_or ns j 0)

and_false : (b : Bool) → (b && false) ≡ false
and_false true = refl
and_false false = refl

-- the same of what stands there
pub named_is : (float : ℕ) (ms ns : List ℕ) (j most value : ℕ) → most ≡ get_or ms j 0 → value ≡ get_or ns j 0
    → (eqb most 7 && is_lacking float value) ≡ is_named float ms ns j
named_is float ms ns j most value m v = rw (m, v)

-- no kind has more than 8 bits
pub no_kind : (float value : ℕ) → 255 < value → false ≡ is_lacking float value
unfolding is_lacking
no_kind float value h = rw (ne_eqb value 5 (λ e. absurd (omega arith))) (sym (and_false (eqb float 0)))

-- ── Operand by operand ────────────────────────────────────────────────────────────────────

no_operand : (float : ℕ) (ms : List ℕ) → has_kinds float ms [] ≡ true
unfolding has_kinds
no_operand float [] = refl
no_operand float (m ∷ ms) = refl

-- where no operand stands 0 is read, which is no kind that is lacking
nothing_named : (m float : ℕ) → (eqb m 7 && is_lacking float 0) ≡ false
unfolding is_lacking
nothing_named m float = rw (and_false (eqb float 0), and_false (eqb m 7))

-- whether an operand, with the largest number that it may be, is none that is lacking
abbrev pub is_fine : ℕ → ℕ × ℕ → Bool
is_fine float p = not (eqb p.0 7 && is_lacking float p.1)

named_step : (float : ℕ) (ms ns : List ℕ) (j : ℕ)
    → has_kinds float (drop j ms) (drop j ns) ≡ not (is_named float ms ns j) && has_kinds float (drop (suc j) ms) (drop (suc j) ns)
unfolding has_kinds
named_step float [] ns zero = refl
named_step float [] ns (suc j) = refl
named_step float (m ∷ ms) [] j =
    ap (has_kinds float (drop j (m ∷ ms))) (drop_none j)
    ∙ no_operand float (drop j (m ∷ ms))
    ∙ sym (rw (nothing_named (get_or (m ∷ ms) j 0) float) (ap (has_kinds float (drop j ms)) (drop_none (suc j)) ∙ no_operand float (drop j ms)))
  where
    drop_none : (i : ℕ) → ◌≡◌ {A = List ℕ} (drop i []) []
    drop_none zero = refl
    drop_none (suc i) = refl
named_step float (m ∷ ms) (n ∷ ns) zero = refl
named_step float (m ∷ ms) (n ∷ ns) (suc j) = named_step float ms ns j

-- it is none that is lacking: the rest decides
pub named_next : (float : ℕ) (ms ns : List ℕ) (j : ℕ) → is_named float ms ns j ≡ false
    → has_kinds float (drop j ms) (drop j ns) ≡ has_kinds float (drop (j + 1) ms) (drop (j + 1) ns)
named_next float ms ns j e =
    named_step float ms ns j
    ∙ ap (λ (b : Bool). not b && has_kinds float (drop (suc j) ms) (drop (suc j) ns)) e
    ∙ ap (λ (i : ℕ). has_kinds float (drop i ms) (drop i ns)) (sym (add-one j))

-- it is one
pub named_not : (float : ℕ) (ms ns : List ℕ) (j : ℕ) → is_named float ms ns j ≡ true → false ≡ has_kinds float (drop j ms) (drop j ns)
named_not float ms ns j e =
    sym (named_step float ms ns j ∙ ap (λ (b : Bool). not b && has_kinds float (drop (suc j) ms) (drop (suc j) ns)) e)

-- past the last
pub named_none : (float : ℕ) (ms ns : List ℕ) (j : ℕ) → length ms ≤ j → true ≡ has_kinds float (drop j ms) (drop j ns)
unfolding has_kinds
named_none float ms ns j h = rw (drop_of_length-le ms {i = j} h)

-- the same of the operands in words, which may be more, and 0 behind the operands
pub kinds_all : (float : ℕ) (ms ns ws : List ℕ) → length ms ≤ length ws → ((i : ℕ) → i < length ms → get_or ws i 0 ≡ get_or ns i 0)
    → list_all (is_fine float) (zip ms ws) ≡ has_kinds float ms ns
unfolding has_kinds
kinds_all float [] ns ws l h = refl
kinds_all float (m ∷ ms) ns [] l h = absurd (omega arith)
kinds_all float (m ∷ ms) [] (w ∷ ws) l h =
    rw (h 0 (omega arith), nothing_named m float) (kinds_all float ms [] ws (omega arith) (λ i p. h (suc i) (omega arith)) ∙ no_operand float ms)
kinds_all float (m ∷ ms) (n ∷ ns) (w ∷ ws) l h =
    rw (h 0 (omega arith)) (ap (λ (b : Bool). is_fine float (m, n) && b) (kinds_all float ms ns ws (omega arith) (λ i p. h (suc i) (omega arith))))

-- a module with floats lacks no kind
pub named_all : (float : ℕ) (ms ns : List ℕ) → (float ≡ 0 → ⊥) → true ≡ has_kinds float ms ns
unfolding has_kinds is_lacking
named_all float [] ns h = refl
named_all float (m ∷ ms) [] h = refl
named_all float (m ∷ ms) (n ∷ ns) h = rw (ne_eqb float 0 h, and_false (eqb m 7)) (named_all float ms ns h)

-- ── Bytes of a float that say the same ────────────────────────────────────────────────────

-- kinds that are lacking alike are named alike
pub named_same : (a b : ℕ) (ms ns : List ℕ) → ((k : ℕ) → is_lacking a k ≡ is_lacking b k) → has_kinds a ms ns ≡ has_kinds b ms ns
unfolding has_kinds
named_same a b [] ns h = refl
named_same a b (m ∷ ms) [] h = refl
named_same a b (m ∷ ms) (n ∷ ns) h = rw (h n, named_same a b ms ns h)

-- a number that is cut is 0 only where it was
pub lacking_limited : (m x k : ℕ) → 0 < m → is_lacking (limited m x) k ≡ is_lacking x k
unfolding is_lacking
lacking_limited m x k h = elim (dec_lt m x) [
  | yes p ↦ (rw (limited-over m x p, ne_eqb m 0 (λ e. absurd (omega arith)), ne_eqb x 0 (λ e. absurd (omega arith))))
  | no q ↦ (rw (limited-same m x (omega arith)))
]

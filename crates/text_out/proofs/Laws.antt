-- Texts that are put one after another, and what then stands in the buffer. Assumes nothing.
use Rattle.std.proofs.Common.{◌≡◌, refl, sym, ap, ◌∙◌, List, [], ◌∷◌, ◌++◌, ℕ, ◌+◌, ◌/◌, ◌%◌, ◌≤◌, ◌<◌, min, set, take, drop, get_or, length, arith, append_assoc, length-append}
use Rattle.std.proofs.Math.Seq.{set-append_seam}
use Rattle.std.proofs.lemmas.List.{take_more}
use Rattle.definition.specs.Format.{Bytes, decimal}
use Rattle.theorems.specs.Decimal.{decimal-one, decimal-more}
use Rattle.text_out.specs.declared.Text.{Text}
use Rattle.text_out.specs.Text.{after_byte, after_text, laid, with_text}

-- ── One text after another ────────────────────────────────────────────────────────────────

after_text-append : (at : ℕ) (x y : Bytes) → after_text at (x ++ y) ≡ after_text (after_text at x) y
unfolding after_text
after_text-append at [] y = refl
after_text-append at (b ∷ x) y = after_text-append (after_byte at) x y

laid-append : (out : List ℕ) (at : ℕ) (x y : Bytes) → laid out at (x ++ y) ≡ laid (laid out at x) (after_text at x) y
unfolding laid after_text
laid-append out at [] y = refl
laid-append out at (b ∷ x) y = laid-append (set out at b) (after_byte at) x y

pub with_text_append : (t : Text) (x y : Bytes) → with_text t (x ++ y) ≡ with_text (with_text t x) y
with_text_append t x y = rw (after_text-append t.at x y, laid-append t.out.now t.at x y)

pub with_both : (t s r : Text) (x y : Bytes) → s ≡ with_text t x → r ≡ with_text s y → r ≡ with_text t (x ++ y)
with_both t s r x y e f = f ∙ ap (λ (u : Text). with_text u y) e ∙ sym (with_text_append t x y)

-- A part of what is left is put.
pub with_part : (t s : Text) (x left rest : Bytes) → left ≡ x ++ rest → s ≡ with_text t x → with_text s rest ≡ with_text t left
with_part t s x left rest e f = ap (λ (u : Text). with_text u rest) f ∙ sym (with_text_append t x rest) ∙ ap (with_text t) (sym e)

-- Nothing is left.
pub with_nothing : (t : Text) (left : Bytes) → left ≡ [] → with_text t left ≡ t
unfolding after_text laid
with_nothing t left e = ap (with_text t) e

pub with_text_more : (t : Text) (x : Bytes) (i : ℕ) → i < length x → with_text t (take (i + 1) x) ≡ with_text (with_text t (take i x)) (get_or x i 0 ∷ [])
with_text_more t x i h = ap (with_text t) (take_more x i 0 h) ∙ with_text_append t (take i x) (get_or x i 0 ∷ [])

pub with_last_digit : (t : Text) (n : ℕ) → n < 10 → with_text t (decimal n) ≡ with_text t ((48 + n) ∷ [])
with_last_digit t n h = ap (with_text t) (decimal-one n h)

pub with_more_digits : (t : Text) (n : ℕ) → 10 ≤ n → with_text t (decimal n) ≡ with_text (with_text t (decimal (n / 10))) ((48 + n % 10) ∷ [])
with_more_digits t n h = ap (with_text t) (decimal-more n h) ∙ with_text_append t (decimal (n / 10)) ((48 + n % 10) ∷ [])

-- ── A whole text, from the buffer's start ─────────────────────────────────────────────────

-- the last number of 64 bits, where counting ends
abbrev pub most : ℕ
most = 18446744073709551615

pub after_text-most : (at : ℕ) (x : Bytes) → at ≤ most → after_text at x ≡ min (at + length x) most
unfolding after_text
after_text-most at [] h = omega arith
after_text-most at (b ∷ x) h = after_text-most (after_byte at) x (omega arith) ∙ omega arith

laid_from : (out before rest : List ℕ) (at : ℕ) (x : Bytes) → out ≡ before ++ rest → at ≡ length before → length x ≤ length rest → at + length x ≤ most →
    laid out at x ≡ before ++ (x ++ drop (length x) rest)
unfolding laid
laid_from out before rest at [] e a h m = e
laid_from out before [] at (b ∷ x) e a h m = absurd (omega arith)
laid_from out before (o ∷ rest) at (b ∷ x) e a h m =
    laid_from (set out at b) (before ++ b ∷ []) rest (after_byte at) x
    (rw (e, a, set-append_seam) (sym (append_assoc before (b ∷ []) rest)))
    (omega (arith, length-append before (b ∷ [])))
    (omega arith)
    (omega arith)
    ∙ append_assoc before (b ∷ []) (x ++ drop (length x) rest)

-- Where the buffer has room for it, it stands there, and what is behind it is as it was.
pub laid-whole : (out : List ℕ) (x : Bytes) → length x ≤ length out → length x ≤ most → laid out 0 x ≡ x ++ drop (length x) out
laid-whole out x h m = laid_from out [] out 0 x refl refl h (omega arith)

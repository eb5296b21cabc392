-- Which numbers and shapes are put, and which no listing says. Assumes nothing.
use Rattle.std.proofs.Common.{◌⊎◌, inl, inr, ◌≡◌, refl, true, false, [], Some, None, ℕ, zero, suc, ◌+◌, ◌*◌, ◌/◌, ◌%◌, ◌≤◌, ◌<◌, List, length, get_or, drop, arith, add-one, drop-cons}
use Rattle.std.proofs.Math.ListN.{drop_of_length-le}
use borrow.Author.Tests.{eq-eqb, ne_eqb, leb-true, leb-false}
use mathlib.Core.Logic.{◌≢◌}
use Rattle.std.proofs.Math.Option.{Option, some}
use Rattle.definition.specs.Basics.{choose}
use Rattle.definition.specs.Shapes.{top, scalar_w, flat_w}
use Rattle.definition.specs.Format.{Bytes, bytes, bits, provided}
use Rattle.definition.specs.Write.{spaced, render, at_shape, shape_text}
use Rattle.bytecode.specs.Held.{wire_word}
use Rattle.bytecode.specs.Lists.{limited, limited-same, limited-over}
use Rattle.bytecode.specs.Meaning.{wire_of, word_wire}
use Rattle.listing.specs.Scan.{admitted}
use Rattle.text_out.specs.declared.Text.{Text}
use Rattle.text_out.specs.Text.{with_text}
use Rattle.writer.specs.Put.{joined, Puts}
use Rattle.writer.specs.Say.{number_said, shape_said, shapes_said, value_said}
use Rattle.writer.proofs.Putting.{Putting, puts_all, puts_missing, putting_more, putting_lost, putting_done}

-- ── Numbers ───────────────────────────────────────────────────────────────────────────────

pub puts_number : (t s : Text) (c n : ℕ) → admitted c n ≡ true → s ≡ with_text t (spaced n) → Puts t (number_said c n) (Some tt) s
unfolding number_said provided
puts_number t s c n e f = rw e (puts_all t s _ f)

pub puts_no_number : (t : Text) (c n : ℕ) → admitted c n ≡ false → Puts t (number_said c n) None t
unfolding number_said provided
puts_no_number t c n e = rw e (puts_missing t)

-- ── Shapes ────────────────────────────────────────────────────────────────────────────────

-- the shape that is not a scalar and not flat
no_shape : (m k n : ℕ) → m ≢ 1 → m ≢ 2 → wire_of m k n ≡ top
unfolding wire_of
no_shape zero k n e f = refl
no_shape (suc zero) k n e f = absurd (e refl)
no_shape (suc (suc zero)) k n e f = absurd (f refl)
no_shape (suc (suc (suc m))) k n e f = refl

module _ (w : ℕ) (t s : Text) where
  pub puts_top : w ≡ 0 → s ≡ with_text t (bytes " (top)") → Puts t (shape_said w) (Some tt) s
  unfolding shape_said word_wire wire_of wire_word shape_text at_shape render provided bytes
  puts_top e f = rw e (puts_all t s _ f)

  pub puts_scalar : w % 4 ≡ 1 → w / 1024 ≡ 0 → s ≡ with_text t (shape_text (scalar_w (w / 4 % 256))) → Puts t (shape_said w) (Some tt) s
  unfolding shape_said word_wire wire_of wire_word provided
  puts_scalar e f g = rw (e, eq-eqb w (1 + 4 * (w / 4 % 256)) (omega arith)) (puts_all t s _ g)

  pub puts_flat : w % 4 ≡ 2 → admitted 130 (w / 1024) ≡ true → s ≡ with_text t (shape_text (flat_w (w / 4 % 256) (w / 1024))) → Puts t (shape_said w) (Some tt) s
  unfolding shape_said word_wire wire_of wire_word provided admitted choose
  puts_flat e f g =
      let l = leb-true (w / 1024) 4294967295 f in
      rw (e, limited-same 4294967295 (w / 1024) (omega arith), eq-eqb w (2 + 4 * (w / 4 % 256) + 1024 * (w / 1024)) (omega arith)) (puts_all t s _ g)

module _ (w : ℕ) (t : Text) where
  pub puts_wide_scalar : w % 4 ≡ 1 → w / 1024 ≢ 0 → Puts t (shape_said w) None t
  unfolding shape_said word_wire wire_of wire_word provided
  puts_wide_scalar e f = rw (e, ne_eqb w (1 + 4 * (w / 4 % 256)) (λ x. f (omega arith))) (puts_missing t)

  pub puts_wide_flat : w % 4 ≡ 2 → admitted 130 (w / 1024) ≡ false → Puts t (shape_said w) None t
  unfolding shape_said word_wire wire_of wire_word provided admitted choose
  puts_wide_flat e f =
      let l = leb-false (w / 1024) 4294967295 f in
      rw (e, limited-over 4294967295 (w / 1024) (omega arith), ne_eqb w (2 + 4 * (w / 4 % 256) + 1024 * 4294967295) (λ x. absurd (omega arith))) (puts_missing t)

  pub puts_no_shape : w ≢ 0 → w % 4 ≢ 1 → w % 4 ≢ 2 → Puts t (shape_said w) None t
  unfolding shape_said word_wire provided wire_word
  puts_no_shape e f g = rw (no_shape (w % 4) (w / 4 % 256) (limited (bits 32) (w / 1024)) f g, ne_eqb w 0 e) (puts_missing t)

shapes_more : (ws : List ℕ) (i : ℕ) → i < length ws → shapes_said (drop i ws) ≡ joined (shape_said (get_or ws i 0)) (shapes_said (drop (i + 1) ws))
unfolding shapes_said
shapes_more ws i h = rw (drop-cons ws i 0 h, add-one i)

shapes_end : (ws : List ℕ) (i : ℕ) → length ws ≤ i → shapes_said (drop i ws) ≡ some []
unfolding shapes_said
shapes_end ws i h = rw (drop_of_length-le ws {i = i} h)

module _ (a t : Text) (ws : List ℕ) (i : ℕ) (whole : Option Bytes) (p : Putting a t (shapes_said (drop i ws)) whole) where
  pub puts_shape : (b : Text) → i < length ws → Puts t (shape_said (get_or ws i 0)) (Some tt) b → Putting a b (shapes_said (drop (i + 1) ws)) whole
  puts_shape b h w = putting_more p (shapes_more ws i h) w

  pub puts_no_shapes : (b : Text) → i < length ws → Puts t (shape_said (get_or ws i 0)) None b → Puts a whole None b
  puts_no_shapes b h w = putting_lost p _ (shapes_more ws i h) w

  pub puts_shapes : length ws ≤ i → Puts a whole (Some tt) t
  puts_shapes h = putting_done p (shapes_end ws i h)

-- ── Values by a code ──────────────────────────────────────────────────────────────────────

pub value_shape : (c w : ℕ) → (c ≡ 140) ⊎ (c ≡ 141) → value_said c w ≡ shape_said w
unfolding value_said
value_shape c w (inl e) = rw e
value_shape c w (inr e) = rw e

pub value_number : (c w : ℕ) → c ≢ 140 → c ≢ 141 → value_said c w ≡ number_said c w
unfolding value_said
value_number c w e f = rw (value_said, ne_eqb c 140 e, ne_eqb c 141 f)

-- ── For each function of the code ─────────────────────────────────────────────────────────

pub ruleset number = (puts_number, puts_no_number)

pub ruleset shape = (puts_top, puts_scalar, puts_flat, puts_wide_scalar, puts_wide_flat, puts_no_shape)

pub ruleset shapes = (puts_shape, puts_no_shapes, puts_shapes)

pub ruleset value = (value_shape, value_number)

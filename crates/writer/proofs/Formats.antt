-- What is left to say by the codes of a form. Assumes nothing.
use Rattle.std.proofs.Common.{◌≡◌, ◌≢◌, refl, sym, ap, ◌∙◌, T, List, [], ◌∷◌, ◌++◌, Some, None, ℕ, ◌+◌, ◌≤◌, ◌<◌, ltb, ◌&&◌, true, Bool, get_or, drop, length, arith, add-one, drop-cons}
use Rattle.std.proofs.Math.ListN.{drop_of_length-le}
use Rattle.std.specs.Float.Ieee.Fits.{and_l, and_r}
use borrow.Author.Tests.{lt-ltb, le-ltb, ne_eqb}
use Rattle.std.proofs.Math.Option.{Option, some}
use Rattle.definition.specs.Format.{Bytes, form, bytes}
use Rattle.definition.specs.Read.{line_forms}
use Rattle.theorems.specs.Keys.{keys, key}
use Rattle.listing.specs.declared.form.Form.{Form}
use Rattle.listing.specs.declared.form.Form.TheVariants as F
use Rattle.listing.specs.Forms.{form_number}
use Rattle.text_out.specs.declared.Text.{Text}
use Rattle.text_out.specs.Text.{with_text}
use Rattle.writer.specs.Put.{joined, joined_nothing, joined-joined, Puts}
use Rattle.writer.specs.Say.{say, value_said, first_said, shapes_said}
use Rattle.writer.specs.Lines.{true_of}
use Rattle.writer.proofs.Putting.{Putting, puts_all, putting_start, putting_more, putting_lost, putting_done, putting_missing}

-- ── The text that a line begins with ──────────────────────────────────────────────────────

-- no code of a value
letters : Bytes → Bool
letters [] = true
letters (b ∷ bs) = ltb b 128 && letters bs

letters_said : (x cs ws : List ℕ) → T (letters x) → say (x ++ cs) ws ≡ joined (some x) (say cs ws)
unfolding letters say joined
letters_said [] cs ws h = sym (joined_nothing (say cs ws))
letters_said (b ∷ x) cs ws h =
    rw (say, true_of (ltb b 128) (and_l (ltb b 128) (letters x) h))
    (ap (joined (some (b ∷ []))) (letters_said x cs ws (and_r (ltb b 128) (letters x) h)) ∙ sym (joined-joined (some (b ∷ [])) (some x) (say cs ws)))

key_letters : (f : Form) → T (letters (get_or (keys line_forms) (form_number f) []))
unfolding letters keys key line_forms form bytes
key_letters F.Module = tt
key_letters F.SharedSlot = tt
key_letters F.PrivateSlot = tt
key_letters F.Shared = tt
key_letters F.Private = tt
key_letters F.Enum = tt
key_letters F.Native = tt
key_letters F.Signature = tt
key_letters F.Chunk = tt
key_letters F.Constant = tt
key_letters F.Close = tt

pub puts_text : (a b : Text) (f : Form) (x cs all ws : List ℕ) → x ≡ get_or (keys line_forms) (form_number f) [] → get_or (keys line_forms) (form_number f) [] ++ cs ≡ all →
    b ≡ with_text a x → Putting a b (say cs ws) (say all ws)
puts_text a b f x cs all ws e d w =
    rw (← d, ← e) (putting_more (putting_start a (say (x ++ cs) ws)) (letters_said x cs ws (rw e (key_letters f))) (puts_all a b x w))

-- ── The codes after it ────────────────────────────────────────────────────────────────────

module _ (a t : Text) (codes ws : List ℕ) (i : ℕ) (whole : Option Bytes) (p : Putting a t (say (drop i codes) ws) whole) where
  pub puts_codes : length codes ≤ i → Puts a whole (Some tt) t
  unfolding say
  puts_codes h = putting_done p (rw (drop_of_length-le codes {i = i} h))

  -- at a code
  module _ (c : ℕ) (h : i < length codes) (e : c ≡ get_or codes i 0) where
    on : drop i codes ≡ c ∷ drop (i + 1) codes
    on = rw (drop-cons codes i 0 h, add-one i, e)

    pub puts_letter : (b : Text) → c < 128 → b ≡ with_text t (c ∷ []) → Putting a b (say (drop (i + 1) codes) ws) whole
    unfolding say
    puts_letter b l w = putting_more p (rw (on, say, lt-ltb c 128 l)) (puts_all t b (c ∷ []) w)

    shapes_left : c ≡ 141 → say (drop i codes) ws ≡ joined (shapes_said ws) (say (drop (i + 1) codes) [])
    unfolding say
    shapes_left d = rw (on, d)

    pub puts_left_shapes : (b : Text) → c ≡ 141 → Puts t (shapes_said ws) (Some tt) b → Putting a b (say (drop (i + 1) codes) []) whole
    puts_left_shapes b d w = putting_more p (shapes_left d) w

    pub puts_lost_shapes : (b : Text) → c ≡ 141 → Puts t (shapes_said ws) None b → Puts a whole None b
    puts_lost_shapes b d w = putting_lost p _ (shapes_left d) w

    module _ (l : 128 ≤ c) (m : c ≢ 141) where
      value_left : say (drop i codes) ws ≡ joined (first_said c ws) (say (drop (i + 1) codes) (drop 1 ws))
      unfolding say
      value_left = rw (on, say, le-ltb c 128 l, ne_eqb c 141 m)

      pub puts_left_value : (b : Text) (w : ℕ) (rest : List ℕ) → ws ≡ w ∷ rest → Puts t (value_said c w) (Some tt) b → Putting a b (say (drop (i + 1) codes) rest) whole
      unfolding first_said
      puts_left_value b w rest d q = putting_more p (value_left ∙ (rw d)) q

      pub puts_lost_value : (b : Text) (w : ℕ) (rest : List ℕ) → ws ≡ w ∷ rest → Puts t (value_said c w) None b → Puts a whole None b
      unfolding first_said
      puts_lost_value b w rest d q = putting_lost p (say (drop (i + 1) codes) rest) (value_left ∙ (rw d)) q

      pub puts_no_value : length ws ≡ 0 → Puts a whole None t
      unfolding first_said joined
      puts_no_value d = putting_missing p (value_left ∙ (rw (empty ws d)))
        where
          empty : (ws : List ℕ) → length ws ≡ 0 → ws ≡ []
          empty [] e = refl
          empty (w ∷ ws) e = absurd (omega arith)

-- ── For each function of the code ─────────────────────────────────────────────────────────

pub ruleset forms = (puts_text, puts_codes, puts_letter, puts_left_shapes, puts_lost_shapes, puts_left_value, puts_lost_value, puts_no_value)

-- The writing call: the text of the tables, its length, and the buffer. Assumes nothing.
use Rattle.std.proofs.Common.{◌≡◌, refl, sym, ap, ◌∙◌, Bool, true, false, List, [], ◌∷◌, ◌++◌, Some, None, Ok, Err, ℕ, ◌≤◌, ◌<◌, leb, length, take, drop, min, arith}
use Rattle.std.specs.Prelude.{Option as CodeOption, Result as Outcome}
use Rattle.std.specs.Bool.{then_some}
use Rattle.std.proofs.Math.Option.{Option, none, some}
use Rattle.std.specs.Borrow.{MutBor}
use Rattle.std.proofs.Math.Decide.{dec_lt}
use borrow.Author.Tests.{le-leb, lt-leb, leb-true, leb-false}
use Rattle.definition.specs.Basics.{Result, ok, refused, unless, pass}
use Rattle.definition.specs.Format.{Bytes}
use Rattle.definition.specs.Module.{Module}
use Rattle.definition.specs.Read.{read}
use Rattle.definition.specs.Write.{Written, listing_of, is_given, write, put, put_result}
use Rattle.theorems.specs.Cover.{no_ok, ok_inj, no_some}
use Rattle.theorems.specs.Direct.{module_passes, given_direct}
use Rattle.theorems.specs.Relisted.{read_written, written_read}
use Rattle.bytecode.specs.Meaning.{module_of}
use Rattle.bytecode.specs.Exact.{is_exact}
use Rattle.answer.specs.Answer.{written_of, numbers, fields, with_chunk}
use Rattle.answer.specs.declared.Refusal.{Refusal}
use Rattle.answer.specs.declared.Refusal.TheVariants as R
use Rattle.text_out.specs.declared.Text.{Text}
use Rattle.text_out.specs.Text.{started, with_text, text_length}
use Rattle.text_out.proofs.Laws.{most, after_text-most, laid-whole}
use Rattle.writer.specs.Put.{with_said, answered, Puts, Listed}
use Rattle.writer.specs.Say.{module_said}
use Rattle.writer.specs.Said.{module_says}
use Rattle.writer.specs.Tables.{text_of, write_tables, answer_written, WrittenBack, ReadAgain}

-- ── The length ────────────────────────────────────────────────────────────────────────────

-- a text that is put is not missing
reached : (a s : Text) (o : Option Bytes) → some s ≡ with_said a o → (x : Bytes) × (o ≡ some x) × (s ≡ with_text a x)
unfolding with_said
reached a s none e = absurd (no_some e)
reached a s (some x) e = (x, refl, cc)

module _ (out : MutBor (List ℕ)) (a s : Text) (o : Option Bytes) (e : a ≡ started out) (w : Puts a o (Some tt) s) where
  -- the text that is put, and what it leaves
  whole : (x : Bytes) → o ≡ some x → (text_length s ≡ min (length x) most) × (length x ≤ length out.now → length x ≤ most → s.out.now ≡ x ++ drop (length x) out.now)
  unfolding answered
  whole x g =
      let r = reached a s o w.text in
      let f : r.0 ≡ x = let h : some r.0 ≡ some x = sym r.1 ∙ g in cc in
      let k : s ≡ with_text (started out) x = r.2 ∙ ap (with_text a) f ∙ ap (λ (u : Text). with_text u x) e in (
        ap text_length k ∙ after_text-most 0 x (omega arith) ∙ omega arith,
        λ l m. ap (λ (u : Text). u.out.now) k ∙ laid-whole out.now x l m,
      )

  module _ (n : ℕ) (f : n ≡ text_length s) (after : List ℕ) where
    short_enough : n ≤ 65536 → after ≡ s.out.now → Listed o out.now (Some n) after
    unfolding answered with_said
    short_enough h g =
        record {
          missing = λ d. absurd (no_some (w.text ∙ ap (with_said a) d));
          long = λ x d l. absurd (omega (arith, (whole x d).0));
          short = λ x d l. ap Some (omega (arith, (whole x d).0));
          text = λ x d l m. g ∙ (whole x d).1 m (omega arith);
        }

    too_long : 65536 < n → Listed o out.now None after
    too_long h =
        record {
          missing = λ d. refl;
          long = λ x d l. refl;
          short = λ x d l. absurd (omega (arith, (whole x d).0));
          text = λ x d l. absurd (omega (arith, (whole x d).0));
        }

    pub listed : (r : CodeOption ℕ) → r ≡ then_some (leb n 65536) n → after ≡ s.out.now → Listed o out.now r after
    listed r d g = rw d (go (leb n 65536) refl)
      where
        go : (b : Bool) → leb n 65536 ≡ b → Listed o out.now (then_some b n) after
        go true e = short_enough (leb-true n 65536 e) g
        go false e = too_long (leb-false n 65536 e)

pub not_listed : (a s : Text) (o : Option Bytes) (before after : List ℕ) → Puts a o None s → Listed o before None after
unfolding with_said answered
not_listed a s o before after w = record { missing = λ d. refl; long = λ x d l. refl; short = λ x d l. gone x d; text = λ x d l. gone x d }
  where
    gone : {A : Type 0} (x : Bytes) → o ≡ some x → A
    gone x d = absurd (no_some (sym (w.text ∙ ap (with_said a) d)))

-- ── The text of a module ──────────────────────────────────────────────────────────────────

-- the three tests of the writing call, for a module with this text
abbrev Passing : List ℕ → Type 0
Passing t = (is_exact t ≡ true) × (module_passes (module_of t) ≡ true)

given_is : (m : Module) (b : Bool) → is_given m ≡ b → write m ≡ pass (unless b (1 ∷ 0 ∷ 0 ∷ [])) (listing_of m)
unfolding write
given_is m b e = ap (λ (x : Bool). pass (unless x (1 ∷ 0 ∷ 0 ∷ [])) (listing_of m)) e

text_given : (t : List ℕ) → Passing t → length (listing_of (module_of t)) ≤ 65536 → text_of (is_exact t) (module_of t) ≡ ok (listing_of (module_of t))
unfolding text_of pass unless
text_given t p l =
    ap (λ (b : Bool). text_of b (module_of t)) p.0
    ∙ given_is (module_of t) true (given_direct (module_of t) ∙ (rw (le-leb (length (listing_of (module_of t))) 65536 l, p.1)))

made : ℕ → Bytes → Written
made n buffer = record { answer = ok n; buffer = buffer }

lacking : ℕ → Bytes → Written
lacking n buffer = record { answer = refused (20 ∷ 0 ∷ n ∷ []); buffer = buffer }

-- what is refused where the tests do not hold
text_refused : (t : List ℕ) → (Passing t → length (listing_of (module_of t)) ≤ 65536 → ⊥) → text_of (is_exact t) (module_of t) ≡ refused (1 ∷ 0 ∷ 0 ∷ [])
unfolding text_of pass unless
text_refused t f = go (is_exact t) (leb (length (listing_of (module_of t))) 65536) (module_passes (module_of t)) refl refl refl
  where
    go : (x y z : Bool) → is_exact t ≡ x → leb (length (listing_of (module_of t))) 65536 ≡ y → module_passes (module_of t) ≡ z →
        text_of x (module_of t) ≡ refused (1 ∷ 0 ∷ 0 ∷ [])
    go false y z a b c = refl
    go true true true a b c = absurd (f (a, c) (leb-true (length (listing_of (module_of t))) 65536 b))
    go true true false a b c = given_is (module_of t) false (given_direct (module_of t) ∙ (rw (b, c)))
    go true false z a b c = given_is (module_of t) false (given_direct (module_of t) ∙ (rw b))

module _ (t : List ℕ) (before : Bytes) (r : CodeOption ℕ) (after : Bytes) (w : Listed (module_said t) before r after) where
  -- the text is there, and how long it is
  there : (n : ℕ) → r ≡ Some n → (x : Bytes) × (module_said t ≡ some x) × (length x ≤ 65536) × (n ≡ length x)
  there n e = go (module_said t) refl
    where
      go : (o : Option Bytes) → module_said t ≡ o → (x : Bytes) × (module_said t ≡ some x) × (length x ≤ 65536) × (n ≡ length x)
      go none d = let f = w.missing d in cc
      go (some x) d =
          elim (dec_lt 65536 (length x)) [
            | yes l ↦ let f = w.long x d l in cc
            | no l ↦ let f = w.short x d (omega arith) in (x, d, omega arith, cc)
          ]

  -- ── No listing ──────────────────────────────────────────────────────────────────────────

  pub none_written : (out : Bytes) → r ≡ None → answer_written (Err (R.CannotFollow 0)) out ≡ write_tables t out
  unfolding answer_written write_tables written_of numbers with_chunk fields put_result
  none_written out e =
      sym (ap (λ (q : Result Bytes). put_result q out) (text_refused t (λ p l. let f = w.short (listing_of (module_of t)) ((module_says t).each p) l in cc)))

  -- ── A listing ───────────────────────────────────────────────────────────────────────────

  module _ (n : ℕ) (e : r ≡ Some n) (out : Bytes) where
    text : Bytes
    text = (there n e).0

    said : module_said t ≡ some text
    unfolding text
    said = (there n e).1

    low : length text ≤ 65536
    unfolding text
    low = (there n e).2

    long : n ≡ length text
    unfolding text
    long = (there n e).3

    is : text_of (is_exact t) (module_of t) ≡ ok text
    is =
        let p = (module_says t).only text said in
        text_given t p.0 (omega (arith, ap length p.1, low)) ∙ ap ok (sym p.1)

    pub short_written : length out < n → answer_written (Err (R.BufferTooShort n)) out ≡ write_tables t out
    unfolding answer_written write_tables written_of numbers with_chunk fields put_result put lacking
    short_written l =
        sym
        (ap (λ (q : Result Bytes). put_result q out) is ∙ ap (λ (b : Bool). put b text out) (lt-leb (length text) (length out) (omega (arith, long)))
        ∙ ap (λ (k : ℕ). lacking k out) (sym long))

    pub room_written : (q : CodeOption ℕ) (filled : Bytes) → n ≤ length out → Listed (module_said t) out q filled → answer_written (Ok n) filled ≡ write_tables t out
    unfolding answer_written write_tables written_of put_result put made
    room_written q filled l v =
        let g : filled ≡ text ++ drop (length text) out = v.text text said low (omega (arith, long)) in
        sym
        (ap (λ (p : Result Bytes). put_result p out) is ∙ ap (λ (b : Bool). put b text out) (le-leb (length text) (length out) (omega (arith, long)))
        ∙ ap (λ (k : ℕ). made k (text ++ drop (length text) out)) (sym long) ∙ ap (made n) (sym g))

-- ── Read, then written ────────────────────────────────────────────────────────────────────

back : (t : List ℕ) (before : Bytes) (a : Outcome ℕ Refusal) (after : Bytes) → answer_written a after ≡ write_tables t before → WrittenBack t before a after
unfolding answer_written write_tables text_of put_result put
back t before a after e bs r x l =
    let w : write_tables t before ≡ record { answer = ok (length bs); buffer = bs ++ drop (length bs) before } =
    ap (λ (b : Bool). put_result (text_of b (module_of t)) before) x
    ∙ ap (λ (y : Result Bytes). put_result y before) (read_written bs (module_of t) r)
    ∙ ap (λ (b : Bool). put b bs before) (le-leb (length bs) (length before) l) in
    (ap (λ (y : Written). y.answer) (e ∙ w), ap (λ (y : Written). y.buffer) (e ∙ w))

-- ── Written, then read ────────────────────────────────────────────────────────────────────

take-first : (bs rest : Bytes) → take (length bs) (bs ++ rest) ≡ bs
take-first [] rest = refl
take-first (b ∷ bs) rest = ap (λ (l : Bytes). b ∷ l) (take-first bs rest)

put_first : (b : Bool) (bs before : Bytes) (n : ℕ) → (put b bs before).answer ≡ ok n → take n (put b bs before).buffer ≡ bs
unfolding put
put_first true bs before n f = ap (λ (m : ℕ). take m (bs ++ drop (length bs) before)) (sym (ok_inj f)) ∙ take-first bs (drop (length bs) before)
put_first false bs before n f = absurd (no_ok f)

-- the bytes that a text leaves in a buffer, by the length that is answered
first_of : (r : Result Bytes) (before : Bytes) (n : ℕ) → (put_result r before).answer ≡ ok n → (bs : Bytes) × (r ≡ ok bs) × (take n (put_result r before).buffer ≡ bs)
unfolding put_result
first_of (refused r) before n e = absurd (no_ok e)
first_of (ok bs) before n e = (bs, refl, put_first (leb (length bs) (length before)) bs before n e)

text_read : (b : Bool) (m : Module) (bs : Bytes) → text_of b m ≡ ok bs → read bs ≡ ok m
unfolding text_of
text_read true m bs e = written_read m bs e
text_read false m bs e = absurd (no_ok e)

again : (t : List ℕ) (before : Bytes) (a : Outcome ℕ Refusal) (after : Bytes) → answer_written a after ≡ write_tables t before → ReadAgain t a after
unfolding answer_written write_tables
again t before a after e n f =
    let p = first_of (text_of (is_exact t) (module_of t)) before n (sym (ap (λ (y : Written). y.answer) e) ∙ f) in
    ap (λ (l : Bytes). read (take n l)) (ap (λ (y : Written). y.buffer) e) ∙ ap read p.2 ∙ text_read (is_exact t) (module_of t) p.0 p.1

-- what is so of any answer that is the definition's
pub both_ways : (t : List ℕ) (before : Bytes) (a : Outcome ℕ Refusal) (after : Bytes) → answer_written a after ≡ write_tables t before → WrittenBack t before a after × ReadAgain t a after
both_ways t before a after e = (back t before a after e, again t before a after e)

-- ── For each function of the code ─────────────────────────────────────────────────────────

pub ruleset listing = (listed, not_listed)

pub ruleset writing = (none_written, short_written, room_written)

-- One line, written and then read: items give their values back, and no LF stands in them.
use Rattle.std.specs.Prelude.{◌≡◌, Bool, true, false, not, ◌&&◌, eqb}
use Rattle.std.proofs.Math.Path.{refl, ap, subst}
use Rattle.std.proofs.Common.{sym, ◌∙◌, arith}
use Rattle.std.proofs.Math.Option.{Option, none, some}
use mathlib.Core.List.{List, [], ◌∷◌, ◌++◌, append_assoc}
use Prim.Native.Nat.{ℕ, zero, suc, ◌≤◌}
use Rattle.std.proofs.Math.Dec.{T, leb, eqb_refl}
use Rattle.std.specs.Float.Ieee.Fits.{and_l, and_r}
use Rattle.std.proofs.Math.ListN.{length, get_elem?, length-append}
use Rattle.definition.specs.Basics.{is_member}
use Rattle.definition.specs.Shapes.{Wire}
use Rattle.definition.specs.Format.{Bytes, bytes, Item, text, number, among, numbers, shape, shapes, Maker, Form, ShapeReader, parse, strip, front}
use Rattle.definition.specs.Format.{number_at, numbers_at, shapes_at, is_digit, begins_digit, begins_with, ◌and_then◌, nothing_after, whole}
use Rattle.definition.specs.Write.{spaced, all_written, are_within, all_pass}
use Rattle.theorems.specs.Cover.{no_some, no_false, and_true}
use Rattle.theorems.specs.Keys.{key, keys, apart, apart_from, all_apart, starts, apart-strip}
use Rattle.theorems.specs.Decimal.{number_back, one_line, one_line-append, decimal-line}
use Rattle.theorems.specs.Rendered.{Values, at_values, text_of, held}

-- ── What follows an item ──────────────────────────────────────────────────────────────────

-- a first byte that is not of some kind
unfoldable pub other_first : (ℕ → Bool) → Bytes → Bool
other_first p [] = false
other_first p (b ∷ bs) = not (p b)

-- no digit comes first in items, before nothing where `last`
unfoldable pub no_digit : Bool → List Item → Bool
no_digit last [] = last
no_digit last (text s ∷ is) = other_first is_digit (bytes s)
no_digit last (number m ∷ is) = true
no_digit last (among ns ∷ is) = true
no_digit last (numbers ms ∷ is) = no_digit last is
no_digit last (shape ∷ is) = false
no_digit last (shapes ∷ is) = false

-- no space comes first
unfoldable pub no_space : Bool → List Item → Bool
no_space last [] = last
no_space last (text s ∷ is) = other_first (λ b. eqb b 32) (bytes s)
no_space last (number m ∷ is) = false
no_space last (among ns ∷ is) = false
no_space last (numbers ms ∷ is) = false
no_space last (shape ∷ is) = false
no_space last (shapes ∷ is) = false

-- each item ends where the next begins, and each text is within a line
unfoldable pub clear_cut : Bool → List Item → Bool
clear_cut last [] = true
clear_cut last (text s ∷ is) = one_line (bytes s) && clear_cut last is
clear_cut last (number m ∷ is) = no_digit last is && clear_cut last is
clear_cut last (among ns ∷ is) = no_digit last is && clear_cut last is
clear_cut last (numbers ms ∷ is) = no_digit last is && clear_cut last is
clear_cut last (shape ∷ is) = clear_cut last is
clear_cut last (shapes ∷ is) = no_space last is && clear_cut last is

not_true : (b : Bool) → not b ≡ true → b ≡ false
not_true true e = absurd (no_false e)
not_true false e = refl

other_digit : (a b : Bytes) → other_first is_digit a ≡ true → begins_digit (a ++ b) ≡ false
unfolding other_first begins_digit
other_digit [] b e = absurd (no_false e)
other_digit (x ∷ a) b e = not_true (is_digit x) e

other_space : (a b : Bytes) → other_first (λ x. eqb x 32) a ≡ true → begins_with 32 (a ++ b) ≡ false
unfolding other_first begins_with
other_space [] b e = absurd (no_false e)
other_space (x ∷ a) b e = not_true (eqb x 32) e

space_first : (n : ℕ) (bs : Bytes) → begins_digit (spaced n ++ bs) ≡ false
unfolding spaced begins_digit is_digit
space_first n bs = refl

numbers-first : (ns : List ℕ) (bs : Bytes) → begins_digit bs ≡ false → begins_digit (all_written spaced ns ++ bs) ≡ false
unfolding all_written
numbers-first [] bs e = e
numbers-first (n ∷ ns) bs e = ap begins_digit (append_assoc (spaced n) (all_written spaced ns) bs) ∙ space_first n (all_written spaced ns ++ bs)

-- ── Written, then read ────────────────────────────────────────────────────────────────────

strip_back : (ts rest : Bytes) → strip ts (ts ++ rest) ≡ some rest
unfolding strip
strip_back [] rest = refl
strip_back (t ∷ ts) rest = go (eqb t t) (eqb_refl t) (strip_back ts rest)
  where
    go : (x : Bool) → T x → strip ts (ts ++ rest) ≡ some rest →
        elim x as (λ z. Option Bytes) [ true ↦ strip ts (ts ++ rest) | false ↦ none ] ≡ some rest
    go true h e = e
    go false h e = absurd h

spaced_back : (test : ℕ → Bool) (n : ℕ) (rest : Bytes) → test n ≡ true → begins_digit rest ≡ false → number_at test (spaced n ++ rest) ≡ some (n, rest)
unfolding spaced
spaced_back test n rest e d = number_back test n rest e d

numbers_back : (ms ns : List ℕ) (rest : Bytes) → are_within ms ns ≡ true → begins_digit rest ≡ false → numbers_at ms (all_written spaced ns ++ rest) ≡ some (ns, rest)
unfolding numbers_at all_written are_within ◌and_then◌
numbers_back [] [] rest e d = refl
numbers_back [] (n ∷ ns) rest e d = absurd (no_false e)
numbers_back (m ∷ ms) [] rest e d = absurd (no_false e)
numbers_back (m ∷ ms) (n ∷ ns) rest e d =
    let p = and_true (leb n m) (are_within ms ns) e in
    ap (numbers_at (m ∷ ms)) (append_assoc (spaced n) (all_written spaced ns) rest)
    ∙ ap (λ (o : Option (ℕ × Bytes)). o and_then λ r. numbers_at ms r.1 and_then λ q. some (r.0 ∷ q.0, q.1))
    (spaced_back (λ k. leb k m) n (all_written spaced ns ++ rest) p.0 (numbers-first ns rest d))
    ∙ ap (λ (o : Option (List ℕ × Bytes)). o and_then λ q. some (n ∷ q.0, q.1)) (numbers_back ms ns rest p.1 d)

-- A reader of shapes reads back what a writer writes, with the space before it.
pub record ShapeBack (reader : ShapeReader) (writer : Wire → Bytes) (test : Wire → Bool) : Type 0 where
  pub back : (w : Wire) (rest : Bytes) → test w ≡ true → reader (writer w ++ rest) ≡ some (w, rest)
  pub first : (w : Wire) (rest : Bytes) → test w ≡ true → begins_with 32 (writer w ++ rest) ≡ true
  pub long : (w : Wire) → test w ≡ true → 1 ≤ length (writer w)
  pub line : (w : Wire) → one_line (writer w) ≡ true

module _ (reader : ShapeReader) (writer : Wire → Bytes) (test : Wire → Bool) (sb : ShapeBack reader writer test) where
  shapes_back : (n : ℕ) (ws : List Wire) (rest : Bytes) → length (all_written writer ws ++ rest) ≤ n → all_pass test ws ≡ true →
      begins_with 32 rest ≡ false → shapes_at reader n (all_written writer ws ++ rest) ≡ some (ws, rest)
  unfolding shapes_at all_written all_pass ◌and_then◌
  shapes_back zero [] rest l e d = refl
  shapes_back (suc n) [] rest l e d = rw (d, shapes_at)
  shapes_back zero (w ∷ ws) rest l e d =
      let p = and_true (test w) (all_pass test ws) e in
      absurd (omega (arith, sb.long w p.0, length-append (writer w ++ all_written writer ws) rest, length-append (writer w) (all_written writer ws)))
  shapes_back (suc n) (w ∷ ws) rest l e d =
      let p = and_true (test w) (all_pass test ws) e in
      let a : (writer w ++ all_written writer ws) ++ rest ≡ writer w ++ (all_written writer ws ++ rest) = append_assoc (writer w) (all_written writer ws) rest in
      let k : length (all_written writer ws ++ rest) ≤ n =
      omega (arith, sb.long w p.0, ap length a, length-append (writer w) (all_written writer ws ++ rest)) in
      ap (shapes_at reader (suc n)) a
      ∙ (rw (sb.first w (all_written writer ws ++ rest) p.0, shapes_at))
      ∙ ap (λ (o : Option (Wire × Bytes)). o and_then λ r. shapes_at reader n r.1 and_then λ q. some (r.0 ∷ q.0, q.1))
      (sb.back w (all_written writer ws ++ rest) p.0)
      ∙ ap (λ (o : Option (List Wire × Bytes)). o and_then λ q. some (w ∷ q.0, q.1)) (shapes_back n ws rest k p.1 d)

  module _ (last : Bool) (rest : Bytes) (ends : last ≡ true → rest ≡ []) where
    digit_after : (is : List Item) (vs : Values is) → no_digit last is ≡ true → begins_digit (text_of writer is vs ++ rest) ≡ false
    unfolding no_digit text_of begins_digit
    digit_after [] vs e = rw (ends e) refl
    digit_after (text s ∷ is) vs e =
        ap begins_digit (append_assoc (bytes s) (text_of writer is vs) rest) ∙ other_digit (bytes s) (text_of writer is vs ++ rest) e
    digit_after (number m ∷ is) vs e =
        ap begins_digit (append_assoc (spaced vs.0) (text_of writer is vs.1) rest) ∙ space_first vs.0 (text_of writer is vs.1 ++ rest)
    digit_after (among ns ∷ is) vs e =
        ap begins_digit (append_assoc (spaced vs.0) (text_of writer is vs.1) rest) ∙ space_first vs.0 (text_of writer is vs.1 ++ rest)
    digit_after (numbers ms ∷ is) vs e =
        ap begins_digit (append_assoc (all_written spaced vs.0) (text_of writer is vs.1) rest)
        ∙ numbers-first vs.0 (text_of writer is vs.1 ++ rest) (digit_after is vs.1 e)
    digit_after (shape ∷ is) vs e = absurd (no_false e)
    digit_after (shapes ∷ is) vs e = absurd (no_false e)

    space_after : (is : List Item) (vs : Values is) → no_space last is ≡ true → begins_with 32 (text_of writer is vs ++ rest) ≡ false
    unfolding no_space text_of begins_with
    space_after [] vs e = rw (ends e) refl
    space_after (text s ∷ is) vs e =
        ap (begins_with 32) (append_assoc (bytes s) (text_of writer is vs) rest) ∙ other_space (bytes s) (text_of writer is vs ++ rest) e
    space_after (number m ∷ is) vs e = absurd (no_false e)
    space_after (among ns ∷ is) vs e = absurd (no_false e)
    space_after (numbers ms ∷ is) vs e = absurd (no_false e)
    space_after (shape ∷ is) vs e = absurd (no_false e)
    space_after (shapes ∷ is) vs e = absurd (no_false e)

    -- Items read what their values are written as.
    pub parse_back : {A : Type 0} (is : List Item) (f : Maker is A) (vs : Values is) → clear_cut last is ≡ true → held test is vs ≡ true →
        parse reader is f (text_of writer is vs ++ rest) ≡ some (at_values is f vs, rest)
    unfolding clear_cut held text_of parse ◌and_then◌
    parse_back [] f vs c h = refl
    parse_back {A} (text s ∷ is) f vs c h =
        let p = and_true (one_line (bytes s)) (clear_cut last is) c in
        ap (parse reader (text s ∷ is) f) (append_assoc (bytes s) (text_of writer is vs) rest)
        ∙ ap (λ (o : Option Bytes). o and_then λ r. parse {A = A} reader is f r) (strip_back (bytes s) (text_of writer is vs ++ rest))
        ∙ parse_back is f vs p.1 h
    parse_back {A} (number m ∷ is) f vs c h =
        let p = and_true (no_digit last is) (clear_cut last is) c in
        let q = and_true (leb vs.0 m) (held test is vs.1) h in
        ap (parse reader (number m ∷ is) f) (append_assoc (spaced vs.0) (text_of writer is vs.1) rest)
        ∙ ap (λ (o : Option (ℕ × Bytes)). o and_then λ r. parse {A = A} reader is (f r.0) r.1)
        (spaced_back (λ n. leb n m) vs.0 (text_of writer is vs.1 ++ rest) q.0 (digit_after is vs.1 p.0))
        ∙ parse_back is (f vs.0) vs.1 p.1 q.1
    parse_back {A} (among ns ∷ is) f vs c h =
        let p = and_true (no_digit last is) (clear_cut last is) c in
        let q = and_true (is_member vs.0 ns) (held test is vs.1) h in
        ap (parse reader (among ns ∷ is) f) (append_assoc (spaced vs.0) (text_of writer is vs.1) rest)
        ∙ ap (λ (o : Option (ℕ × Bytes)). o and_then λ r. parse {A = A} reader is (f r.0) r.1)
        (spaced_back (λ n. is_member n ns) vs.0 (text_of writer is vs.1 ++ rest) q.0 (digit_after is vs.1 p.0))
        ∙ parse_back is (f vs.0) vs.1 p.1 q.1
    parse_back {A} (numbers ms ∷ is) f vs c h =
        let p = and_true (no_digit last is) (clear_cut last is) c in
        let q = and_true (are_within ms vs.0) (held test is vs.1) h in
        ap (parse reader (numbers ms ∷ is) f) (append_assoc (all_written spaced vs.0) (text_of writer is vs.1) rest)
        ∙ ap (λ (o : Option (List ℕ × Bytes)). o and_then λ r. parse {A = A} reader is (f r.0) r.1)
        (numbers_back ms vs.0 (text_of writer is vs.1 ++ rest) q.0 (digit_after is vs.1 p.0))
        ∙ parse_back is (f vs.0) vs.1 p.1 q.1
    parse_back {A} (shape ∷ is) f vs c h =
        let q = and_true (test vs.0) (held test is vs.1) h in
        ap (parse reader (shape ∷ is) f) (append_assoc (writer vs.0) (text_of writer is vs.1) rest)
        ∙ ap (λ (o : Option (Wire × Bytes)). o and_then λ r. parse {A = A} reader is (f r.0) r.1)
        (sb.back vs.0 (text_of writer is vs.1 ++ rest) q.0)
        ∙ parse_back is (f vs.0) vs.1 c q.1
    parse_back {A} (shapes ∷ is) f vs c h =
        let p = and_true (no_space last is) (clear_cut last is) c in
        let q = and_true (all_pass test vs.0) (held test is vs.1) h in
        let bs : Bytes = all_written writer vs.0 ++ (text_of writer is vs.1 ++ rest) in
        ap (parse reader (shapes ∷ is) f) (append_assoc (all_written writer vs.0) (text_of writer is vs.1) rest)
        ∙ ap (λ (o : Option (List Wire × Bytes)). o and_then λ r. parse {A = A} reader is (f r.0) r.1)
        (shapes_back (length bs) vs.0 (text_of writer is vs.1 ++ rest) (omega arith) q.0 (space_after is vs.1 p.0))
        ∙ parse_back is (f vs.0) vs.1 p.1 q.1

  -- ── No LF ───────────────────────────────────────────────────────────────────────────────

  spaced_line : (n : ℕ) → one_line (spaced n) ≡ true
  unfolding spaced one_line
  spaced_line n = decimal-line n

  all_line : {A : Type 0} (f : A → Bytes) → ((x : A) → one_line (f x) ≡ true) → (xs : List A) → one_line (all_written f xs) ≡ true
  unfolding all_written one_line
  all_line f h [] = refl
  all_line f h (x ∷ xs) = one_line-append (f x) (all_written f xs) (h x) (all_line f h xs)

  pub text_line : (last : Bool) (is : List Item) (vs : Values is) → clear_cut last is ≡ true → one_line (text_of writer is vs) ≡ true
  unfolding clear_cut text_of one_line
  text_line last [] vs c = refl
  text_line last (text s ∷ is) vs c =
      let p = and_true (one_line (bytes s)) (clear_cut last is) c in
      one_line-append (bytes s) (text_of writer is vs) p.0 (text_line last is vs p.1)
  text_line last (number m ∷ is) vs c =
      let p = and_true (no_digit last is) (clear_cut last is) c in
      one_line-append (spaced vs.0) (text_of writer is vs.1) (spaced_line vs.0) (text_line last is vs.1 p.1)
  text_line last (among ns ∷ is) vs c =
      let p = and_true (no_digit last is) (clear_cut last is) c in
      one_line-append (spaced vs.0) (text_of writer is vs.1) (spaced_line vs.0) (text_line last is vs.1 p.1)
  text_line last (numbers ms ∷ is) vs c =
      let p = and_true (no_digit last is) (clear_cut last is) c in
      one_line-append (all_written spaced vs.0) (text_of writer is vs.1) (all_line spaced spaced_line vs.0) (text_line last is vs.1 p.1)
  text_line last (shape ∷ is) vs c = one_line-append (writer vs.0) (text_of writer is vs.1) (sb.line vs.0) (text_line last is vs.1 c)
  text_line last (shapes ∷ is) vs c =
      let p = and_true (no_space last is) (clear_cut last is) c in
      one_line-append (all_written writer vs.0) (text_of writer is vs.1) (all_line writer sb.line vs.0) (text_line last is vs.1 p.1)

-- ── The form that reads ───────────────────────────────────────────────────────────────────

module _ {A : Type 0} (reader : ShapeReader) where
  -- where one form reads, none reads whose key is apart from its key
  other_fails : (f g : Form A) (bs : Bytes) (r : A × Bytes) → parse reader f.items f.make bs ≡ some r → T (apart (key g.items) (key f.items)) →
      parse reader g.items g.make bs ≡ none
  other_fails f g bs r e h = go (parse reader g.items g.make bs) refl
    where
      go : (o : Option (A × Bytes)) → parse reader g.items g.make bs ≡ o → o ≡ none
      go none k = refl
      go (some q) k =
          let a = starts reader g.items g.make bs q k in
          let b = starts reader f.items f.make bs r e in
          absurd (apart-strip (key g.items) (key f.items) bs a.0 b.0 h a.1 b.1)

  apart_member : (k : Bytes) (fs : List (Form A)) (i : ℕ) (f : Form A) → T (apart_from k (keys fs)) → get_elem? fs i ≡ some f → T (apart k (key f.items))
  unfolding apart_from keys
  apart_member k [] i f h e = absurd (no_some (sym e))
  apart_member k (g ∷ fs) zero f h e =
      subst (λ (z : Form A). T (apart k (key z.items))) (let p : g ≡ f = cc in p) (and_l (apart k (key g.items)) (apart_from k (keys fs)) h)
  apart_member k (g ∷ fs) (suc i) f h e = apart_member k fs i f (and_r (apart k (key g.items)) (apart_from k (keys fs)) h) e

  -- A form whose key is apart from those of all others reads what it reads alone: at the front,
  pub front_at : (fs : List (Form A)) (i : ℕ) (f : Form A) (bs : Bytes) (r : A × Bytes) → T (all_apart (keys fs)) → get_elem? fs i ≡ some f →
      parse reader f.items f.make bs ≡ some r → front reader fs bs ≡ some r
  unfolding front all_apart keys
  front_at [] i f bs r h e p = absurd (no_some (sym e))
  front_at (g ∷ fs) zero f bs r h e p =
      let q : parse reader g.items g.make bs ≡ some r = subst (λ (z : Form A). parse reader z.items z.make bs ≡ some r) (sym (let k : g ≡ f = cc in k)) p in
      rw (q, front)
  front_at (g ∷ fs) (suc i) f bs r h e p =
      let q = other_fails f g bs r p (apart_member (key g.items) fs i f (and_l (apart_from (key g.items) (keys fs)) (all_apart (keys fs)) h) e) in
      (rw (q, front)) ∙ front_at fs i f bs r (and_r (apart_from (key g.items) (keys fs)) (all_apart (keys fs)) h) e p

  -- and to the end.
  pub whole_at : (fs : List (Form A)) (i : ℕ) (f : Form A) (bs : Bytes) (a : A) → T (all_apart (keys fs)) → get_elem? fs i ≡ some f →
      parse reader f.items f.make bs ≡ some (a, []) → whole reader fs bs ≡ some a
  unfolding whole all_apart keys ◌and_then◌ nothing_after
  whole_at [] i f bs a h e p = absurd (no_some (sym e))
  whole_at (g ∷ fs) zero f bs a h e p =
      let q : parse reader g.items g.make bs ≡ some (a, []) =
      subst (λ (z : Form A). parse reader z.items z.make bs ≡ some (a, [])) (sym (let k : g ≡ f = cc in k)) p in
      rw (q, whole)
  whole_at (g ∷ fs) (suc i) f bs a h e p =
      let q = other_fails f g bs (a, []) p (apart_member (key g.items) fs i f (and_l (apart_from (key g.items) (keys fs)) (all_apart (keys fs)) h) e) in
      (rw (q, whole)) ∙ whole_at fs i f bs a (and_r (apart_from (key g.items) (keys fs)) (all_apart (keys fs)) h) e p

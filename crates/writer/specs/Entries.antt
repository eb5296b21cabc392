-- The line of each table's entry: it is there exactly where the row says the entry that it means, and the entry passes.
use Rattle.std.specs.Prelude.{◌≡◌, Bool, ◌&&◌, eqb, cond, get_or}
use Rattle.std.proofs.Math.Path.{refl, sym, ap, subst}
use Rattle.std.proofs.Common.{◌∙◌, add-suc}
use Rattle.std.proofs.Math.Bool.{true, false}
use Rattle.std.proofs.Math.Option.{Option, none, some}
use mathlib.Core.List.{List, [], ◌∷◌, ◌++◌, map, append-nil}
use Prim.Native.Nat.{ℕ, zero, suc, ◌+◌, ◌-◌, ◌≤◌}
use native.Mathlib.Omega.{arith}
use Rattle.std.proofs.Math.Dec.{leb}
use Rattle.std.proofs.Math.ListN.{length, drop}
use borrow.Author.Tests.{le-leb, leb-true, eqb-true, eq-eqb}
use Rattle.definition.specs.Basics.{choose, is_member}
use Rattle.definition.specs.Shapes.{same_places}
use Rattle.definition.specs.Instructions.{Sig}
use Rattle.definition.specs.Format.{Bytes, Item, form}
use Rattle.definition.specs.Module.{shared, private}
use Rattle.definition.specs.Read.{Line, first_line, slot_line, shared_line, private_line, enum_line, native_line, sig_line, chunk_line, const_line, line_forms}
use Rattle.definition.specs.Read.{header_items, slot_items, shared_items, private_items, enum_items, native_items, sig_items, chunk_items, const_items}
use Rattle.definition.specs.Write.{render, admits, at_line, at_slot, shape_text, is_shape, line_text, is_line}
use Rattle.theorems.specs.Cover.{no_false, and_true}
use Rattle.theorems.specs.Direct.{sig_passes}
use Rattle.theorems.specs.Rendered.{at_values}
use Rattle.bytecode.specs.Lists.{limited, limited-same, limited_le, tabulate, tabulate-length, tabulate-map}
use Rattle.bytecode.specs.Tables.{cells, row_at}
use Rattle.bytecode.specs.Held.{header_words, slot_words, shared_words, private_words, one_word, native_words, sig_words, wire_word, length-map}
use Rattle.bytecode.specs.Meaning.{cell, table_header, slot_of, slot_at, shared_at, private_at, enum_at, word_wire, native_at, params_at, sig_at, const_at, locals_at}
use Rattle.bytecode.specs.Exact.{first_used, row_says}
use Rattle.listing.specs.Scan.{codes, form_codes}
use Rattle.listing.specs.Agree.{as_words, Known}
use Rattle.listing.specs.Forms.{line_fits}
use Rattle.writer.specs.Say.{form_said, slot_form, sig_form, row_form, row_values, line_said}
use Rattle.writer.specs.Texts.{Says, says_as, says_by, says_none}
use Rattle.writer.specs.Lines.{and_of, both_same, head_same, rest-same, largest, meant, Enough, form_says}

-- ── Rows ──────────────────────────────────────────────────────────────────────────────────

-- what computes the words in use of a row
unfoldable pub by_row : Unit {0}
unfolding first_used is_member choose tabulate
by_row = tt

same_true : (xs ys : List ℕ) → same_places xs ys ≡ true → xs ≡ ys
unfolding same_places
same_true [] [] e = refl
same_true [] (y ∷ ys) e = absurd (no_false e)
same_true (x ∷ xs) [] e = absurd (no_false e)
same_true (x ∷ xs) (y ∷ ys) e =
    let p = and_true (eqb x y) (same_places xs ys) e in
    let a : x ≡ y = eqb-true x y p.0 in
    let b : xs ≡ ys = same_true xs ys p.1 in
    rw (a, b)

same_self : (xs : List ℕ) → same_places xs xs ≡ true
unfolding same_places
same_self [] = refl
same_self (x ∷ xs) = and_of (eq-eqb x x refl) (same_self xs)

module _ (t : List ℕ) (k i : ℕ) where
  pub cells_are : (j n : ℕ) → cells t (row_at k i + j) n ≡ tabulate j n (cell t k i)
  unfolding cells tabulate
  cells_are j zero = refl
  cells_are j (suc n) =
      ap (λ (l : List ℕ). cell t k i j ∷ l) (ap (λ (a : ℕ). cells t a n) (sym (add-suc (row_at k i) j)) ∙ cells_are (suc j) n)

  -- a row that says words has them, from the first in use on,
  pub row_told : (ws : List ℕ) → row_says t k i ws ≡ true →
      tabulate (first_used k) (length (drop (first_used k) ws)) (cell t k i) ≡ drop (first_used k) ws
  unfolding row_says
  row_told ws e =
      let us = drop (first_used k) ws in
      sym (cells_are (first_used k) (length us)) ∙ same_true (cells t (row_at k i + first_used k) (length us)) us e

  -- and one that has them says them
  pub row_tells : (ws : List ℕ) → tabulate (first_used k) (length (drop (first_used k) ws)) (cell t k i) ≡ drop (first_used k) ws →
      row_says t k i ws ≡ true
  unfolding row_says
  row_tells ws e =
      let us = drop (first_used k) ws in
      ap (λ (l : List ℕ). same_places l us) (cells_are (first_used k) (length us) ∙ e) ∙ same_self us

  -- the line of a row whose first word only counts its values
  counted_line : (f n : ℕ) (is : List Item) (l : Line) (row : List ℕ) → first_used k ≡ 1 → line_said t k i ≡ form_said (some f) (cells t (row_at k i + 1) n) →
      get_or (form_codes line_forms) f [] ≡ codes is → Known is → Enough is (tabulate 1 n (cell t k i)) →
      at_values is (render shape_text [] is) (meant is (tabulate 1 n (cell t k i))) ≡ line_text l →
      at_values is (admits is_shape true is) (meant is (tabulate 1 n (cell t k i))) ≡ is_line l →
      drop 1 row ≡ as_words is (meant is (tabulate 1 n (cell t k i))) → length (drop 1 row) ≡ n →
      Says (line_said t k i) ((row_says t k i row ≡ true) × (is_line l ≡ true)) (line_text l ++ (10 ∷ []))
  counted_line f n is l row u s c kn e x y w m =
      says_by (s ∙ ap (form_said (some f)) (cells_are 1 n))
      (says_as (form_says f is (tabulate 1 n (cell t k i)) l c kn e x y)
      (λ h. ((row_tells row (rw (u, m) (h.0 ∙ sym w)), h.1), refl))
      (λ h. (sym (ap (λ (a : ℕ). tabulate 1 a (cell t k i)) m) ∙ (rw u at (row_told row h.0)) ∙ w, h.1)))

-- The text is there exactly where row i of table k says the entry that it means, and the entry passes the test; and it is the entry's line.
abbrev pub Told : {A : Type 0} → Option Bytes → List ℕ → ℕ → ℕ → (A → List ℕ) → (A → Bool) → (A → Line) → A → Type 0
Told o t k i words test to entry = Says o ((row_says t k i (words entry) ≡ true) × (test entry ≡ true)) (line_text (to entry) ++ (10 ∷ []))

-- ── Entries of one form ───────────────────────────────────────────────────────────────────

-- what computes the line of a form
unfoldable by_form : Unit {0}
unfolding by_row line_said row_form row_values form_codes line_forms form meant largest line_text is_line at_line as_words
by_form = tt

module _ (t : List ℕ) where
  pub header_says : Told (line_said t 0 0) t 0 0 header_words (λ x. is_line (first_line x)) first_line (table_header t)
  unfolding by_form table_header header_words
  header_says =
      counted_line t 0 0 0 7 header_items (first_line (table_header t)) (header_words (table_header t)) refl refl refl line_fits.0.known tt refl refl refl refl

  pub shared_says : (i : ℕ) → Told (line_said t 2 i) t 2 i shared_words (λ x. is_line (shared_line x)) shared_line (shared_at t i)
  unfolding by_form shared_at shared_words
  shared_says i =
      counted_line t 2 i 3 3 shared_items (shared_line (shared_at t i)) (shared_words (shared_at t i)) refl refl refl line_fits.1.1.1.0.known tt refl refl refl refl

  pub private_says : (i : ℕ) → Told (line_said t 3 i) t 3 i private_words (λ x. is_line (private_line x)) private_line (private_at t i)
  unfolding by_form private_at private_words
  private_says i =
      counted_line t 3 i 4 2 private_items (private_line (private_at t i)) (private_words (private_at t i)) refl refl refl line_fits.1.1.1.1.0.known tt refl refl refl refl

  pub enum_says : (i : ℕ) → Told (line_said t 4 i) t 4 i one_word (λ x. is_line (enum_line x)) enum_line (enum_at t i)
  unfolding by_form enum_at one_word
  enum_says i =
      counted_line t 4 i 5 1 enum_items (enum_line (enum_at t i)) (one_word (enum_at t i)) refl refl refl line_fits.1.1.1.1.1.0.known tt refl refl refl refl

  pub native_says : (i : ℕ) → Told (line_said t 5 i) t 5 i native_words (λ x. is_line (native_line x)) native_line (native_at t i)
  unfolding by_form native_at native_words
  native_says i =
      counted_line t 5 i 6 1 native_items (native_line (native_at t i)) (native_words (native_at t i)) refl refl refl line_fits.1.1.1.1.1.1.0.known tt refl refl refl refl

  pub const_says : (i : ℕ) → Told (line_said t 8 i) t 8 i one_word (λ x. is_line (const_line x)) const_line (const_at t i)
  unfolding by_form const_at one_word
  const_says i =
      counted_line t 8 i 9 1 const_items (const_line (const_at t i)) (one_word (const_at t i)) refl refl refl line_fits.1.1.1.1.1.1.1.1.1.0.known tt refl refl refl refl

  -- a chunk's line, of at most 32 locals
  pub chunk_says : (k : ℕ) → leb (cell t 7 k 1) 32 ≡ true → Says (line_said t 7 k) (Unit {0}) (line_text (chunk_line (locals_at t k)) ++ (10 ∷ []))
  unfolding by_form admits locals_at
  chunk_says k e =
      let n = cell t 7 k 1 in
      let low : n ≤ 32 = leb-true n 32 e in
      let same : limited 65535 n ≡ n = limited-same 65535 n (omega arith) in
      says_by (ap (form_said (some 8)) (cells_are t 7 k 1 1))
      (says_as
      (form_says 8 chunk_items (n ∷ []) (chunk_line (limited 65535 n)) refl line_fits.1.1.1.1.1.1.1.1.0.known tt refl refl)
      (λ h. (tt, ap (λ (a : ℕ). line_text (chunk_line a) ++ (10 ∷ [])) (same ∙ sym (limited-same 32 n low))))
      (λ h. (ap (λ (a : ℕ). a ∷ []) (sym same), le-leb (limited 65535 n) 65535 (limited_le 65535 n))))

  -- ── Slots ─────────────────────────────────────────────────────────────────────────────────

  slot_row : (i n : ℕ) → row_says t 1 i (n ∷ []) ≡ eqb (cell t 1 i 0) n
  unfolding row_says first_used is_member choose cells same_places
  slot_row i n = and_end (eqb (cell t 1 i 0) n)
    where
      and_end : (b : Bool) → b && true ≡ b
      and_end true = refl
      and_end false = refl

  slot_by : (i : ℕ) (b c : Bool) → eqb (cell t 1 i 0) 0 ≡ b → eqb (cell t 1 i 0) 1 ≡ c →
      Told (form_said (cond b (some 1) (cond c (some 2) none)) []) t 1 i slot_words (λ x. is_line (slot_line x)) slot_line (slot_of b)
  unfolding choose slot_of slot_words form_said form_codes line_forms form meant as_words line_text is_line at_line at_slot admits
  slot_by i true c d e =
      says_as (form_says 1 (slot_items shared) [] (slot_line shared) refl line_fits.1.0.known tt refl refl)
      (λ h. ((slot_row i 0 ∙ d, refl), refl)) (λ h. (refl, refl))
  slot_by i false true d e =
      says_as (form_says 2 (slot_items private) [] (slot_line private) refl line_fits.1.1.0.known tt refl refl)
      (λ h. ((slot_row i 1 ∙ e, refl), refl)) (λ h. (refl, refl))
  slot_by i false false d e = says_none _ (λ h. no_false (sym e ∙ sym (slot_row i 1) ∙ h.0))

  pub slot_says : (i : ℕ) → Told (line_said t 1 i) t 1 i slot_words (λ x. is_line (slot_line x)) slot_line (slot_at t i)
  unfolding line_said row_form row_values slot_form choose slot_at cells
  slot_says i = slot_by i (eqb (cell t 1 i 0) 0) (eqb (cell t 1 i 0) 1) refl refl

  -- ── Signatures ────────────────────────────────────────────────────────────────────────────

  -- its shapes, as its row has them
  shape_words : ℕ → List ℕ
  shape_words i = tabulate 3 (params_at t i) (cell t 6 i)

  sig_meant : ℕ → Sig
  sig_meant i = record { ret = word_wire (cell t 6 i 1); resume = word_wire (cell t 6 i 2); params = map word_wire (shape_words i) }

  sig_same : (i : ℕ) → sig_at t i ≡ sig_meant i
  unfolding sig_at sig_meant shape_words
  sig_same i = rw (sym (tabulate-map word_wire 3 (params_at t i) (cell t 6 i)))

  params_long : (i : ℕ) → length (map word_wire (shape_words i)) ≡ params_at t i
  unfolding shape_words
  params_long i = length-map word_wire (tabulate 3 (params_at t i) (cell t 6 i)) ∙ tabulate-length 3 (params_at t i) (cell t 6 i)

  few_params : (i : ℕ) → params_at t i ≤ 16
  unfolding params_at
  few_params i = limited_le 16 (cell t 6 i 0 - 2)

  words_long : (i : ℕ) → length (map wire_word (map word_wire (shape_words i))) ≡ params_at t i
  words_long i = length-map wire_word (map word_wire (shape_words i)) ∙ params_long i

  sig_row : (i : ℕ) → row_says t 6 i (sig_words (sig_meant i)) ≡ true → cell t 6 i 0 ∷ cell t 6 i 1 ∷ cell t 6 i 2 ∷ shape_words i ≡ sig_words (sig_meant i)
  unfolding by_row sig_words sig_meant shape_words
  sig_row i e =
      ap (λ (n : ℕ). cell t 6 i 0 ∷ cell t 6 i 1 ∷ cell t 6 i 2 ∷ tabulate 3 n (cell t 6 i)) (sym (words_long i)) ∙ row_told t 6 i (sig_words (sig_meant i)) e

  sig_tells : (i : ℕ) → cell t 6 i 0 ∷ cell t 6 i 1 ∷ cell t 6 i 2 ∷ shape_words i ≡ sig_words (sig_meant i) → row_says t 6 i (sig_words (sig_meant i)) ≡ true
  unfolding by_row sig_words sig_meant shape_words
  sig_tells i e =
      row_tells t 6 i (sig_words (sig_meant i))
      (ap (λ (n : ℕ). cell t 6 i 0 ∷ cell t 6 i 1 ∷ cell t 6 i 2 ∷ tabulate 3 n (cell t 6 i)) (words_long i) ∙ e)

  -- the number of shapes that a row says, where it is one of a signature
  sig_head : (i : ℕ) → 2 ≤ cell t 6 i 0 → cell t 6 i 0 ≤ 18 → cell t 6 i 0 ≡ 2 + params_at t i
  unfolding params_at
  sig_head i a b = omega (arith, limited-same 16 (cell t 6 i 0 - 2) (omega arith))

  sig_cells : (i : ℕ) → cell t 6 i 0 ≡ 2 + params_at t i →
      cells t (row_at 6 i + 1) (cell t 6 i 0) ≡ cell t 6 i 1 ∷ cell t 6 i 2 ∷ shape_words i
  unfolding shape_words tabulate
  sig_cells i e =
      cells_are t 6 i 1 (cell t 6 i 0)
      ∙ ap (λ (n : ℕ). tabulate 1 n (cell t 6 i)) (let z : cell t 6 i 0 ≡ suc (suc (params_at t i)) = omega arith in z)

  sig_by : (i : ℕ) (b : Bool) → leb 2 (cell t 6 i 0) && leb (cell t 6 i 0) 18 ≡ b →
      Told (form_said (cond b (some 7) none) (cells t (row_at 6 i + 1) (cell t 6 i 0))) t 6 i sig_words sig_passes sig_line (sig_meant i)
  unfolding choose form_said form_codes line_forms form meant as_words line_text is_line at_line sig_meant sig_words sig_passes
  sig_by i true d =
      let p = and_true (leb 2 (cell t 6 i 0)) (leb (cell t 6 i 0) 18) d in
      let h : cell t 6 i 0 ≡ 2 + params_at t i = sig_head i (leb-true 2 (cell t 6 i 0) p.0) (leb-true (cell t 6 i 0) 18 p.1) in
      let g : cell t 6 i 0 ≡ 2 + length (map word_wire (shape_words i)) = omega (arith, params_long i) in
      let few : leb (length (map word_wire (shape_words i))) 16 ≡ true = le-leb (length (map word_wire (shape_words i))) 16 (omega (arith, params_long i, few_params i)) in
      let z = ap (λ (l : List ℕ). wire_word (word_wire (cell t 6 i 1)) ∷ wire_word (word_wire (cell t 6 i 2)) ∷ l) (append-nil (map wire_word (map word_wire (shape_words i)))) in
      says_by (ap (form_said (some 7)) (sig_cells i h))
      (says_as
      (form_says 7 sig_items (cell t 6 i 1 ∷ cell t 6 i 2 ∷ shape_words i) (sig_line (sig_meant i)) refl line_fits.1.1.1.1.1.1.1.0.known tt refl refl)
      (λ q. ((sig_tells i (both_same g (q.0 ∙ z)), and_of q.1 few), refl))
      (λ q. (rest-same (sig_row i q.0) ∙ sym z, (and_true _ _ q.1).0)))
  sig_by i false d = says_none _ (λ q. no_false (sym d ∙ in_range q.0))
    where
      in_range : row_says t 6 i (sig_words (sig_meant i)) ≡ true → leb 2 (cell t 6 i 0) && leb (cell t 6 i 0) 18 ≡ true
      in_range e =
          let h : cell t 6 i 0 ≡ 2 + length (map word_wire (shape_words i)) = head_same (sig_row i e) in
          let few : length (map word_wire (shape_words i)) ≤ 16 = omega (arith, params_long i, few_params i) in
          and_of (le-leb 2 (cell t 6 i 0) (omega arith)) (le-leb (cell t 6 i 0) 18 (omega arith))

  pub sig_says : (i : ℕ) → Told (line_said t 6 i) t 6 i sig_words sig_passes sig_line (sig_at t i)
  unfolding line_said row_form row_values sig_form choose
  sig_says i =
      subst (Told (line_said t 6 i) t 6 i sig_words sig_passes sig_line) (sym (sig_same i))
      (sig_by i (leb 2 (cell t 6 i 0) && leb (cell t 6 i 0) 18) refl)

-- The line of an instruction: it is there exactly where the row says the instruction that it means, and the instruction passes.
use Rattle.std.specs.Prelude.{◌≡◌, Bool, false, not, ◌&&◌, ℕ, zero, suc, ◌+◌, ◌≤◌, ◌<◌, T, leb, ltb, eqb, get_or, take}
use Rattle.std.proofs.Math.Path.{refl, sym, ap}
use Rattle.std.proofs.Common.{◌∙◌, subst, arith}
use Rattle.std.proofs.Math.Bool.{true}
use Rattle.std.proofs.Math.Option.{Option, none, some}
use mathlib.Core.List.{List, [], ◌∷◌, ◌++◌, map, append_assoc, append-nil}
use Rattle.std.specs.Float.Ieee.Fits.{and_l, and_r}
use Rattle.std.proofs.Math.ListN.{length, get_elem?}
use borrow.Author.Tests.{le-leb, leb-true, ltb-true, lt-ltb}
use Rattle.definition.specs.Basics.{is_member}
use Rattle.definition.specs.Shapes.{is_lacking}
use Rattle.definition.specs.Format.{Bytes, bytes}
use Rattle.definition.specs.Ops.{Row, row, ops, Op, instr, named_kind, has_kind}
use Rattle.definition.specs.Read.{op_line, op_items}
use Rattle.definition.specs.Write.{spaced, all_written, render, are_within, admits, at_row, at_line, shape_text, is_shape, line_text, is_line}
use Rattle.theorems.specs.Cover.{no_some, no_false}
use Rattle.theorems.specs.KindOf.{has_kinds, kinds_by_maxima}
use Rattle.theorems.specs.Rendered.{text_of, render_is, held, admits_is}
use Rattle.theorems.specs.Direct.{op_passes}
use Rattle.bytecode.specs.Lists.{limited, limited-same, limited_le, tabulate}
use Rattle.bytecode.specs.Tables.{cells, row_at, all_below, at_each}
use Rattle.bytecode.specs.Held.{op_words}
use Rattle.bytecode.specs.Meaning.{cell, table_header, maxima_of, operands_of, op_of, op_at}
use Rattle.bytecode.specs.Operands.{row_of}
use Rattle.bytecode.specs.Names.{name_bytes, names, name_at}
use Rattle.bytecode.specs.Exact.{row_says}
use Rattle.listing.specs.Scan.{max_code}
use Rattle.listing.specs.Agree.{known_max, known_all}
use Rattle.writer.specs.Say.{number_said, operand_said, operands_said, op_said}
use Rattle.writer.specs.Texts.{some_inj, Says, says_as, says_by, says_some, says_none, says_both, says_after}
use Rattle.writer.specs.Lines.{and_of, both_same, head_same, rest-same, by_test, max_admits, more_says}
use Rattle.writer.specs.Entries.{by_row, cells_are, row_told, row_tells, Told}

-- ── Operands ──────────────────────────────────────────────────────────────────────────────

module _ (float : ℕ) where
  -- the operand names no kind that is lacking
  abbrev has : ℕ → ℕ → Bool
  has m w = not (eqb m 7 && is_lacking float w)

  operand_by : (m w : ℕ) (b : Bool) → T (known_max m) → eqb m 7 && is_lacking float w ≡ b →
      Says (elim b as (λ z. Option Bytes) [ true ↦ none | false ↦ number_said (max_code m) w ]) ((w ≡ limited m w) × (has m (limited m w) ≡ true)) (spaced (limited m w))
  operand_by m w true k e =
      says_none _ (λ h. no_false (ap not (sym e) ∙ ap (has m) h.0 ∙ h.1))
  operand_by m w false k e =
      says_as (by_test (max_code m) m w (λ n. leb n m) (λ x h. leb-true x m h) (max_admits m k w))
      (λ h. ((h.0, ap (has m) (sym h.0) ∙ ap not e), refl)) (λ h. (h.0, le-leb (limited m w) m (limited_le m w)))

  operands_say : (ms ws : List ℕ) → T (known_all ms) → length ms ≤ length ws →
      Says (operands_said float ms ws) ((take (length ms) ws ≡ operands_of ms ws) × (has_kinds float ms (operands_of ms ws) ≡ true)) (all_written spaced (operands_of ms ws))
  unfolding known_all operands_said operand_said operands_of has_kinds all_written
  operands_say [] ws k l = says_as (says_some []) (λ u. ((refl, refl), refl)) (λ u. tt)
  operands_say (m ∷ ms) [] k l = absurd (omega arith)
  operands_say (m ∷ ms) (w ∷ ws) k l =
      more_says w (limited m w) (take (length ms) ws) (operands_of ms ws) (has m (limited m w)) (has_kinds float ms (operands_of ms ws))
      (operand_by m w (eqb m 7 && is_lacking float w) (and_l (known_max m) (known_all ms) k) refl)
      (operands_say ms ws (and_r (known_max m) (known_all ms) k) (omega arith))

-- what words mean as operands, a row may have
within_always : (ms ws : List ℕ) → are_within ms (operands_of ms ws) ≡ true
unfolding are_within operands_of
within_always [] ws = refl
within_always (m ∷ ms) [] = and_of (le-leb 0 m (omega arith)) (within_always ms [])
within_always (m ∷ ms) (w ∷ ws) = and_of (le-leb (limited m w) m (limited_le m w)) (within_always ms ws)

operands_long : (ms ws : List ℕ) → length (operands_of ms ws) ≡ length ms
unfolding operands_of
operands_long [] ws = refl
operands_long (m ∷ ms) [] = ap suc (operands_long ms [])
operands_long (m ∷ ms) (w ∷ ws) = ap suc (operands_long ms ws)

all_known : T (all_below 75 (λ c. known_all (maxima_of c)))
unfolding all_below known_all known_max is_member maxima_of ops row
all_known = tt

-- ── Rows of the op table ──────────────────────────────────────────────────────────────────

mapped : {A : Type 0} (f : Row → A) (d : A) (rs : List Row) (c : ℕ) (r : Row) → get_elem? rs c ≡ some r → get_or (map f rs) c d ≡ f r
mapped f d [] c r e = absurd (no_some (sym e))
mapped f d (q ∷ rs) zero r e = ap f (some_inj e)
mapped f d (q ∷ rs) (suc c) r e = mapped f d rs c r e

taken : (a n m : ℕ) (f : ℕ → ℕ) → m ≤ n → take m (tabulate a n f) ≡ tabulate a m f
unfolding tabulate
taken a n zero f l = refl
taken a zero (suc m) f l = absurd (omega arith)
taken a (suc n) (suc m) f l = ap (λ (x : List ℕ). f a ∷ x) (taken (suc a) n m f (omega arith))

-- ── Instructions ──────────────────────────────────────────────────────────────────────────

regrouped : (a n w z l : Bytes) → (a ++ n) ++ (w ++ (z ++ l)) ≡ (a ++ (n ++ (w ++ z))) ++ l
regrouped a n w z l =
    append_assoc a n (w ++ (z ++ l)) ∙ ap (λ (x : Bytes). a ++ (n ++ x)) (sym (append_assoc w z l))
    ∙ ap (λ (x : Bytes). a ++ x) (sym (append_assoc n (w ++ z) l)) ∙ sym (append_assoc a (n ++ (w ++ z)) l)

-- the words of a row that may say operands
abbrev three : List ℕ → ℕ → List ℕ
three t i = cell t 9 i 1 ∷ cell t 9 i 2 ∷ cell t 9 i 3 ∷ []

module _ (t : List ℕ) (i c : ℕ) (here : cell t 9 i 0 ≡ c) (low : c < 75) where
  op : Op
  op = op_of c (three t i)

  ns : List ℕ
  ns = operands_of (maxima_of c) (three t i)

  long : length ns ≡ length (maxima_of c)
  unfolding ns
  long = operands_long (maxima_of c) (three t i)

  short : length (maxima_of c) ≤ 3
  unfolding maxima_of
  short = let q = row_of c low in omega (arith, ap length q.maxima, q.short)

  known : T (known_all (maxima_of c))
  known = at_each 75 (λ a. known_all (maxima_of a)) all_known c low

  op_text : line_text (op_line op) ≡ bytes "(op " ++ (name_at c ++ (all_written spaced ns ++ bytes ")"))
  unfolding line_text at_line at_row op op_of ns name_at names text_of
  op_text =
      let q = row_of c low in
      let r = q.this in
      ap (λ (o : Option Row). at_row (render shape_text []) o ns) q.here
      ∙ render_is shape_text [] (op_items r) (ns, tt)
      ∙ ap (λ (b : Bytes). bytes "(op " ++ (b ++ (all_written spaced ns ++ (bytes ")" ++ [])))) (sym (mapped name_bytes [] ops c r q.here))
      ∙ ap (λ (b : Bytes). bytes "(op " ++ (name_at c ++ (all_written spaced ns ++ b))) (append-nil (bytes ")"))

  op_row : (row_says t 9 i (op_words op) ≡ true) → take (length (maxima_of c)) (three t i) ≡ ns
  unfolding by_row op_words op op_of ns
  op_row e =
      taken 1 3 (length (maxima_of c)) (cell t 9 i) short ∙ ap (λ (n : ℕ). tabulate 1 n (cell t 9 i)) (sym long)
      ∙ rest-same (row_told t 9 i (op_words op) e)

  op_row_back : take (length (maxima_of c)) (three t i) ≡ ns → row_says t 9 i (op_words op) ≡ true
  unfolding by_row op_words op op_of ns
  op_row_back e =
      row_tells t 9 i (op_words op)
      (both_same here (ap (λ (n : ℕ). tabulate 1 n (cell t 9 i)) long ∙ sym (taken 1 3 (length (maxima_of c)) (cell t 9 i) short) ∙ e))

  op_test : (h : ℕ) → is_line (op_line op) && has_kind h (named_kind (instr op)) ≡ has_kinds h (maxima_of c) ns
  unfolding is_line at_line at_row op op_of ns maxima_of held
  op_test h =
      let q = row_of c low in
      let r = q.this in
      let l : is_line (op_line op) ≡ true =
      ap (λ (o : Option Row). at_row (admits is_shape true) o ns) q.here ∙ admits_is is_shape true (op_items r) (ns, tt)
      ∙ and_of (ap (λ (ms : List ℕ). are_within ms ns) (sym q.maxima) ∙ within_always (maxima_of c) (three t i)) refl in
      ap (λ (b : Bool). b && has_kind h (named_kind (instr op))) l
      ∙ kinds_by_maxima h op r q.here (long ∙ ap length q.maxima) ∙ ap (λ (ms : List ℕ). has_kinds h ms ns) (sym q.maxima)

  op_by : Told (op_said (table_header t).float c (three t i)) t 9 i op_words (op_passes (table_header t)) op_line op
  unfolding op_said op_passes ns
  op_by =
      says_by (rw (op_said, lt-ltb c 75 low))
      (says_as
      (says_after (bytes "(op " ++ name_at c)
      (says_both (operands_say (table_header t).float (maxima_of c) (three t i) known short) (says_some (bytes ")" ++ (10 ∷ [])))))
      (λ h. (
        (op_row_back h.0.0, op_test (table_header t).float ∙ h.0.1),
        regrouped (bytes "(op ") (name_at c) (all_written spaced ns) (bytes ")") (10 ∷ []) ∙ ap (λ (x : Bytes). x ++ (10 ∷ [])) (sym op_text),
      ))
      (λ h. ((op_row h.0, sym (op_test (table_header t).float) ∙ h.1), tt)))

-- a row that says an op has the code of one
coded : (t : List ℕ) (i : ℕ) → row_says t 9 i (op_words (op_at t i)) ≡ true → cell t 9 i 0 < 75
unfolding by_row op_words op_at op_of
coded t i e = omega (arith, head_same (row_told t 9 i (op_words (op_at t i)) e), limited_le 74 (cell t 9 i 0))

pub op_says : (t : List ℕ) (i : ℕ) → Told (op_said (table_header t).float (cell t 9 i 0) (cells t (row_at 9 i + 1) 3)) t 9 i op_words (op_passes (table_header t)) op_line (op_at t i)
unfolding op_said op_at op tabulate
op_says t i = go (ltb (cell t 9 i 0) 75) refl
  where
    words_are : cells t (row_at 9 i + 1) 3 ≡ three t i
    words_are = cells_are t 9 i 1 3

    go : (b : Bool) → ltb (cell t 9 i 0) 75 ≡ b →
        Told (op_said (table_header t).float (cell t 9 i 0) (cells t (row_at 9 i + 1) 3)) t 9 i op_words (op_passes (table_header t)) op_line (op_at t i)
    go true e =
        let low : cell t 9 i 0 < 75 = ltb-true (cell t 9 i 0) 75 e in
        says_by (ap (op_said (table_header t).float (cell t 9 i 0)) words_are)
        (subst (Told (op_said (table_header t).float (cell t 9 i 0) (three t i)) t 9 i op_words (op_passes (table_header t)) op_line)
        (ap (λ (c : ℕ). op_of c (three t i)) (sym (limited-same 74 (cell t 9 i 0) (omega arith))))
        (op_by t i (cell t 9 i 0) refl low))
    go false e = says_by (rw (op_said, e)) (says_none _ (λ h. no_false (sym e ∙ lt-ltb (cell t 9 i 0) 75 (coded t i h.0))))

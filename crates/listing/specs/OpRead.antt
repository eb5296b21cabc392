-- An op's line, step by step: the end of its name, its operands, its end.
use Rattle.std.specs.Prelude.{◌≡◌, Bool, not, ◌&&◌, length, Option as CodeOption}
use Rattle.std.proofs.Math.Path.{refl, sym, ap}
use Rattle.std.proofs.Common.{◌∙◌, subst, drop_of_length-le, length-append}
use Rattle.std.proofs.Math.Bool.{true, false}
use Rattle.std.proofs.Math.Option.{Option, none, some}
use mathlib.Core.List.{List, [], ◌∷◌, ◌++◌, append_assoc, append-nil}
use Prim.Native.Nat.{ℕ, zero, suc, ◌+◌, ◌-◌, ◌≤◌, ◌<◌}
use native.Mathlib.Omega.{arith}
use Rattle.std.proofs.Math.Numerals.{add-one}
use Rattle.std.proofs.Math.Dec.{T, eqb}
use Rattle.std.specs.Float.Ieee.Fits.{and_l, and_r}
use Rattle.std.proofs.Math.ListN.{get_or, drop, take}
use Rattle.std.proofs.Math.Seq.{drop-cons, take-append_seam}
use borrow.Author.Tests.{eq-eqb}
use Rattle.definition.specs.Basics.{is_member}
use Rattle.definition.specs.Shapes.{same_places}
use Rattle.definition.specs.Format.{Bytes, bytes, form, shape_at, strip, number_at, numbers_at, ◌and_then◌}
use Rattle.definition.specs.Ops.{ops, row, Op}
use Rattle.definition.specs.Read.{Line, op_line, line_forms, op_forms, read_line}
use Rattle.theorems.specs.Keys.{key, apart, apart_from, keys, none_reads}
use Rattle.bytecode.specs.Meaning.{maxima_of}
use Rattle.bytecode.specs.Operands.{row_of}
use Rattle.bytecode.specs.Tables.{all_below, at_each}
use Rattle.bytecode.specs.Names.{names, lookup_from, lookup}
use Rattle.listing.specs.Scan.{Words, joined, admitted, max_code}
use Rattle.listing.specs.Agree.{joined_nothing, joined_both, known_max, known_all, max_number}
use Rattle.listing.specs.Forms.{op_fits}
use Rattle.listing.specs.Fitting.{numbers_fit, within_long}
use Rattle.std.specs.Bool.{then_some}
use Rattle.std.specs.List.{list_all, zip}
use Rattle.std.proofs.lemmas.List.{take_all}
use Rattle.std.proofs.Math.ListN.{length-drop}
use Rattle.std.proofs.Math.Seq.{get_or-drop}
use Rattle.theorems.specs.KindOf.{has_kinds}
use Rattle.listing.specs.Kinds.{is_fine, kinds_all}
use lib.Pointwise.{pointwise}
use Rattle.listing.specs.Find.{whole_line, Entered, entered_none}
use Rattle.bytecode.specs.declared.ops.row.Row.{Row}
use Rattle.listing.specs.declared.entry.Entry.{Entry}
use Rattle.listing.specs.declared.entry.Head.TheVariants as H
use Rattle.listing.specs.Rows.{rowed_none}
use Rattle.listing.specs.Stored.{Stored}
use Rattle.listing.specs.declared.entry.Values.{Values}
use Rattle.listing.specs.OpLines.{name_of, name_front, named_line, closing, after_name, line_of_row, by_name, no_ops, both_whole}

-- ── Maxima ────────────────────────────────────────────────────────────────────────────────

unfoldable no_zero : List ℕ → Bool
no_zero [] = true
no_zero (m ∷ ms) = not (eqb m 0) && no_zero ms

good : ℕ → Bool
good r = no_zero (maxima_of r) && known_all (maxima_of r)

all_good : T (all_below 75 good)
unfolding all_below good no_zero known_all known_max is_member maxima_of ops row
all_good = tt

zero_past : (ms : List ℕ) (j : ℕ) → T (no_zero ms) → get_or ms j 0 ≡ 0 → drop j ms ≡ []
unfolding no_zero
zero_past [] zero t e = refl
zero_past [] (suc j) t e = refl
zero_past (m ∷ ms) zero t e = absurd (subst T (ap not (eq-eqb m 0 e)) (and_l (not (eqb m 0)) (no_zero ms) t))
zero_past (m ∷ ms) (suc j) t e = zero_past ms j (and_r (not (eqb m 0)) (no_zero ms) t) e

known_at : (ms : List ℕ) (j : ℕ) → T (known_all ms) → j < length ms → T (known_max (get_or ms j 0))
unfolding known_all
known_at [] j t h = absurd (omega arith)
known_at (m ∷ ms) zero t h = and_l (known_max m) (known_all ms) t
known_at (m ∷ ms) (suc j) t h = known_at ms j (and_r (known_max m) (known_all ms) t) (omega arith)

inside : (ms : List ℕ) (j : ℕ) → (get_or ms j 0 ≡ 0 → ⊥) → j < length ms
inside [] j n = absurd (n refl)
inside (m ∷ ms) zero n = omega arith
inside (m ∷ ms) (suc j) n = let r : j < length ms = inside ms j n in omega arith

-- ── Operands ──────────────────────────────────────────────────────────────────────────────

-- No maximum is 0: after the last one stands 0,
pub maxima_end : (r j : ℕ) → r < 75 → get_or (maxima_of r) j 0 ≡ 0 → drop j (maxima_of r) ≡ []
unfolding good
maxima_end r j low e = zero_past (maxima_of r) j (and_l (no_zero (maxima_of r)) (known_all (maxima_of r)) (at_each 75 good all_good r low)) e

-- and what is not 0 stands before its end.
pub maxima_here : (r j : ℕ) → (get_or (maxima_of r) j 0 ≡ 0 → ⊥) → j < length (maxima_of r)
maxima_here r j n = inside (maxima_of r) j n

known_here : (r j : ℕ) → r < 75 → j < length (maxima_of r) → T (known_max (get_or (maxima_of r) j 0))
unfolding good
known_here r j low h = known_at (maxima_of r) j (and_r (no_zero (maxima_of r)) (known_all (maxima_of r)) (at_each 75 good all_good r low)) h

pub maxima_short : (r : ℕ) → r < 75 → length (maxima_of r) ≤ 3
unfolding maxima_of
maxima_short r low = let q = row_of r low in omega (arith, ap length q.maxima, q.short)

-- what all maxima read is the values `ws`, and then what those from j on read of the bytes left
pub record Operands (o : Words) (row j : ℕ) (s : Bytes) (old v : Values) : Type 0 where
  pub ws : List ℕ
  pub is : o ≡ joined ws (numbers_at (drop j (maxima_of row)) s)
  pub stored : (vs : List ℕ) → Stored old vs → Stored v (vs ++ ws)

pub operands_start : (row : ℕ) (s : Bytes) (v : Values) → Operands (numbers_at (maxima_of row) s) row 0 s v v
operands_start row s v =
    record { ws = []; is = sym (joined_nothing (numbers_at (maxima_of row) s)); stored = λ vs st. subst (Stored v) (sym (append-nil vs)) st }

module _ (o : Words) (row j : ℕ) (s : Bytes) (old v : Values) (so : Operands o row j s old v) (low : row < 75) where
  abbrev Done : Type 0
  Done = (ws : List ℕ) × (o ≡ some (ws, s)) × ((vs : List ℕ) → Stored old vs → Stored v (vs ++ ws))

  none_left : drop j (maxima_of row) ≡ [] → Done
  unfolding numbers_at joined ◌and_then◌
  none_left e = (so.ws, so.is ∙ ap (λ (ms : List ℕ). joined so.ws (numbers_at ms s)) e ∙ (rw (append-nil so.ws)), so.stored)

  pub operands_all : length (maxima_of row) ≤ j → Done
  operands_all h = none_left (drop_of_length-le (maxima_of row) {i = j} h)

  module _ (l : j < length (maxima_of row)) where
    most : ℕ
    most = get_or (maxima_of row) j 0

    reads : Option (ℕ × Bytes) → Words
    reads x = x and_then λ r. numbers_at (drop (j + 1) (maxima_of row)) r.1 and_then λ q. some (r.0 ∷ q.0, q.1)

    here : o ≡ joined so.ws (reads (number_at (admitted (max_code (get_or (maxima_of row) j 0))) s))
    unfolding numbers_at reads
    here =
        so.is
        ∙ ap (λ (ms : List ℕ). joined so.ws (numbers_at ms s)) (drop-cons (maxima_of row) j 0 l ∙ ap (λ (k : ℕ). get_or (maxima_of row) j 0 ∷ drop k (maxima_of row)) (sym (add-one j)))
        ∙ ap (λ (x : Option (ℕ × Bytes)). joined so.ws (reads x)) (sym (max_number (get_or (maxima_of row) j 0) s (known_here row j low l)))

    pub operand_none : number_at (admitted (max_code (get_or (maxima_of row) j 0))) s ≡ none → o ≡ none
    unfolding reads joined ◌and_then◌
    operand_none e = here ∙ ap (λ (x : Option (ℕ × Bytes)). joined so.ws (reads x)) e

    pub operand_more : (x : ℕ) (r : Bytes) (w : Values) → number_at (admitted (max_code (get_or (maxima_of row) j 0))) s ≡ some (x, r)
        → ((vs : List ℕ) → Stored v vs → Stored w (vs ++ (x ∷ []))) → Operands o row (j + 1) r old w
    unfolding reads joined ◌and_then◌
    operand_more x r w e push =
        record {
          ws = so.ws ++ (x ∷ []);
          is =
              here ∙ ap (λ (y : Option (ℕ × Bytes)). joined so.ws (reads y)) e
              ∙ sym (joined_both so.ws (x ∷ []) (numbers_at (drop (j + 1) (maxima_of row)) r));
          stored = λ vs st. subst (Stored w) (append_assoc vs so.ws (x ∷ [])) (push (vs ++ so.ws) (so.stored vs st));
        }

pub ruleset operand_laws = (rowed_none, operands_start, operands_all, operand_none, operand_more)

-- the kinds that the values of an op name, in the words behind the row's first
pub kinds_stored : (float : ℕ) (row : Row) (v : Values) (vs : List ℕ) → Stored v vs
    → list_all (is_fine float) (zip (maxima_of row.number) (take (length v.words - 1) (drop 1 v.words))) ≡ has_kinds float (maxima_of row.number) vs
kinds_stored float row v vs st =
    let few = maxima_short row.number row.low in
    let all : take (length v.words - 1) (drop 1 v.words) ≡ drop 1 v.words = take_all (length v.words - 1) (drop 1 v.words) (omega (arith, length-drop 1 v.words)) in
    kinds_all float (maxima_of row.number) vs (take (length v.words - 1) (drop 1 v.words)) (omega (arith, ap length all, length-drop 1 v.words, st.long, few))
    (λ i h.
    ap (λ (ws : List ℕ). get_or ws i 0) all
    ∙ get_or-drop 1 v.words i 0
    ∙ ap (λ (k : ℕ). get_or v.words k 0) (let z : 1 + i ≡ i + 1 = omega arith in z)
    ∙ st.here i (omega (arith, few)))

-- ── The whole line ────────────────────────────────────────────────────────────────────────

lookup_below : (n : ℕ) (bs : List Bytes) (t : Bytes) (k : ℕ) → lookup_from n bs t ≡ some k → k < n + length bs
unfolding lookup_from
lookup_below n [] t k e = absurd (let z : ◌≡◌ {A = ℕ} 0 1 = cc in omega arith)
lookup_below n (b ∷ bs) t k e = go (same_places b t) e (λ d. lookup_below (suc n) bs t k d)
  where
    go : (x : Bool) → ◌≡◌ {A = Option ℕ} (elim x [ true ↦ some n | false ↦ lookup_from (suc n) bs t ]) (some k)
        → (lookup_from (suc n) bs t ≡ some k → k < suc n + length bs) → k < n + suc (length bs)
    go true d f = let q : n ≡ k = cc in omega arith
    go false d f = omega (arith, f d)

names_long : length names ≡ 75
unfolding names ops
names_long = refl

pub lookup_low : (t : Bytes) (k : ℕ) → some k ≡ lookup t → k < 75
unfolding lookup
lookup_low t k e = omega (arith, lookup_below 0 names t k (sym e), names_long)

places_are : (xs ys : Bytes) → pointwise eqb xs ys ≡ same_places xs ys
unfolding same_places
places_are [] [] = refl
places_are [] (y ∷ ys) = refl
places_are (x ∷ xs) [] = refl
places_are (x ∷ xs) (y ∷ ys) = ap (λ (b : Bool). eqb x y && b) (places_are xs ys)

pub name_fits : (a : Bytes) (n : ℕ) → n ≡ length (name_of a) → n ≤ length a
name_fits a n k = omega (arith, ap length (name_front a), length-append (name_of a) (drop (length (name_of a)) a))

-- An op's line from its name on.
module _ (a name : Bytes) (n : ℕ) (k : n ≡ length (name_of a)) (f : name ≡ take n a) where
  name_is : name ≡ name_of a
  name_is =
      f ∙ ap (λ (i : ℕ). take i a) k
      ∙ ap (take (length (name_of a))) (name_front a)
      ∙ take-append_seam (name_of a) (drop (length (name_of a)) a)

  pub op_none : lookup name ≡ none → named_line a ≡ none
  unfolding named_line line_of_row
  op_none e = ap (λ (o : Option ℕ). line_of_row o (drop (length (name_of a)) a)) (ap lookup (sym name_is) ∙ e)

  module _ (r : Row) (e : lookup name ≡ some r.number) where
    module _ (rest : Bytes) (d : rest ≡ drop n a) where
      by_row : named_line a ≡ after_name r.number (maxima_of r.number) rest
      unfolding named_line line_of_row
      by_row =
          ap (λ (o : Option ℕ). line_of_row o (drop (length (name_of a)) a)) (ap lookup (sym name_is) ∙ e)
          ∙ ap (after_name r.number (maxima_of r.number)) (ap (λ (i : ℕ). drop i a) (sym k) ∙ sym d)

      pub op_bad : numbers_at (maxima_of r.number) rest ≡ none → named_line a ≡ none
      unfolding after_name ◌and_then◌
      op_bad x = by_row ∙ (rw x)

      module _ (ws : List ℕ) (x : Bytes) (y : numbers_at (maxima_of r.number) rest ≡ some (ws, x)) (v : Values) (st : Stored v ws) where
        closes : named_line a ≡ closing r.number ws x
        unfolding after_name ◌and_then◌
        closes = by_row ∙ (rw y)

        abbrev entry : Entry
        entry = record { head = H.Op r; values = v }

        pub op_entered : (q : CodeOption Entry) (b : Bool) (close : Bytes) → q ≡ then_some b entry → b ≡ pointwise eqb x close → close ≡ 41 ∷ []
            → Entered (named_line a) q
        unfolding closing
        op_entered q b close p z w =
            subst (λ (o : CodeOption Entry). Entered (named_line a) o) (sym p) (go b (sym (places_are x (41 ∷ [])) ∙ ap (pointwise eqb x) (sym w) ∙ sym z))
          where
            go : (b : Bool) → same_places x (41 ∷ []) ≡ b → Entered (named_line a) (then_some b entry)
            go true q =
                let o : Op = record { code = r.number; operands = ws } in (
                  op_line o,
                  ws,
                  closes ∙ (rw (closing, q)),
                  op_fits (11 + r.number) r.number refl r.low o refl (within_long (maxima_of r.number) ws (numbers_fit (maxima_of r.number) rest _ y)),
                  st,
                )
            go false q = closes ∙ (rw (closing, q))

pub ruleset op_laws = (name_fits, op_none, op_bad, entered_none)

-- ── Any line ──────────────────────────────────────────────────────────────────────────────

apart-ops : T (apart_from (bytes "(op ") (keys line_forms))
unfolding apart_from apart keys key line_forms form bytes
apart-ops = tt

-- A line that begins as an op is no other line.
pub as_op : (s rest : Bytes) → strip (bytes "(op ") s ≡ some rest → read_line s ≡ whole_line (op_forms 0 ops) s
unfolding read_line
as_op s rest e =
    both_whole s line_forms (op_forms 0 ops)
    ∙ ap (λ (o : Option Line). elim o as (λ _. Option Line) [ some l ↦ some l | none ↦ whole_line (op_forms 0 ops) s ])
    (none_reads shape_at s rest (bytes "(op ") line_forms e apart-ops)

-- All other lines are no ops.
pub no_op : (s : Bytes) → strip (bytes "(op ") s ≡ none → read_line s ≡ whole_line line_forms s
unfolding read_line
no_op s e =
    both_whole s line_forms (op_forms 0 ops)
    ∙ ap (λ (x : Option Line). elim (whole_line line_forms s) as (λ _. Option Line) [ some l ↦ some l | none ↦ x ]) (no_ops s 0 ops e)
    ∙ alone (whole_line line_forms s)
  where
    alone : (o : Option Line) → ◌≡◌ {A = Option Line} (elim o [ some l ↦ some l | none ↦ none ]) o
    alone none = refl
    alone (some l) = refl

-- What a line is by whether it begins as an op.
module _ (s : Bytes) (q : CodeOption Entry) where
  abbrev op_text : Bytes
  op_text = 40 ∷ 111 ∷ 112 ∷ 32 ∷ []

  pub entered_op : (rest : Bytes) → strip op_text s ≡ some rest → Entered (named_line rest) q → Entered (read_line s) q
  unfolding named_line bytes
  entered_op rest e x = subst (λ (o : Option Line). Entered o q) (sym (as_op s rest e ∙ by_name s rest e)) x

  pub entered_other : strip op_text s ≡ none → Entered (whole_line line_forms s) q → Entered (read_line s) q
  unfolding bytes
  entered_other e x = subst (λ (o : Option Line). Entered o q) (sym (no_op s e)) x

pub ruleset entry_laws = (entered_op, entered_other)

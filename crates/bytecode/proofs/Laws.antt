-- Laws of the accessors, on plain variables.
use mathlib.Core.Path.{◌≡◌, refl, sym, ap, ◌∙◌}
use mathlib.Core.Bool.{Bool, true, false}
use mathlib.Core.Option.{none, some}
use mathlib.Core.List.{List, map}
use Prim.Native.Nat.{ℕ, zero, suc, ◌+◌, ◌/◌, ◌%◌, ◌^◌, ◌≤◌, ◌<◌, min}
use Rattle.std.specs.List.{list_any, range_with_len}
use native.Mathlib.Omega.{arith}
use native.Mathlib.Decide.{dec_lt}
use native.Mathlib.Nat.{zero-add}
use native.Mathlib.Numerals.{add-one}
use borrow.Author.Tests.{lt-ltb, le-ltb}
use lib.Dec.{leb, eqb}
use lib.ListN.{length, get_or, get_elem?, get_or-map, get_or-eq_default, length-map}
use Rattle.definition.specs.Basics.{choose, saturating_add, is_member}
use Rattle.definition.specs.Shapes.{unknown, scalar, composite, Wire, top, from_wire, if_same, is_lacking, top_if, known_wire}
use Rattle.definition.specs.Instructions.{Sig}
use Rattle.definition.specs.Module.{no_sig, under_check, known_sig, known_const, Header as AnyHeader, address_bytes}
use Rattle.definition.specs.Effects.{shape_of, returned, returned_native}
use Rattle.bytecode.specs.Lists.{limited, limited-same, limited-over, tabulate, tabulate-length, tabulate_some, tabulate_none, tabulate-at}
use Rattle.bytecode.specs.Lists.{tabulate-past, tabulate-map}
use Rattle.bytecode.specs.Meaning.{cell, count, word_wire, wire_of, table_instr_at, op_at, op_of, maxima_of, known_natives, known_native_at, known_sigs, known_sig_at, params_at}
use Rattle.bytecode.specs.Meaning.{enums_of, enum_at, table_header, chunk_of, code_of, known_const_at, first_const, const_count, first_at, end_at}
use Rattle.bytecode.specs.Meaning.{enum_sizes_of, address_low, known_of, sig_at, const_at, module_of}
use Rattle.bytecode.specs.Operands.{three_enough}
use Rattle.bytecode.specs.Parts.{any_instr_of, InstrIs, shape_at, header_of, WidthsOf}
use Rattle.bytecode.specs.declared.Instr.{Instr}
use Rattle.bytecode.specs.declared.Header.{Header}
use Rattle.value_layout.specs.declared.Widths.{Widths}

-- ── A shape's word ────────────────────────────────────────────────────────────────────────

module _ (f w : ℕ) where
  pub scalar_lacking : w % 4 ≡ 1 → is_lacking f (w / 4 % 256) ≡ true → unknown ≡ from_wire (known_wire f (word_wire w))
  unfolding word_wire wire_of known_wire top_if from_wire
  scalar_lacking e l = rw (e, l)

  module _ (e : w % 4 ≡ 1) (l : is_lacking f (w / 4 % 256) ≡ false) where
    pub scalar_known : leb (w / 4 % 256) 7 ≡ true → scalar (w / 4 % 256) ≡ from_wire (known_wire f (word_wire w))
    unfolding word_wire wire_of known_wire top_if from_wire if_same
    scalar_known h = rw (e, l, h)

    pub scalar_other : leb (w / 4 % 256) 7 ≡ false → unknown ≡ from_wire (known_wire f (word_wire w))
    unfolding word_wire wire_of known_wire top_if from_wire if_same
    scalar_other h = rw (e, l, h)

  pub flat_known : w % 4 ≡ 2 → leb (w / 4 % 256) 3 ≡ true
      → composite (w / 4 % 256) (limited 4294967295 (w / 1024)) none ≡ from_wire (known_wire f (word_wire w))
  unfolding word_wire wire_of known_wire from_wire if_same
  flat_known e h = rw (e, h)

  pub flat_other : w % 4 ≡ 2 → leb (w / 4 % 256) 3 ≡ false → unknown ≡ from_wire (known_wire f (word_wire w))
  unfolding word_wire wire_of known_wire from_wire if_same
  flat_other e h = rw (e, h)

  other_tag : (m k n : ℕ) → (m ≡ 1 → ⊥) → (m ≡ 2 → ⊥) → unknown ≡ from_wire (known_wire f (wire_of m k n))
  unfolding wire_of known_wire from_wire
  other_tag zero k n p q = refl
  other_tag (suc zero) k n p q = absurd (p refl)
  other_tag (suc (suc zero)) k n p q = absurd (q refl)
  other_tag (suc (suc (suc m))) k n p q = refl

  pub neither : (w % 4 ≡ 1 → ⊥) → (w % 4 ≡ 2 → ⊥) → unknown ≡ from_wire (known_wire f (word_wire w))
  unfolding word_wire
  neither p q = other_tag (w % 4) (w / 4 % 256) (limited 4294967295 (w / 1024)) p q

-- the word of a shape in a table, and the module's own bytes of a float
pub known_by : (t : List ℕ) (f w x : ℕ) → f ≡ (table_header t).float → w ≡ x → from_wire (known_wire f (word_wire w)) ≡ from_wire (known_of t x)
unfolding known_of
known_by t f w x e d = rw (e, d)

pub ruleset word_shapes = (scalar_lacking, scalar_known, scalar_other, flat_known, flat_other, neither)

-- ── An instruction ────────────────────────────────────────────────────────────────────────

pub instr_is : (t : List ℕ) (i : ℕ) (r : Instr) → r.code ≡ limited 74 (cell t 9 i 0)
    → r.a ≡ limited (get_or (maxima_of r.code) 0 0) (cell t 9 i 1)
    → r.b ≡ limited (get_or (maxima_of r.code) 1 0) (cell t 9 i 2)
    → r.c ≡ limited (get_or (maxima_of r.code) 2 0) (cell t 9 i 3) → InstrIs t i r
unfolding any_instr_of table_instr_at op_at op_of
instr_is t i r k a b d =
    let low : r.code < 75 = omega arith in
    record {
      same = rw (a, b, d) (three_enough r.code (cell t 9 i 1) (cell t 9 i 2) (cell t 9 i 3) low ∙ (rw k));
      code_is = k;
      code_low = low;
      a_low = omega arith;
      b_low = omega arith;
      c_low = omega arith;
    }

-- ── Natives and signatures ────────────────────────────────────────────────────────────────

module _ (t : List ℕ) (table k j : ℕ) where
  pub shape_in : k < count t table → from_wire (known_of t (cell t table k j)) ≡ shape_at t table k j
  unfolding shape_at
  shape_in h = rw (shape_at, lt-ltb k (count t table) h)

  pub shape_out : count t table ≤ k → unknown ≡ shape_at t table k j
  unfolding shape_at
  shape_out h = rw (shape_at, le-ltb k (count t table) h)

module _ (t : List ℕ) (k : ℕ) where
  pub native_is : shape_at t 5 k 1 ≡ shape_of (returned_native (get_elem? (known_natives t) k))
  unfolding known_natives known_native_at returned_native shape_of
  native_is = elim (dec_lt k (count t 5)) [
    | yes p ↦ sym (shape_in t 5 k 1 p) ∙ (rw (tabulate_some 0 (count t 5) (known_native_at t) k p, zero-add k))
    | no q ↦ sym (shape_out t 5 k 1 (omega arith)) ∙ (rw (tabulate_none 0 (count t 5) (known_native_at t) k (omega arith)))
  ]

  sig_in : k < count t 6 → get_or (known_sigs t) k no_sig ≡ known_sig_at t k
  unfolding known_sigs
  sig_in h = tabulate-at 0 (count t 6) (known_sig_at t) no_sig k h ∙ ap (known_sig_at t) (zero-add k)

  sig_out : count t 6 ≤ k → get_or (known_sigs t) k no_sig ≡ no_sig
  unfolding known_sigs
  sig_out h = tabulate-past 0 (count t 6) (known_sig_at t) no_sig k h

  pub return_is : shape_at t 6 k 1 ≡ shape_of (returned (get_elem? (known_sigs t) k))
  unfolding known_sigs known_sig_at sig_at known_of known_sig returned shape_of
  return_is = elim (dec_lt k (count t 6)) [
    | yes p ↦ sym (shape_in t 6 k 1 p) ∙ (rw (tabulate_some 0 (count t 6) (known_sig_at t) k p, zero-add k))
    | no q ↦ sym (shape_out t 6 k 1 (omega arith)) ∙ (rw (tabulate_none 0 (count t 6) (known_sig_at t) k (omega arith)))
  ]

  pub resume_is : shape_at t 6 k 2 ≡ from_wire (get_or (known_sigs t) k no_sig).resume
  unfolding known_sig_at sig_at known_of known_sig no_sig from_wire
  resume_is = elim (dec_lt k (count t 6)) [
    | yes p ↦ sym (shape_in t 6 k 2 p) ∙ ap (λ (g : Sig). from_wire g.resume) (sym (sig_in p))
    | no q ↦ sym (shape_out t 6 k 2 (omega arith)) ∙ ap (λ (g : Sig). from_wire g.resume) (sym (sig_out (omega arith)))
  ]

  pub params_in : k < count t 6 → length (get_or (known_sigs t) k no_sig).params ≡ params_at t k
  unfolding known_sig_at sig_at known_sig
  params_in h =
      ap (λ (g : Sig). length g.params) (sig_in h)
      ∙ length-map (tabulate 3 (params_at t k) (λ j. word_wire (cell t 6 k j))) (known_wire (table_header t).float)
      ∙ tabulate-length 3 (params_at t k) (λ j. word_wire (cell t 6 k j))

  pub params_out : count t 6 ≤ k → 0 ≡ length (get_or (known_sigs t) k no_sig).params
  unfolding no_sig
  params_out h = sym (ap (λ (g : Sig). length g.params) (sig_out h))

  param_at : (j : ℕ) → k < count t 6 → j < params_at t k
      → shape_at t 6 k (j + 3) ≡ get_or (map from_wire (known_sig_at t k).params) j unknown
  unfolding known_sig_at sig_at known_of known_sig from_wire
  param_at j h l =
      sym (shape_in t 6 k (j + 3) h)
      ∙ ap (λ (m : ℕ). from_wire (known_of t (cell t 6 k m))) (let e : j + 3 ≡ 3 + j = omega arith in e)
      ∙ ap from_wire (sym (tabulate-at 3 (params_at t k) (λ i. known_of t (cell t 6 k i)) top j l))
      ∙ sym (get_or-map from_wire (tabulate 3 (params_at t k) (λ i. known_of t (cell t 6 k i))) j top)
      ∙ ap (λ (ws : List Wire). get_or (map from_wire ws) j unknown)
      (sym (tabulate-map (known_wire (table_header t).float) 3 (params_at t k) (λ i. word_wire (cell t 6 k i))))

  pub param_is : (j : ℕ) → j < length (get_or (known_sigs t) k no_sig).params
      → shape_at t 6 k (j + 3) ≡ get_or (map from_wire (get_or (known_sigs t) k no_sig).params) j unknown
  param_is j l = elim (dec_lt k (count t 6)) [
    | yes p ↦ param_at j p (omega (arith, params_in p)) ∙ ap (λ (g : Sig). get_or (map from_wire g.params) j unknown) (sym (sig_in p))
    | no q ↦ absurd (omega (arith, params_out (omega arith)))
  ]

  pub param_none : (j : ℕ) → length (get_or (known_sigs t) k no_sig).params ≤ j
      → unknown ≡ get_or (map from_wire (get_or (known_sigs t) k no_sig).params) j unknown
  param_none j l =
      let ps : List Wire = (get_or (known_sigs t) k no_sig).params in
      let e : length (map from_wire ps) ≡ length ps = length-map ps from_wire in
      sym (get_or-eq_default (map from_wire ps) unknown {n = j} (omega arith))

-- ── Enum sizes ────────────────────────────────────────────────────────────────────────────

pub sum_is : (a b : ℕ) → saturating_add a b ≡ limited 4294967295 (a + b)
unfolding saturating_add
sum_is a b = elim (dec_lt 4294967295 (a + b)) [
  | yes p ↦ (rw (limited-over 4294967295 (a + b) p) (omega arith))
  | no q ↦ (rw (limited-same 4294967295 (a + b) (omega arith)) (omega arith))
]

abbrev size_at : List ℕ → ℕ → ℕ
size_at t i = saturating_add (table_header t).word (enum_at t i)

-- whether the size is that of enum i, as the code tests it
abbrev pub has_size : List ℕ → ℕ → ℕ → ℕ → Bool
has_size t w s i = eqb s (min (enum_at t i + w) 4294967295)

module _ (t : List ℕ) (w s : ℕ) (e : w ≡ (table_header t).word) where
  size_same : (i : ℕ) → has_size t w s i ≡ eqb s (size_at t i)
  size_same i = ap (eqb s) (sym (rw (sum_is (table_header t).word (enum_at t i), ← e) (omega arith)))

  sizes_from : (a n : ℕ) → list_any (has_size t w s) (range_with_len a n) ≡ is_member s (tabulate a n (size_at t))
  unfolding tabulate is_member
  sizes_from a zero = refl
  sizes_from a (suc n) = rw (size_same a, sizes_from (a + 1) n, add-one a)

  pub has_sizes : (n : ℕ) → n ≡ count t 4 → list_any (has_size t w s) (range_with_len 0 n) ≡ is_member s (enum_sizes_of t)
  unfolding enum_sizes_of enums_of
  has_sizes n f = rw f (sizes_from 0 (count t 4) ∙ ap (is_member s) (sym (tabulate-map (saturating_add (table_header t).word) 0 (count t 4) (enum_at t))))

-- ── Chunks ────────────────────────────────────────────────────────────────────────────────

module _ (t : List ℕ) (table j k : ℕ) where
  pub end_next : k + 1 < count t 7 → first_at t table j (k + 1) ≡ end_at t table j k
  unfolding end_at choose
  end_next h = rw (lt-ltb (k + 1) (count t 7) h)

  pub end_last : count t 7 ≤ k + 1 → count t table ≡ end_at t table j k
  unfolding end_at choose
  end_last h = rw (le-ltb (k + 1) (count t 7) h)

module _ (t : List ℕ) (k p : ℕ) where
  consts_known : (chunk_of t k).consts ≡ tabulate (first_const t k) (const_count t k) (known_const_at t)
  unfolding chunk_of under_check code_of module_of known_const_at
  consts_known = tabulate-map (known_const (table_header t).float) (first_const t k) (const_count t k) (const_at t)

  pub const_in : (at : ℕ) → at ≡ first_const t k + p → p < const_count t k → some (known_const_at t at) ≡ get_elem? (chunk_of t k).consts p
  const_in at e h =
      ap (λ (m : ℕ). some (known_const_at t m)) e
      ∙ sym (tabulate_some (first_const t k) (const_count t k) (known_const_at t) p h)
      ∙ ap (λ (l : List ℕ). get_elem? l p) (sym consts_known)

  pub const_out : const_count t k ≤ p → none ≡ get_elem? (chunk_of t k).consts p
  const_out h = sym (tabulate_none (first_const t k) (const_count t k) (known_const_at t) p h) ∙ ap (λ (l : List ℕ). get_elem? l p) (sym consts_known)

pub ruleset chunk_consts = (const_in, const_out)

-- ── The widths of a module ─────────────────────────────────────────────────────────────────

module _ (t : List ℕ) (h : Header) (e : header_of h ≡ table_header t) where
  log_is : h.address_log ≡ (table_header t).address_log
  unfolding header_of
  log_is = ap (λ (x : AnyHeader). x.address_log) e

  pub log_low : h.address_log ≤ 6
  log_low = omega (arith, log_is, address_low t)

  pub widths_of : (w : Widths) → w.word ≡ h.word → w.float ≡ h.float → w.address ≡ 2 ^ h.address_log / 8 → WidthsOf (table_header t) w
  unfolding header_of address_bytes
  widths_of w a b c =
      record {
        word_is = a ∙ ap (λ (x : AnyHeader). x.word) e;
        float_is = b ∙ ap (λ (x : AnyHeader). x.float) e;
        address_is = c ∙ ap (λ (n : ℕ). 2 ^ n / 8) log_is;
      }

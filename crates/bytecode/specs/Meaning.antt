-- What a list of words means as tables: a module and its chunks, for any words at all. A number past what a listing may say is cut to the largest
-- that it may say, and a word past the end is 0; so each part has an equation without a premise, and its numbers fit their bits.
use Rattle.std.specs.Prelude.{◌≡◌, Bool, ℕ, zero, suc, ◌+◌, ◌-◌, ◌/◌, ◌%◌, ◌≤◌, ◌<◌, eqb, ltb, length}
use Rattle.std.proofs.Math.Path.{refl, sym, ap}
use Rattle.std.proofs.Common.{◌∙◌}
use Rattle.std.proofs.Math.Bool.{true, false}
use Rattle.std.proofs.Math.Option.{none, some}
use mathlib.Core.List.{List, [], ◌∷◌, map}
use native.Mathlib.Omega.{arith}
use Rattle.std.proofs.Math.ListN.{get_or, get_elem?, get_or-map}
use Rattle.definition.specs.Basics.{choose, saturating_add}
use Rattle.definition.specs.Shapes.{Wire, top, scalar_w, flat_w, known_wire}
use Rattle.definition.specs.Format.{bits}
use Rattle.definition.specs.Instructions.{Sig, Chunk, Instr}
use Rattle.definition.specs.Ops.{Row, ops, Op, instr}
use Rattle.definition.specs.Module.{Slot, shared, private, Shared, Private, Code, Header, Module, under_check, address_bytes, no_sig, known_sig, known_const}
use Rattle.bytecode.specs.Tables.{row_at, cap}
use Rattle.bytecode.specs.Lists.{limited, limited_le, tabulate, tabulate-length, tabulate_some, tabulate_none, tabulate-map}

-- word j of row i of table k; the rows of table k
abbrev pub cell : List ℕ → ℕ → ℕ → ℕ → ℕ
cell t k i j = get_or t (row_at k i + j) 0

unfoldable pub count : List ℕ → ℕ → ℕ
count t k = limited (cap k) (get_or t k 0)

-- ── Entries ───────────────────────────────────────────────────────────────────────────────

unfoldable pub table_header : List ℕ → Header
table_header t =
    record {
      word = limited 8 (cell t 0 0 1);
      float = limited 8 (cell t 0 0 2);
      address_log = limited 6 (cell t 0 0 3);
      shared_bytes = limited (bits 32) (cell t 0 0 4);
      pool_bytes = limited (bits 32) (cell t 0 0 5);
      index_trap = limited (bits 16) (cell t 0 0 6);
      host_trap = limited (bits 16) (cell t 0 0 7);
    }

unfoldable pub slot_of : Bool → Slot
slot_of true = shared
slot_of false = private

unfoldable pub slot_at : List ℕ → ℕ → Slot
slot_at t i = slot_of (eqb (cell t 1 i 0) 0)

unfoldable pub shared_at : List ℕ → ℕ → Shared
shared_at t i =
    record { offset = limited (bits 32) (cell t 2 i 1); kind = limited (bits 8) (cell t 2 i 2); len = limited (bits 16) (cell t 2 i 3) }

unfoldable pub private_at : List ℕ → ℕ → Private
private_at t i = record { slot = limited (bits 16) (cell t 3 i 1); offset = limited (bits 32) (cell t 3 i 2) }

unfoldable pub enum_at : List ℕ → ℕ → ℕ
enum_at t i = limited (bits 32) (cell t 4 i 1)

-- A shape's word: 2 bits say which, then 8 bits of K, then SIZE.
unfoldable pub wire_of : ℕ → ℕ → ℕ → Wire
wire_of zero k n = top
wire_of (suc zero) k n = scalar_w k
wire_of (suc (suc zero)) k n = flat_w k n
wire_of (suc (suc (suc m))) k n = top

unfoldable pub word_wire : ℕ → Wire
word_wire w = wire_of (w % 4) (w / 4 % 256) (limited (bits 32) (w / 1024))

-- 02, S-1: as the walk takes it, a shape of a kind that the module lacks is unknown; and so below, where plain names are what the listing says.
unfoldable pub known_of : List ℕ → ℕ → Wire
known_of t w = known_wire (table_header t).float (word_wire w)

unfoldable pub native_at : List ℕ → ℕ → Wire
native_at t i = word_wire (cell t 5 i 1)

unfoldable pub known_native_at : List ℕ → ℕ → Wire
known_native_at t i = known_of t (cell t 5 i 1)

-- A signature's row: how many shapes, RET, RESUME, the parameters.
unfoldable pub params_at : List ℕ → ℕ → ℕ
params_at t i = limited 16 (cell t 6 i 0 - 2)

unfoldable pub sig_at : List ℕ → ℕ → Sig
sig_at t i =
    record {
      ret = word_wire (cell t 6 i 1);
      resume = word_wire (cell t 6 i 2);
      params = tabulate 3 (params_at t i) (λ j. word_wire (cell t 6 i j));
    }

unfoldable pub known_sig_at : List ℕ → ℕ → Sig
known_sig_at t i = known_sig (table_header t).float (sig_at t i)

unfoldable pub const_at : List ℕ → ℕ → ℕ
const_at t i = limited (bits 8) (cell t 8 i 1)

unfoldable pub known_const_at : List ℕ → ℕ → ℕ
known_const_at t i = known_const (table_header t).float (const_at t i)

-- ── Instructions ──────────────────────────────────────────────────────────────────────────

abbrev pub maxima_in : Row → List ℕ
maxima_in r = r.maxima

-- the largest number that each operand of a row may be
unfoldable pub maxima_of : ℕ → List ℕ
maxima_of c = get_or (map maxima_in ops) c []

-- as many operands as there are maxima, each at most its maximum
unfoldable pub operands_of : List ℕ → List ℕ → List ℕ
operands_of [] ws = []
operands_of (m ∷ ms) [] = 0 ∷ operands_of ms []
operands_of (m ∷ ms) (w ∷ ws) = limited m w ∷ operands_of ms ws

unfoldable pub op_of : ℕ → List ℕ → Op
op_of c ws = record { code = c; operands = operands_of (maxima_of c) ws }

-- A number past the last row counts as the last.
unfoldable pub op_at : List ℕ → ℕ → Op
op_at t i = op_of (limited 74 (cell t 9 i 0)) (cell t 9 i 1 ∷ cell t 9 i 2 ∷ cell t 9 i 3 ∷ [])

unfoldable pub table_instr_at : List ℕ → ℕ → Instr
table_instr_at t i = instr (op_at t i)

-- ── Chunks ────────────────────────────────────────────────────────────────────────────────

-- A chunk's row has LOCALS and the numbers of its first constant and its first instruction; they end where those of the next chunk begin.
unfoldable pub locals_at : List ℕ → ℕ → ℕ
locals_at t k = limited 32 (cell t 7 k 1)

unfoldable pub first_at : List ℕ → ℕ → ℕ → ℕ → ℕ
first_at t table j k = limited (count t table) (cell t 7 k j)

unfoldable pub end_at : List ℕ → ℕ → ℕ → ℕ → ℕ
end_at t table j k = choose (ltb (k + 1) (count t 7)) (first_at t table j (k + 1)) (count t table)

abbrev pub first_const : List ℕ → ℕ → ℕ
first_const t k = first_at t 8 2 k

abbrev pub const_count : List ℕ → ℕ → ℕ
const_count t k = end_at t 8 2 k - first_at t 8 2 k

abbrev pub first_op : List ℕ → ℕ → ℕ
first_op t k = first_at t 9 3 k

abbrev pub op_count : List ℕ → ℕ → ℕ
op_count t k = end_at t 9 3 k - first_at t 9 3 k

unfoldable pub code_of : List ℕ → ℕ → Code
code_of t k =
    record {
      locals = locals_at t k;
      consts = tabulate (first_const t k) (const_count t k) (const_at t);
      ops = tabulate (first_op t k) (op_count t k) (op_at t);
    }

-- ── The module ────────────────────────────────────────────────────────────────────────────

unfoldable pub slots_of : List ℕ → List Slot
slots_of t = tabulate 0 (count t 1) (slot_at t)

unfoldable pub shareds_of : List ℕ → List Shared
shareds_of t = tabulate 0 (count t 2) (shared_at t)

unfoldable pub privates_of : List ℕ → List Private
privates_of t = tabulate 0 (count t 3) (private_at t)

unfoldable pub enums_of : List ℕ → List ℕ
enums_of t = tabulate 0 (count t 4) (enum_at t)

-- "W + MIN" of each enum
unfoldable pub enum_sizes_of : List ℕ → List ℕ
enum_sizes_of t = map (saturating_add (table_header t).word) (enums_of t)

unfoldable pub natives_of : List ℕ → List Wire
natives_of t = tabulate 0 (count t 5) (native_at t)

unfoldable pub known_natives : List ℕ → List Wire
known_natives t = tabulate 0 (count t 5) (known_native_at t)

unfoldable pub sigs_of : List ℕ → List Sig
sigs_of t = tabulate 0 (count t 6) (sig_at t)

unfoldable pub known_sigs : List ℕ → List Sig
known_sigs t = tabulate 0 (count t 6) (known_sig_at t)

unfoldable pub module_of : List ℕ → Module
module_of t =
    record {
      header = table_header t;
      slots = slots_of t;
      shareds = shareds_of t;
      privates = privates_of t;
      enums = enums_of t;
      natives = natives_of t;
      sigs = sigs_of t;
      chunks = tabulate 0 (count t 7) (code_of t);
    }

-- Chunk number k as the walk takes it.
unfoldable pub chunk_of : List ℕ → ℕ → Chunk
chunk_of t k = under_check (module_of t) k (first_op t k) (code_of t k)

unfoldable pub table_chunks : List ℕ → List Chunk
table_chunks t = tabulate 0 (count t 7) (chunk_of t)

-- ── A chunk's parts ───────────────────────────────────────────────────────────────────────

module _ (t : List ℕ) (k : ℕ) where
  pub chunk_word : (chunk_of t k).word ≡ (table_header t).word
  unfolding chunk_of under_check module_of
  chunk_word = refl

  pub chunk_float : (chunk_of t k).float ≡ (table_header t).float
  unfolding chunk_of under_check module_of
  chunk_float = refl

  pub chunk_address : (chunk_of t k).address ≡ address_bytes (table_header t)
  unfolding chunk_of under_check module_of
  chunk_address = refl

  pub chunk_index_trap : (chunk_of t k).index_trap ≡ (table_header t).index_trap
  unfolding chunk_of under_check module_of
  chunk_index_trap = refl

  pub chunk_host_trap : (chunk_of t k).host_trap ≡ (table_header t).host_trap
  unfolding chunk_of under_check module_of
  chunk_host_trap = refl

  pub chunk_enum_sizes : (chunk_of t k).enum_sizes ≡ enum_sizes_of t
  unfolding chunk_of under_check module_of enum_sizes_of
  chunk_enum_sizes = refl

  pub chunk_natives : (chunk_of t k).natives ≡ known_natives t
  unfolding chunk_of under_check module_of natives_of native_at known_natives known_native_at known_of
  chunk_natives = tabulate-map (known_wire (table_header t).float) 0 (count t 5) (native_at t)

  pub chunk_sigs : (chunk_of t k).sigs ≡ known_sigs t
  unfolding chunk_of under_check module_of sigs_of known_sigs known_sig_at
  chunk_sigs = tabulate-map (known_sig (table_header t).float) 0 (count t 6) (sig_at t)

  pub chunk_sig : (chunk_of t k).sig ≡ get_or (known_sigs t) k no_sig
  unfolding chunk_of under_check module_of sigs_of known_sigs known_sig_at no_sig known_sig known_wire
  chunk_sig =
      sym (get_or-map (known_sig (table_header t).float) (sigs_of t) k no_sig)
      ∙ ap (λ (l : List Sig). get_or l k no_sig) (tabulate-map (known_sig (table_header t).float) 0 (count t 6) (sig_at t))

  pub chunk_locals : (chunk_of t k).locals ≡ locals_at t k
  unfolding chunk_of under_check code_of
  chunk_locals = refl

  pub chunk_base : (chunk_of t k).base ≡ first_op t k
  unfolding chunk_of under_check
  chunk_base = refl

-- ── A chunk's instructions ────────────────────────────────────────────────────────────────

module _ (t : List ℕ) (k : ℕ) where
  code_is : (chunk_of t k).code ≡ tabulate (first_op t k) (op_count t k) (table_instr_at t)
  unfolding chunk_of under_check code_of table_instr_at
  code_is = tabulate-map instr (first_op t k) (op_count t k) (op_at t)

  pub code_length : length (chunk_of t k).code ≡ op_count t k
  code_length = ap length code_is ∙ tabulate-length (first_op t k) (op_count t k) (table_instr_at t)

  pub code_some : (p : ℕ) → p < op_count t k → get_elem? (chunk_of t k).code p ≡ some (table_instr_at t (first_op t k + p))
  code_some p h = ap (λ (l : List Instr). get_elem? l p) code_is ∙ tabulate_some (first_op t k) (op_count t k) (table_instr_at t) p h

  pub code_none : (p : ℕ) → op_count t k ≤ p → get_elem? (chunk_of t k).code p ≡ none
  code_none p h = ap (λ (l : List Instr). get_elem? l p) code_is ∙ tabulate_none (first_op t k) (op_count t k) (table_instr_at t) p h

-- ── Bounds ────────────────────────────────────────────────────────────────────────────────

pub count_low : (t : List ℕ) (k : ℕ) → count t k ≤ cap k
unfolding count
count_low t k = limited_le (cap k) (get_or t k 0)

module _ (t : List ℕ) (table j k : ℕ) where
  pub first_low : first_at t table j k ≤ count t table
  unfolding first_at
  first_low = limited_le (count t table) (cell t 7 k j)

  pub end_low : end_at t table j k ≤ count t table
  unfolding end_at choose first_at
  end_low = go (ltb (k + 1) (count t 7))
    where
      go : (b : Bool) → choose b (first_at t table j (k + 1)) (count t table) ≤ count t table
      go true = limited_le (count t table) (cell t 7 (k + 1) j)
      go false = omega arith

pub locals_low : (t : List ℕ) (k : ℕ) → locals_at t k ≤ 32
unfolding locals_at
locals_low t k = limited_le 32 (cell t 7 k 1)

module _ (t : List ℕ) where
  pub word_low : (table_header t).word ≤ 8
  unfolding table_header
  word_low = limited_le 8 (cell t 0 0 1)

  pub float_low : (table_header t).float ≤ 8
  unfolding table_header
  float_low = limited_le 8 (cell t 0 0 2)

  pub address_low : (table_header t).address_log ≤ 6
  unfolding table_header
  address_low = limited_le 6 (cell t 0 0 3)

-- What the code's own types mean.
use Rattle.std.specs.Prelude.{◌≡◌, true, false, ◌||◌, List, [], ◌∷◌, ℕ, ◌+◌, ◌-◌, ◌≤◌, ◌<◌, leb, ltb, eqb, get_or}
use Rattle.definition.specs.Basics.{choose}
use Rattle.definition.specs.Shapes.{Shape, unknown, from_wire}
use Rattle.definition.specs.Instructions.{Instr as AnyInstr, Chunk}
use Rattle.definition.specs.Effects.{need, net}
use Rattle.definition.specs.Ops.{instr}
use Rattle.definition.specs.Module.{Shared, Private, Header as AnyHeader, address_bytes}
use Rattle.value_layout.specs.declared.Widths.{Widths}
use Rattle.bytecode.specs.Tables.{stride, cap, base}
use Rattle.bytecode.specs.Meaning.{cell, count, known_of, first_at, end_at, table_instr_at, op_at, maxima_of}
use Rattle.bytecode.specs.declared.Layout.{Layout}
use Rattle.bytecode.specs.declared.Span.{Span}
use Rattle.bytecode.specs.declared.Header.{Header}
use Rattle.bytecode.specs.declared.SharedEntry.{SharedEntry}
use Rattle.bytecode.specs.declared.PrivateEntry.{PrivateEntry}
use Rattle.bytecode.specs.declared.Instr.{Instr}
use Rattle.bytecode.specs.declared.Effect.{Effect}

-- where table k stands
pub record LayoutIs (k : ℕ) (l : Layout) : Type 0 where
  pub stride_is : l.stride ≡ stride k
  pub cap_is : l.cap ≡ cap k
  pub base_is : l.base ≡ base k

unfoldable pub header_of : Header → AnyHeader
header_of h =
    record {
      word = h.word;
      float = h.float;
      address_log = h.address_log;
      shared_bytes = h.shared_bytes;
      pool_bytes = h.pool_bytes;
      index_trap = h.index_trap;
      host_trap = h.host_trap;
    }

-- the widths of a module
pub record WidthsOf (h : AnyHeader) (w : Widths) : Type 0 where
  pub word_is : w.word ≡ h.word
  pub float_is : w.float ≡ h.float
  pub address_is : w.address ≡ address_bytes h

unfoldable pub shared_of : SharedEntry → Shared
shared_of s = record { offset = s.offset; kind = s.kind; len = s.len }

unfoldable pub private_of : PrivateEntry → Private
private_of s = record { slot = s.slot; offset = s.offset }

-- The shape that word j of row k of a table says. A native's row has one, as word 1; a signature's has RET as word 1, RESUME as word 2, and the
-- parameters follow.
unfoldable pub shape_at : List ℕ → ℕ → ℕ → ℕ → Shape
shape_at t table k j = elim (ltb k (count t table)) [ true ↦ from_wire (known_of t (cell t table k j)) | false ↦ unknown ]

-- The rows of a table that are chunk k's.
pub record SpanIs (t : List ℕ) (table j k : ℕ) (r : Span) : Type 0 where
  pub first_is : r.first ≡ first_at t table j k
  pub count_is : r.count ≡ end_at t table j k - first_at t table j k
  pub within : r.first + r.count ≤ cap table

-- The instruction of a row and three operands; a row that has fewer does not read the rest.
unfoldable pub any_instr_of : Instr → AnyInstr
any_instr_of r = instr (record { code = r.code; operands = r.a ∷ r.b ∷ r.c ∷ [] })

-- Instruction i, and each number within what its row admits.
pub record InstrIs (t : List ℕ) (i : ℕ) (r : Instr) : Type 0 where
  pub same : any_instr_of r ≡ table_instr_at t i
  pub code_is : r.code ≡ (op_at t i).code
  pub code_low : r.code < 75
  pub a_low : r.a ≤ get_or (maxima_of r.code) 0 0
  pub b_low : r.b ≤ get_or (maxima_of r.code) 1 0
  pub c_low : r.c ≤ get_or (maxima_of r.code) 2 0

-- ── Need and net ──────────────────────────────────────────────────────────────────────────

-- how many GetIndex Flat of a kind pushes, and a native call
unfoldable pub index_pushed : ℕ → ℕ
index_pushed k = choose (eqb k 2 || eqb k 3) 7 1

unfoldable pub native_pushed : ℕ → ℕ
native_pushed n = choose (leb 128 n) 2 1

-- I and H are the trap codes IndexOutOfBounds and HostError.
unfoldable pub trap_need : ℕ → ℕ → ℕ → ℕ
trap_need k index host = choose (eqb k index) 5 (choose (eqb k host) 1 0)

-- The definition's need and net, in every chunk with these trap codes.
unfoldable pub EffectIs : Instr → ℕ → ℕ → Effect → Type 0
EffectIs i index host r =
    (c : Chunk) → c.index_trap ≡ index → c.host_trap ≡ host → (r.need ≡ need c (any_instr_of i)) × (r.net ≡ net c (any_instr_of i))

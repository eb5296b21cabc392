-- The instructions of a chunk in the tables, and the part that each has in nesting.
use Rattle.std.specs.Prelude.{◌≡◌, true, false, List, ℕ, ◌+◌, ◌≤◌, length, ltb}
use Rattle.definition.specs.Instructions.{Chunk, control, control_at, Control, onward, stops, returns, resets, end_if, end_loop, ends, if_to, else_to, loop_to}
use Rattle.definition.specs.Instructions.{break_to, break_if_to}
use Rattle.bytecode.specs.Meaning.{table_instr_at, first_op, op_count}
use Rattle.nesting.specs.declared.part.Part.{Part}
use Rattle.nesting.specs.declared.part.Part.TheVariants.{Other, If, Else, EndIf, Loop, EndLoop, Break}
use Rattle.nesting.specs.declared.code.Code.{Code}

-- What ends a path has no part, and both breaks have the same rule.
unfoldable pub part_of : Control → Part
part_of onward = Other
part_of stops = Other
part_of returns = Other
part_of resets = Other
part_of ends = Other
part_of end_if = EndIf
part_of end_loop = EndLoop
part_of (if_to t) = If t
part_of (else_to t) = Else t
part_of (loop_to t) = Loop t
part_of (break_to t) = Break t
part_of (break_if_to t) = Break t

-- where the instruction at p leads
unfoldable pub control_in : Code → ℕ → Control
control_in code p = elim (ltb p code.size) [ true ↦ control (table_instr_at code.tables.now (code.first + p)) | false ↦ ends ]

-- the part of the instruction at p
abbrev pub part_in : Code → ℕ → Part
part_in code p = part_of (control_in code p)

-- The chunk c has these instructions.
pub record Coded (c : Chunk) (code : Code) : Type 0 where
  pub size_is : length c.code ≡ code.size
  pub control_is : (p : ℕ) → control_at c p ≡ control_in code p

-- The instructions of chunk k.
pub record CodeIs (t : List ℕ) (k : ℕ) (r : Code) : Type 0 where
  pub tables_are : r.tables.now ≡ t
  pub first_is : r.first ≡ first_op t k
  pub size_is : r.size ≡ op_count t k
  pub within : r.first + r.size ≤ 4096

-- What a state of the code stands for: a state of the definition, operands top first and as many locals as the chunk has.
use Rattle.std.specs.Prelude.{ℕ, ◌*◌, List, ◌∷◌, ◌++◌, get_or, set, take, drop, replicate, Option as Maybe, Some, None}
use Rattle.std.proofs.Math.Option.{Option, none, some}
use Rattle.definition.specs.Shapes.{Shape as AnyShape, join_all}
use Rattle.definition.specs.Walk.{State as AnyState}
use Rattle.shapes.specs.Model.{shape_of}
use Rattle.shapes.specs.Tabulated.{down, up}
use Rattle.frame.specs.declared.slot.Slot.{Slot}
use Rattle.frame.specs.declared.State.{State}
use Rattle.frame.specs.Words.{slot_of}

-- ── States ────────────────────────────────────────────────────────────────────────────────

-- the first so many of a list of places, where they are known
abbrev pub places_in : Maybe ℕ → List ℕ → Option (List ℕ)
places_in None ps = none
places_in (Some n) ps = some (take n ps)

-- a shape with the first places of a list
unfoldable pub valued : Slot → List ℕ → AnyShape
valued slot ps = shape_of slot.shape (places_in slot.count ps)

-- the value of slot number i, whose places are the sixteen from i * 16 on
abbrev pub value_at : State → ℕ → AnyShape
value_at s i = valued (slot_of (get_or s.slots i 0)) (drop (i * 16) s.places)

-- the operands are slots 0 to height - 1, the last one on top
abbrev pub stack_of : State → List AnyShape
stack_of s = down (value_at s) s.height

-- the locals are the slots from 64 on
abbrev pub locals_of : ℕ → State → List AnyShape
locals_of locals s = up (value_at s) 64 locals

-- both, with so many locals
abbrev pub state_of : ℕ → State → AnyState
state_of locals s = record { stack = stack_of s; locals = locals_of locals s }

-- ── Operations, on the definition's states ────────────────────────────────────────────────

-- one operand more
abbrev pub pushed : AnyShape → AnyState → AnyState
pushed v m = record { stack = v ∷ m.stack; locals = m.locals }

-- the n top operands taken
abbrev pub popped : ℕ → AnyState → AnyState
popped n m = record { stack = drop n m.stack; locals = m.locals }

-- operands taken, then v pushed m times, and w n times above it
abbrev pub replaced : ℕ → AnyShape → ℕ → AnyShape → ℕ → AnyState → AnyState
replaced take v m w n s = record { stack = replicate n w ++ (replicate m v ++ drop take s.stack); locals = s.locals }

-- local i set; one past the last is not written
abbrev pub with_local : ℕ → AnyShape → AnyState → AnyState
with_local i v m = record { stack = m.stack; locals = set m.locals i v }

-- each local joined with another state's
abbrev pub widened : AnyState → AnyState → AnyState
widened m n = record { stack = m.stack; locals = join_all m.locals n.locals }

-- What the word of an operand or local says.
use Rattle.std.specs.Prelude.{ℕ, zero, suc, ◌/◌, ◌%◌, nat_le, if◌then◌else◌, Option, Some, None}
use Rattle.shapes.specs.declared.Shape.{Shape}
use Rattle.shapes.specs.declared.Shape.TheVariants.{Unknown, Scalar, Composite}
use Rattle.frame.specs.declared.slot.Slot.{Slot}

-- which shape: 0 unknown, 1 a scalar, else a composite
unfoldable pub shape_in : ℕ → ℕ → ℕ → Shape
shape_in zero k n = Unknown
shape_in (suc zero) k n = Scalar k
shape_in (suc (suc t)) k n = Composite k n

-- a count of at most 16 says how many places there are, any other that they are unknown
unfoldable pub count_in : ℕ → Option ℕ
count_in n = if nat_le n 16 then Some n else None

-- a word: 2 bits say which shape it is, then 8 of its kind, 8 of the count of places, and the size
unfoldable pub slot_of : ℕ → Slot
slot_of w = record { shape = shape_in (w % 4) (w / 4 % 256) (w / 262144 % 4294967296); count = count_in (w / 1024 % 256) }

-- how many places that is: none where they are unknown
abbrev pub counted : Option ℕ → ℕ
counted None = 0
counted (Some n) = n

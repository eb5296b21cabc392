-- An answer as a row of numbers, for a caller that has no enums.
use Rattle.std.specs.Prelude.{List, [], ◌∷◌, ◌++◌, ℕ, ◌-◌, length, replicate}
use Rattle.definition.specs.Basics.{Result, ok, refused}
use Rattle.definition.specs.Check.{Answer, accepted, refusal}
use Rattle.answer.specs.declared.Numbers.{Numbers}

-- No refusal has the number 0: it stands for acceptance, with chunks and instructions.
unfoldable pub values_of : Answer → List ℕ
values_of (accepted chunks instructions) = 0 ∷ chunks ∷ instructions ∷ []
values_of (refusal r) = r

-- the same of a call that writes: 0 and the length written
unfoldable pub values_of_written : Result ℕ → List ℕ
values_of_written (ok n) = 0 ∷ n ∷ []
values_of_written (refused r) = r

-- The values, how many they are, and zeros after them.
unfoldable pub row_of : List ℕ → Numbers
row_of xs = record { count = length xs; words = xs ++ replicate (8 - length xs) 0 }

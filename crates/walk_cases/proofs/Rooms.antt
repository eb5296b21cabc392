-- What the walkers ask of the first chunk.
use Rattle.std.proofs.Common.{◌≡◌, ℕ, ◌+◌, ◌<◌, ◌≤◌, List, length, take, length-take-le, arith}
use Rattle.std.proofs.Math.Option.{none}
use Rattle.bytecode.specs.Meaning.{table_chunks, count, first_op, op_count}
use Rattle.definition.specs.Check.{nesting_test}
use Rattle.nesting.specs.Chunks.{fine}
use Rattle.walk.specs.Ready.{Roomy}

-- The first of nested chunks, and a sheet for both that is long enough: the first n entries of one.
pub roomy : (t sheet : List ℕ) (n : ℕ) → nesting_test (table_chunks t) ≡ none → 0 < count t 7 → first_op t 0 + op_count t 0 ≤ n → n ≤ length sheet
    → Roomy t (take n sheet) (take n sheet) 0
roomy t sheet n nested some long within =
    let room : first_op t 0 + op_count t 0 ≤ length (take n sheet) = omega (arith, length-take-le n sheet within) in
    record { low = omega arith; heights_long = room; blinds_long = room; nested = (fine t nested 0 some).nested }

-- Where the instructions of a chunk stand among all: within the sheets, where the tables hold a module.
use Rattle.std.specs.Prelude.{◌≡◌, List, ℕ, ◌+◌, ◌≤◌, length, get_or}
use Rattle.std.proofs.Common.{◌∙◌, arith}
use Rattle.definition.specs.Module.{all_ops}
use Rattle.definition.specs.Read.{Reader}
use Rattle.bytecode.specs.Tables.{cap}
use Rattle.bytecode.specs.Lists.{limited-same, tabulate-length}
use Rattle.bytecode.specs.Meaning.{count, code_of, module_of, first_op, op_count, first_low, end_low}
use Rattle.bytecode.specs.Held.{Held, lists, held_count, length-map, op_words}

-- the chunks of the module that the tables mean
pub chunks_counted : (t : List ℕ) → length (module_of t).chunks ≡ count t 7
unfolding module_of
chunks_counted t = tabulate-length 0 (count t 7) (code_of t)

-- Tables that hold a module have a row for each of its instructions,
pub all_counted : (t : List ℕ) (r : Reader) → Held t (lists r) → count t 9 ≡ length (all_ops r.so_far.chunks)
unfolding count lists
all_counted t r h =
    limited-same (cap 9) (get_or t 9 0) (h.full 9 (omega arith))
    ∙ held_count t (lists r) 9 (omega arith) h
    ∙ length-map op_words (all_ops r.so_far.chunks)

-- and those of chunk k lie among them.
pub chunk_within : (t : List ℕ) (r : Reader) → Held t (lists r) → (k : ℕ) → first_op t k + op_count t k ≤ length (all_ops r.so_far.chunks)
chunk_within t r h k = omega (arith, all_counted t r h, first_low t 9 3 k, end_low t 9 3 k)

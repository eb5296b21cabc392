-- The numbers of one chunk of the tables.
use Rattle.std.specs.Prelude.{ℕ, ◌+◌, ◌≤◌, ◌<◌, ◌≡◌, List}
use Rattle.value_layout.specs.Sizes.{Wide}
use Rattle.value_layout.specs.declared.Widths.{Widths}
use Rattle.bytecode.specs.Meaning.{chunk_of, locals_at, first_op, op_count}

-- of chunk k of the tables t; they have at most 32 locals and 4096 instructions
pub record Of (t : List ℕ) (k locals first count : ℕ) (widths : Widths) (index host : ℕ) : Type 0 where
  pub low : k < 64
  pub locals_is : locals ≡ locals_at t k
  pub locals_low : locals ≤ 32
  pub first_is : first ≡ first_op t k
  pub count_is : count ≡ op_count t k
  pub within : first + count ≤ 4096
  pub wide : Wide widths (chunk_of t k)
  pub index_is : (chunk_of t k).index_trap ≡ index
  pub host_is : (chunk_of t k).host_trap ≡ host

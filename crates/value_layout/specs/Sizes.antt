-- What the widths of the code stand for: the bytes of a scalar of each kind, and the widths of a chunk.
use Rattle.std.specs.Prelude.{ℕ, ◌≡◌, get_or}
use Rattle.definition.specs.Shapes.{scalar_widths}
use Rattle.definition.specs.Instructions.{Chunk}
use Rattle.value_layout.specs.declared.Widths.{Widths}

-- bytes of a scalar of a kind; a kind that is not known has none
abbrev pub width_of : Widths → ℕ → ℕ
width_of w kind = get_or (scalar_widths w.word w.float w.address) kind 0

-- the widths are those of a chunk
pub record Wide (w : Widths) (c : Chunk) : Type 0 where
  pub word : c.word ≡ w.word
  pub float : c.float ≡ w.float
  pub address : c.address ≡ w.address

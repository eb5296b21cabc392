-- Laws of widths.
-- Assumes nothing.
use mathlib.Core.Path.{◌≡◌}
use Prim.Native.Nat.{ℕ}
use Rattle.definition.specs.Instructions.{Chunk}
use Rattle.definition.specs.Effects.{width}
use Rattle.value_layout.specs.declared.Widths.{Widths}
use Rattle.value_layout.specs.Sizes.{width_of, Wide}

-- at the widths of a chunk it is the definition's width
pub width_is : (w : Widths) (c : Chunk) (k : ℕ) → Wide w c → width_of w k ≡ width c k
unfolding width
width_is w c k h = rw (h.word, h.float, h.address)

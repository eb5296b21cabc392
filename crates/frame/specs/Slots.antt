-- What the functions over slots leave.
use Rattle.std.specs.Prelude.{ℕ, ◌≤◌, ◌<◌, ◌≡◌}
use Rattle.definition.specs.Shapes.{Shape as AnyShape}
use Rattle.frame.specs.declared.State.{State}
use Rattle.frame.specs.Model.{value_at}

-- r is s with the value v in slot i
pub record Written (s : State) (i : ℕ) (v : AnyShape) (r : State) : Type 0 where
  pub height : r.height ≡ s.height
  pub here : value_at r i ≡ v
  pub there : (j : ℕ) → (j ≡ i → ⊥) → value_at r j ≡ value_at s j

-- r is s with the values of f in the slots from lo up to hi
pub record Changed (s : State) (lo hi : ℕ) (f : ℕ → AnyShape) (r : State) : Type 0 where
  pub height : r.height ≡ s.height
  pub here : (j : ℕ) → lo ≤ j → j < hi → value_at r j ≡ f j
  pub there : (j : ℕ) → (lo ≤ j → j < hi → ⊥) → value_at r j ≡ value_at s j

-- r has what s has in each slot that an operand may stand in, whatever the height
abbrev pub SameOperands : State → State → Type 0
SameOperands s r = (j : ℕ) → j < 64 → value_at r j ≡ value_at s j

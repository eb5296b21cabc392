use Rattle.std.proofs.Common.{◌≡◌, ◌+◌, ◌-◌}
use Rattle.std.proofs.Math.Option.{some}
use Rattle.definition.specs.Instructions.{Chunk}
use Rattle.definition.specs.Effects.{packed}
use Rattle.value_layout.specs.Sizes.{Wide}
use Rattle.shapes.specs.Tabulated.{down}
use Rattle.frame.specs.Model.{value_at}
use Rattle.frame.proofs.Frame.packed_size.Given as goal

abbrev pub invariant-loop-i : goal.invariant-loop-i
invariant-loop-i l = (c : Chunk) → Wide l.w c → packed c (down (λ j. value_at l.s (l.initial.i + j)) (l.i - l.initial.i)) ≡ some l.size

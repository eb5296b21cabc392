use Rattle.std.proofs.Common.{◌-◌}
use Rattle.definition.specs.Instructions.{Chunk}
use Rattle.value_layout.specs.Sizes.{Wide}
use Rattle.shapes.specs.Model.{list_of}
use Rattle.shapes.proofs.Text.{Gathering}
use Rattle.frame.specs.Model.{value_at}
use Rattle.frame.proofs.Frame.built_text_layout.Given as goal

abbrev pub invariant-loop-i : goal.invariant-loop-i
invariant-loop-i l = (c : Chunk) → Wide l.w c → Gathering c (value_at l.s) l.initial.i (l.i-end - l.initial.i) (l.i - l.initial.i) l.at l.whole (list_of l.held)

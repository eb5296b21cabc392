-- The first numbers are put. Assumes nothing.
use Rattle.std.proofs.Common.{◌≡◌, take}
use Rattle.std.specs.List.{flat_map}
use Rattle.definition.specs.Write.{spaced}
use Rattle.text_out.specs.Text.{with_text}
use Rattle.printed.proofs.put_numbers.Given as goal

abbrev pub invariant-loop-n : goal.invariant-loop-n
invariant-loop-n l = l.text ≡ with_text l.initial.text (flat_map spaced (take l.n-index l.numbers))

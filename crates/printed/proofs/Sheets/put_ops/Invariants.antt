-- The lines of the first i instructions are put. Assumes nothing.
use Rattle.std.proofs.Common.{◌≡◌}
use Rattle.definition.specs.Printed.{print_ops}
use Rattle.text_out.specs.Text.{with_text}
use Rattle.printed.specs.Texts.{checked}
use Rattle.printed.proofs.Sheets.put_ops.Given as goal

abbrev pub invariant-loop-i : goal.invariant-loop-i
invariant-loop-i l = l.text ≡ with_text l.initial.text (print_ops (checked l.self) l.k l.base 0 l.i)

-- The first letters are put. Assumes nothing.
use Rattle.std.proofs.Common.{◌≡◌, take}
use Rattle.bytecode.specs.Names.{name_at}
use Rattle.text_out.specs.Text.{with_text}
use Rattle.writer.proofs.put_name.Given as goal

abbrev pub invariant-loop-j : goal.invariant-loop-j
invariant-loop-j l = l.text ≡ with_text l.initial.text (take l.j (name_at l.row.number))

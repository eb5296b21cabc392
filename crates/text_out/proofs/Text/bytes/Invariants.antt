-- The bytes before this one are put.
use Rattle.std.proofs.Common.{◌≡◌, take}
use Rattle.text_out.specs.Text.{with_text}
use Rattle.text_out.proofs.Text.bytes.Given as goal

abbrev pub invariant-loop-b : goal.invariant-loop-b
invariant-loop-b l = l.self ≡ with_text l.initial.self (take l.b-index l.text)

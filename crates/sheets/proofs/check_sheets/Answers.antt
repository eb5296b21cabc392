-- `sheets::check_sheets` meets its contract. Assumes nothing.
use Rattle.std.proofs.Common.{rules, arith}
use Rattle.std.proofs.lemmas.Grind.{common_steps}
use Rattle.definition.specs.Basics.{unless}
use Rattle.definition.specs.Check.{sheets_test}
use Rattle.answer.specs.Answer.{found_in_none, numbers, fields, with_chunk}
use Rattle.sheets.proofs.check_sheets.Goals as goal

pub returns-then-length-instructions : goal.returns-then-length-instructions
unfolding found_in_none numbers fields with_chunk sheets_test unless
returns-then-length-instructions c = search rules

pub returns : goal.returns
unfolding found_in_none numbers fields with_chunk sheets_test unless
returns c = grind (arith, common_steps)

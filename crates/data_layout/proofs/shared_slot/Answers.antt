-- `data_layout::shared_slot` meets its contract. Assumes nothing.
use Rattle.std.proofs.Common.{rules}
use Rattle.answer.specs.Answer.{found_in_none, numbers, fields, with_chunk}
use Rattle.definition.specs.Basics.{unless}
use Rattle.definition.specs.Layout.{shared_fits}
use Rattle.bytecode.specs.Parts.{shared_of}
use Rattle.data_layout.proofs.shared_slot.Goals as goal

pub returns-in-Some : goal.returns-in-Some
unfolding found_in_none numbers fields with_chunk shared_fits shared_of unless
returns-in-Some c = search rules

pub returns-in_default : goal.returns-in_default
unfolding found_in_none numbers fields with_chunk shared_fits shared_of unless
returns-in_default c = search rules

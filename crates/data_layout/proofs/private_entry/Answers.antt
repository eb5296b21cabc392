-- `data_layout::private_entry` meets its contract. Assumes nothing.
use Rattle.std.proofs.Common.{rules}
use Rattle.answer.specs.Answer.{found_in_none, numbers, fields, with_chunk}
use Rattle.definition.specs.Basics.{first, unless}
use Rattle.definition.specs.Layout.{entry_test}
use Rattle.bytecode.specs.Parts.{private_of}
use Rattle.data_layout.proofs.private_entry.Goals as goal

pub returns-else-entry-pool : goal.returns-else-entry-pool
unfolding found_in_none numbers fields with_chunk entry_test first unless private_of
returns-else-entry-pool c = search rules

pub returns : goal.returns
unfolding found_in_none numbers fields with_chunk entry_test first unless private_of
returns c = search rules

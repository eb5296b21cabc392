-- `data_layout::private_order` meets its contract. Assumes nothing.
use Rattle.std.proofs.Common.{rules}
use Rattle.answer.specs.Answer.{found_in_none, numbers, fields, with_chunk}
use Rattle.definition.specs.Basics.{first, unless}
use Rattle.definition.specs.Layout.{order_test}
use Rattle.bytecode.specs.Parts.{private_of}
use Rattle.data_layout.specs.Answer.{before_of}
use Rattle.data_layout.proofs.private_order.Goals as goal

pub returns-in_default : goal.returns-in_default
unfolding found_in_none numbers fields with_chunk order_test before_of first unless private_of
returns-in_default c = search rules

pub returns-in_default-2 : goal.returns-in_default-2
unfolding found_in_none numbers fields with_chunk order_test before_of first unless private_of
returns-in_default-2 c = search rules

pub returns : goal.returns
unfolding found_in_none numbers fields with_chunk order_test before_of first unless private_of
returns c = search rules

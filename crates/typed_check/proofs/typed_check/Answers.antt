-- `typed_check::typed_check` meets its contract. Assumes nothing.
use Rattle.typed_check.proofs.typed_check.Goals as goal

pub returns : goal.returns
returns c = record { equal = c.check_into.ensures.equal; sound = c.check_into.ensures.sound.0 }

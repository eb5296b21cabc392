use Rattle.std.proofs.Common.{refl}
use Rattle.frame.proofs.Stores.{empty_law}
use Rattle.frame.proofs.Frame.new.Goals as goal

pub returns-clause-state : goal.returns-clause-state
returns-clause-state c locals l = empty_law _ _ locals l refl

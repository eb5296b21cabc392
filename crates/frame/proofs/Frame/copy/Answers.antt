use Rattle.frame.proofs.Stores.{copy_law}
use Rattle.frame.proofs.Frame.copy.Goals as goal

pub returns-clause-state : goal.returns-clause-state
returns-clause-state c = copy_law c.args.self.now.state c.args.other.now.state c.copy_slots.new.self c.copy_slots-2.new.self c.args.locals.count c.args.other.now.low c.args.locals.few c.copy_slots.ensures c.copy_slots-2.ensures

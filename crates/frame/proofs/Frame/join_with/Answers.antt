use Rattle.frame.proofs.Joins.{join_law}
use Rattle.frame.proofs.Frame.join_with.Goals as goal

pub returns-clause-state : goal.returns-clause-state
returns-clause-state c = join_law c.args.self.now.state c.args.other.now.state c.join_slots.new.self c.join_slots-2.new.self c.args.locals.count c.args.self.now.low c.requires c.args.locals.few c.join_slots.ensures c.join_slots-2.ensures

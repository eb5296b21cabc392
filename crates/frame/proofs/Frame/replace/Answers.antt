use Rattle.frame.proofs.Stores.{replace_law}
use Rattle.frame.proofs.Frame.replace.Goals as goal

pub returns-clause-state : goal.returns-clause-state
returns-clause-state c n l = replace_law c.args.self.now.state c.fill.new.self c.fill-2.new.self _ _ _ _ _ c.requires.taken c.requires.room c.fill.ensures c.fill-2.ensures n l

use Rattle.bytecode.proofs.Laws.{instr_is}
use Rattle.bytecode.proofs.instr_at.Goals as goal

pub returns : goal.returns
returns c = instr_is c.args.t.now c.args.i _ (cc) (cc) (cc) (cc)

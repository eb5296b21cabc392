use Rattle.stagecheck_c.proofs.Laws.{write_all, back_all, again_all}
use Rattle.stagecheck_c.proofs.stagecheck_write.Goals as goal

pub returns-clause-write_given : goal.returns-clause-write_given
returns-clause-write_given c = rw c.give.ensures.0 (write_all c.args.tables.now c.args.out.now _ c.write-written.result c.from.result _ c.from.ensures c.give.ensures.1 c.write-written.ensures.equal)

pub returns-clause-back_given : goal.returns-clause-back_given
returns-clause-back_given c = rw c.give.ensures.0 (back_all c.args.tables.now c.args.out.now _ c.write-written.result c.from.result _ c.from.ensures c.give.ensures.1 c.write-written.ensures.written_back.0)

pub returns-clause-again_given : goal.returns-clause-again_given
returns-clause-again_given c = again_all c.args.tables.now c.args.out.now _ c.write-written.result c.from.result _ c.from.ensures c.give.ensures.1 c.write-written.ensures.equal c.write-written.ensures.written_back.1

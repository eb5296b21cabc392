use Rattle.stagecheck_c.proofs.Laws.{read_all}
use Rattle.stagecheck_c.proofs.stagecheck_read.Goals as goal

pub returns : goal.returns
returns c = rw c.give.ensures.0 (read_all _ c.read_into-read.result c.from.result _ _ c.read_into-read.ensures c.from.ensures c.give.ensures.1)

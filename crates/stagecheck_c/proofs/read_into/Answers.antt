use borrow.Author.Rules.{rules}
use Rattle.stagecheck_c.proofs.Laws.{read_ok, read_err}
use Rattle.stagecheck_c.proofs.read_into.Goals as goal

pub returns-in-Ok : goal.returns-in-Ok
returns-in-Ok c = read_ok c.args.listing.now c.read.result c.read.new.t c.read.ensures.0 c.counts.result c.in-Ok.is c.read.ensures.1 c.counts.ensures

pub returns-in-Err : goal.returns-in-Err
returns-in-Err c = rw c.from.ensures (read_err c.args.listing.now c.read.result c.read.new.t c.read.ensures.0 c.in-Err.refusal _ c.in-Err.is (search rules))

use Rattle.bytecode.proofs.Table.{op_is}
use Rattle.bytecode.proofs.ops.row.Row.op.Goals as goal

pub returns : goal.returns
returns c = op_is _ _ c.args.self.low

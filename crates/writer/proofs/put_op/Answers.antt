-- A code that no op has. Assumes nothing.
use Rattle.writer.proofs.Steps.{puts_no_op}
use Rattle.writer.proofs.put_op.Goals as goal

pub returns-in_err-row : goal.returns-in_err-row
returns-in_err-row c = rw c.from_residual.ensures (puts_no_op c.args.t.now c.args.i _ c.cell-code.ensures _ c.in_err-row.ensures)

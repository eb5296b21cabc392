-- Assumes nothing.
use Rattle.std.proofs.Common.{◌+◌, arith}
use Rattle.writer.proofs.Steps.{puts_line, puts_lost_line}
use Rattle.writer.proofs.put_line.Goals as goal

pub returns-in_err-put_form : goal.returns-in_err-put_form
returns-in_err-put_form c =
    rw c.from_residual-in_err-put_form.ensures
    (puts_lost_line c.args.t.now c.args.k c.args.i _ c.cell.ensures _ c.in_ok-form.ensures (c.row_place-first.result + 1) (c.row_place-first.result + 1 + c.in_ok-form.values) (omega arith) (omega arith) (omega (arith, c.in_ok-form.ensures.2)) _ _ c.in_err-put_form.ensures)

pub returns : goal.returns
returns c =
    puts_line c.args.t.now c.args.k c.args.i _ c.cell.ensures _ c.in_ok-form.ensures (c.row_place-first.result + 1) (c.row_place-first.result + 1 + c.in_ok-form.values) (omega arith) (omega arith) (omega (arith, c.in_ok-form.ensures.2)) _ _ _ c.in_ok-put_form.ensures c.byte.ensures

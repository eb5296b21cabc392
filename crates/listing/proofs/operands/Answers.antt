use Rattle.std.proofs.Common.{rules, arith, ap, length}
use Rattle.listing.specs.Rows.{rowed_none}
use Rattle.listing.specs.OpRead.{operands_all, operand_none}
use Rattle.listing.proofs.operands.Goals as goal

pub returns-in_err-value : goal.returns-in_err-value
returns-in_err-value c =
    rowed_none _ _ _ _ c.from_residual.ensures
    (operand_none _ _ _ _ _ _ c.loop-most.invariant c.args.row.low (omega (arith, ap length c.maxima-most-items.ensures)) (search rules))

pub returns : goal.returns
returns c = operands_all _ _ _ _ _ _ c.loop-most.invariant c.args.row.low (omega (arith, ap length c.maxima-most-items.ensures))

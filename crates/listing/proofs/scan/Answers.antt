use Rattle.std.proofs.Common.{rules, arith}
use Rattle.listing.proofs.Texts.{strip_no}
use Rattle.listing.specs.Rows.{rowed_none, byte_not, value_none, sofar_done}
use Rattle.listing.proofs.scan.Goals as goal

pub returns-in_err-line : goal.returns-in_err-line
returns-in_err-line c =
    rowed_none _ _ _ _ c.from_residual.ensures
    (byte_not _ _ _ _ _ c.loop-codes.invariant c.in-len1-up.len_at_least (omega arith) (strip_no _ _ c.in_err-line.ensures.cases))

pub returns-in_err-value : goal.returns-in_err-value
returns-in_err-value c =
    rowed_none _ _ _ _ c.from_residual-in_err-value.ensures
    (value_none _ _ _ _ _ c.loop-codes.invariant c.in-len1-up.len_at_least (omega arith) (search rules) (search rules))

pub returns : goal.returns
returns c = sofar_done _ _ _ _ _ c.loop-codes.invariant c.in_default.len_below

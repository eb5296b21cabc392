-- A Trap, and a BreakIf that is refused.
use Rattle.std.proofs.lemmas.Result.{err_from_is_err_and}
use Rattle.blocks.proofs.Steps.{trap_refused, trap_passed, break_if_refused}
use Rattle.blocks.proofs.leaf_at.Goals as goal

pub returns-in_err-guard_at-in-64-clause-leads : goal.returns-in_err-guard_at-in-64-clause-leads
returns-in_err-guard_at-in-64-clause-leads c target there end bl =
    let a = c.args in
    let p = err_from_is_err_and c.from_residual.result c.from_residual.ensures.1 in
    rw (p.1, p.2) (trap_refused a.v.now.x.now a.v.now.ip a.v.now.floor.height a.s.now.state a.s.now.low _ _ _ a.code target there end bl _ c.need_at.ensures.need c.in-64.is _ c.in_err-guard_at-in-64.ensures)

pub returns-in_ok-guard_at-in-64-clause-leads : goal.returns-in_ok-guard_at-in-64-clause-leads
returns-in_ok-guard_at-in-64-clause-leads c target there end bl =
    let a = c.args in
    trap_passed a.v.now.x.now a.v.now.ip a.v.now.floor.height a.s.now.state a.s.now.low _ _ _ a.code target there end bl _ c.need_at.ensures.need c.in-64.is c.in_ok-guard_at-in-64.ensures

pub returns-in_err-guard_at-in-66-clause-leads : goal.returns-in_err-guard_at-in-66-clause-leads
returns-in_err-guard_at-in-66-clause-leads c target there end bl =
    let a = c.args in
    let p = err_from_is_err_and c.from_residual-in_err-guard_at-in-66.result c.from_residual-in_err-guard_at-in-66.ensures.1 in
    rw (p.1, p.2) (break_if_refused a.v.now.x.now a.v.now.ip a.v.now.floor.height a.s.now.state a.s.now.low _ _ _ a.code target there end bl c.in-66.is _ c.in_err-guard_at-in-66.ensures)

use Rattle.std.proofs.Common.{◌≤◌, sym, ◌∙◌, rules, arith}
use Rattle.std.proofs.lemmas.Result.{err_from_is_err_and}
use Rattle.stretch.proofs.Laws.{running_on, running_end, running_refused}
use Rattle.stretch.proofs.Refused.{refused_at}
use Rattle.stretch.proofs.step.Goals as goal

pub returns-in_err-examine-clause-ran : goal.returns-in_err-examine-clause-ran
returns-in_err-examine-clause-ran c =
    let a = c.args in
    let l = c.loop-ip in
    let p = err_from_is_err_and c.from_residual.result c.from_residual.ensures.1 in
    rw (p.1, p.2)
    (running_refused a.x.now a.ips.start a.ips.end a.floor.height _ _ l.ip l.s.state _ l.invariant.2 (search rules) c.loop-ip-test.true _ c.instr_at-i.ensures (sym c.is_straight.ensures ∙ c.if-not-is_straight.false) _ _ c.in_err-examine.ensures)

pub returns-in_err-examine-clause-stopped : goal.returns-in_err-examine-clause-stopped
returns-in_err-examine-clause-stopped c =
    let a = c.args in
    let l = c.loop-ip in
    let p = err_from_is_err_and c.from_residual.result c.from_residual.ensures.1 in
    let from : a.ips.start ≤ l.ip = search rules in
    let e = refused_at a.x.now _ l.ip a.floor.height l.s.state _ _ c.in_err-examine.ensures in
    rw (p.1, p.2) (omega (arith, e, from), omega (arith, e, c.loop-ip-test.true))

pub loop-ip-preserved : goal.loop-ip-preserved
loop-ip-preserved c =
    let a = c.args in
    let l = c.loop-ip in (
      search rules,
      search rules,
      running_on a.x.now a.ips.start a.ips.end a.floor.height _ _ l.ip l.s.state _ l.invariant.2 (search rules) c.loop-ip-test.true _ c.instr_at-i.ensures (sym c.is_straight.ensures ∙ c.if-not-is_straight.false) _ c.in_ok-examine.ensures _ c.met_unknown-blind.ensures _ c.mark.ensures,
    )

pub returns-clause-ran : goal.returns-clause-ran
returns-clause-ran c =
    let a = c.args in
    let l = c.loop-ip in
    running_end a.x.now a.ips.start a.ips.end a.floor.height _ _ l.ip l.s.state _ l.invariant.2 (search rules) (omega arith)

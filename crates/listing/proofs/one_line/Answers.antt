use Rattle.std.specs.Prelude.{◌≡◌, Err}
use Rattle.std.proofs.Common.{rules, subst}
use Rattle.bytecode.specs.Lists.{ok_had, err_lacked}
use Rattle.listing.specs.Find.{Entered}
use Rattle.listing.specs.Step.{step_unread, line_misplaced, line_close, line_full, line_limit, line_stored}
use Rattle.listing.proofs.one_line.Goals as goal

pub returns-in_err-entry-clause-step : goal.returns-in_err-entry-clause-step
returns-in_err-entry-clause-step c = λ q p held sound.
    let e = err_lacked _ _ _ c.in_err-entry.ensures.value in
    let r : c.from_residual.result ≡ Err c.in_err-entry.field-0.0 = search rules in
    rw (r, e.1) (step_unread _ q _ (subst (Entered _) e.0 c.read_entry.ensures) _)

pub returns-then-not-may_stand-clause-step : goal.returns-then-not-may_stand-clause-step
returns-then-not-may_stand-clause-step c = λ q p held sound.
    line_misplaced _ q _ _ _ _ _ (subst (Entered _) (ok_had _ _ _ c.in_ok-entry.ensures.value) c.read_entry.ensures) p held sound _ c.float_of.ensures _ c.may_stand.ensures (search rules) _

pub returns-in_default-clause-step : goal.returns-in_default-clause-step
returns-in_default-clause-step c = λ q p held sound.
    line_close _ q _ _ _ _ _ (subst (Entered _) (ok_had _ _ _ c.in_ok-entry.ensures.value) c.read_entry.ensures) p held sound _ c.float_of.ensures _ c.may_stand.ensures (search rules) _ c.after-next.ensures c.in_default.ensures

pub returns-then-cap_of-t-clause-step : goal.returns-then-cap_of-t-clause-step
returns-then-cap_of-t-clause-step c = λ q p held sound.
    line_full _ q _ _ _ _ _ (subst (Entered _) (ok_had _ _ _ c.in_ok-entry.ensures.value) c.read_entry.ensures) p held sound _ c.float_of.ensures _ c.may_stand.ensures (search rules) _ c.after-next.ensures
    _ c.in-Some.ensures.0 c.in-Some.ensures.1 _ c.cap_of.ensures c.if-cap_of-t.true _

pub returns-in-Some-own_limit-clause-step : goal.returns-in-Some-own_limit-clause-step
returns-in-Some-own_limit-clause-step c = λ q p held sound.
    line_limit _ q _ _ _ _ _ (subst (Entered _) (ok_had _ _ _ c.in_ok-entry.ensures.value) c.read_entry.ensures) p held sound _ c.float_of.ensures _ c.may_stand.ensures (search rules) _ c.after-next.ensures
    _ c.in-Some.ensures.0 c.in-Some.ensures.1 _ c.cap_of.ensures c.if-cap_of-t.false _ c.own_limit.ensures _ c.in-Some-own_limit.is _

pub returns-clause-step : goal.returns-clause-step
returns-clause-step c = λ q p held sound.
    line_stored _ q _ _ _ _ _ (subst (Entered _) (ok_had _ _ _ c.in_ok-entry.ensures.value) c.read_entry.ensures) p held sound _ c.float_of.ensures _ c.may_stand.ensures (search rules) _ c.after-next.ensures
    _ c.in-Some.ensures.0 c.in-Some.ensures.1 _ c.cap_of.ensures c.if-cap_of-t.false _ c.own_limit.ensures c.in_default-own_limit.is
    _ _ c.row_words-row.ensures c.append.ensures

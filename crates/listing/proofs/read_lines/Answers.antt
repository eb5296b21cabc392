use Rattle.std.specs.Prelude.{◌≡◌, Err}
use Rattle.std.proofs.Common.{rules, tests, subst}
use Rattle.bytecode.specs.Lists.{ok_had, err_lacked}
use Rattle.listing.proofs.Places.{end_is}
use Rattle.listing.specs.Reads.{FirstLine, no_lf, all_read, end_missing, line_refused, line_done}
use Rattle.listing.proofs.read_lines.Goals as goal

pub returns-in_err-line : goal.returns-in_err-line
returns-in_err-line c =
    let e = err_lacked _ _ _ c.in_err-line.ensures.value in
    let r : c.from_residual.result ≡ Err c.in_err-line.field-0.0 = search rules in
    rw (r, e.1) (no_lf _ _ _ _ _ c.loop-bytes.invariant (subst (FirstLine _) e.0 c.first_line.ensures) (search (rules, tests)) _)

pub returns-in_err-place : goal.returns-in_err-place
returns-in_err-place c =
    let f = subst (FirstLine _) (ok_had _ _ _ c.in_ok-line.ensures.value) c.first_line.ensures in
    let g = c.loop-bytes.invariant in
    let e : c.from_residual-in_err-place.result ≡ Err c.in_err-place.field-0.0 = search rules in
    rw e (line_refused _ _ _ _ _ g _ _ f.0 f.1 _ _ (c.in_err-place.ensures.step g.reader g.place_is g.held g.sound) _)

pub loop-bytes-preserved : goal.loop-bytes-preserved
loop-bytes-preserved c =
    let f = subst (FirstLine _) (ok_had _ _ _ c.in_ok-line.ensures.value) c.first_line.ensures in
    let g = c.loop-bytes.invariant in
    line_done _ _ _ _ _ g _ _ f.0 f.1 _ _ (c.in_ok-place.ensures.step g.reader g.place_is g.held g.sound)

pub returns-then-eq : goal.returns-then-eq
returns-then-eq c = all_read _ _ _ _ _ c.loop-bytes.invariant (search (rules, tests)) (search (rules, tests, end_is))

pub returns-else-eq : goal.returns-else-eq
returns-else-eq c = end_missing _ _ _ _ _ c.loop-bytes.invariant (search (rules, tests)) (search (rules, tests, end_is)) _

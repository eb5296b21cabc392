-- The answer is the definition's, and so it holds both ways. Assumes nothing.
use Rattle.std.specs.Prelude.{◌≡◌, Err}
use Rattle.std.proofs.Common.{rules}
use Rattle.bytecode.specs.Lists.{ok_had, err_lacked}
use Rattle.writer.proofs.Whole.{none_written, short_written, room_written, both_ways}
use Rattle.writer.proofs.write.Goals as goal

pub returns-in_err-length-clause-written_back : goal.returns-in_err-length-clause-written_back
returns-in_err-length-clause-written_back c =
    let e = err_lacked c.put_listing.result _ _ c.in_err-length.ensures.value in
    let r : c.from_residual.result ≡ Err c.in_err-length.field-0.0 = search rules in
    both_ways c.args.t.now c.args.out.now c.from_residual.result c.args.out.now
    (rw (r, e.1) (none_written c.args.t.now _ _ _ c.put_listing.ensures c.args.out.now e.0))

pub returns-then-out-length-clause-written_back : goal.returns-then-out-length-clause-written_back
returns-then-out-length-clause-written_back c =
    both_ways c.args.t.now c.args.out.now _ _
    (short_written c.args.t.now _ _ _ c.put_listing.ensures _ (ok_had _ _ _ c.in_ok-length.ensures.value) c.args.out.now c.if-out-length.true)

pub returns-clause-written_back : goal.returns-clause-written_back
returns-clause-written_back c =
    both_ways c.args.t.now c.args.out.now _ _
    (room_written c.args.t.now _ _ _ c.put_listing.ensures _ (ok_had _ _ _ c.in_ok-length.ensures.value) c.args.out.now _ _ c.if-out-length.false c.put_listing-2.ensures)

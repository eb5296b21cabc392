-- `data_layout::private_entries` meets its contract. Assumes nothing.
use Rattle.std.proofs.Common.{◌≡◌, ◌+◌, length, Some, refl, sym, ◌∙◌, arith}
use Rattle.std.proofs.Math.Option.{none}
use Rattle.std.proofs.lemmas.Result.{err_from_is_err_and}
use Rattle.definition.specs.Basics.{first}
use Rattle.definition.specs.Layout.{order_test, private_test}
use Rattle.bytecode.specs.Tables.{cap}
use Rattle.bytecode.specs.Meaning.{count_low, table_header, slots_of, privates_of}
use Rattle.bytecode.specs.Parts.{private_of}
use Rattle.answer.specs.Answer.{found_in_none}
use Rattle.data_layout.specs.Answer.{before_of}
use Rattle.data_layout.proofs.Laws.{private_left, private_start, private_next, private_end, pool_is}
use Rattle.data_layout.proofs.private_entries.Goals as goal
use Rattle.data_layout.proofs.private_entries.Goals.{After-private_entry}

-- both tests of entry i, and then those of the entries after it
next : (c : After-private_entry) → private_test (length (slots_of c.args.t.now)) (table_header c.args.t.now).pool_bytes 0 none (privates_of c.args.t.now)
    ≡ first (first (found_in_none c.private_entry.result) (order_test c.loop-i.i (before_of c.loop-i.before) (private_of c.private_at-entry.result)))
    (private_left c.args.t.now (c.loop-i.i + 1) (before_of (Some c.private_at-entry.result)))
next c =
    private_next c.args.t.now c.loop-i.i c.loop-i.before (omega (arith, c.count-i-end.ensures)) c.loop-i.invariant c.count-slots.result c.header_at-pool.result.pool_bytes c.count-slots.ensures
    (pool_is c.args.t.now c.header_at-pool.result c.header_at-pool.ensures) c.private_at-entry.result c.private_at-entry.ensures c.private_entry.result c.private_entry.ensures

pub loop-i-init : goal.loop-i-init
loop-i-init c = private_start c.args.t.now

pub private_at-entry-requires : goal.private_at-entry-requires
unfolding cap
private_at-entry-requires c = omega (arith, c.count-i-end.ensures, count_low c.args.t.now 3)

pub returns-in_err-private_entry : goal.returns-in_err-private_entry
unfolding found_in_none first
returns-in_err-private_entry c =
    let p = err_from_is_err_and c.from_residual.result c.from_residual.ensures.1 in
    rw (p.1, p.2) (sym (next (goal.at.returns-in_err-private_entry c).After-private_entry ∙ rw c.in_err-private_entry.was refl))

pub returns-in_err-private_order : goal.returns-in_err-private_order
unfolding found_in_none first
returns-in_err-private_order c =
    let p = err_from_is_err_and c.from_residual-in_err-private_order.result c.from_residual-in_err-private_order.ensures.1 in
    rw (p.1, p.2)
    (sym (next (goal.at.returns-in_err-private_order c).After-private_entry ∙ rw (c.in_ok-private_entry.was, ← c.private_order.ensures, c.in_err-private_order.was) refl))

pub loop-i-preserved : goal.loop-i-preserved
unfolding found_in_none first
loop-i-preserved c =
    next (goal.at.loop-i-preserved c).After-private_entry ∙ rw (c.in_ok-private_entry.was, ← c.private_order.ensures, c.in_ok-private_order.was) refl

pub returns : goal.returns
returns c = private_end c.args.t.now c.loop-i.i c.loop-i.before (omega (arith, c.count-i-end.ensures)) c.loop-i.invariant

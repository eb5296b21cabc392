-- `data_layout::shared_slots` meets its contract. Assumes nothing.
use Rattle.std.proofs.Common.{◌≡◌, ◌+◌, refl, sym, ◌∙◌, arith}
use Rattle.std.proofs.lemmas.Result.{err_from_is_err_and}
use Rattle.definition.specs.Basics.{first}
use Rattle.definition.specs.Layout.{shared_test}
use Rattle.bytecode.specs.Tables.{cap}
use Rattle.bytecode.specs.Meaning.{count_low, table_header, shareds_of}
use Rattle.answer.specs.Answer.{found_in_none}
use Rattle.data_layout.proofs.Laws.{shared_left, shared_start, shared_next, shared_end, buffer_is}
use Rattle.data_layout.proofs.shared_slots.Goals as goal
use Rattle.data_layout.proofs.shared_slots.Goals.{After-shared_slot}

-- the test of entry i, and then those after it
next : (c : After-shared_slot) → shared_test (table_header c.args.t.now) 0 (shareds_of c.args.t.now) ≡ first (found_in_none c.shared_slot.result) (shared_left c.args.t.now (c.loop-i.i + 1))
next c =
    shared_next c.args.t.now c.loop-i.i (omega (arith, c.count-i-end.ensures)) c.loop-i.invariant _ (buffer_is c.args.t.now c.header_at-buffer.result c.header_at-buffer.ensures)
    c.shared_at-entry.result c.shared_at-entry.ensures c.size_of.result (c.size_of.ensures (table_header c.args.t.now) c.widths-widths.ensures) c.shared_slot.result c.shared_slot.ensures

pub loop-i-init : goal.loop-i-init
loop-i-init c = shared_start c.args.t.now

pub shared_at-entry-requires : goal.shared_at-entry-requires
unfolding cap
shared_at-entry-requires c = omega (arith, c.count-i-end.ensures, count_low c.args.t.now 2)

pub returns-in_err-shared_slot : goal.returns-in_err-shared_slot
unfolding found_in_none first
returns-in_err-shared_slot c =
    let p = err_from_is_err_and c.from_residual.result c.from_residual.ensures.1 in
    rw (p.1, p.2) (sym (next (goal.at.returns-in_err-shared_slot c).After-shared_slot ∙ rw c.in_err-shared_slot.was refl))

pub loop-i-preserved : goal.loop-i-preserved
unfolding found_in_none first
loop-i-preserved c = next (goal.at.loop-i-preserved c).After-shared_slot ∙ rw c.in_ok-shared_slot.was refl

pub returns : goal.returns
returns c = shared_end c.args.t.now c.loop-i.i (omega (arith, c.count-i-end.ensures)) c.loop-i.invariant

use Rattle.std.proofs.Common.{ℕ, ◌+◌, ◌-◌, refl, sym, ap, ◌∙◌, Option as Maybe, Ok, Err, arith}
use Rattle.std.proofs.lemmas.Result.{err_from_is_err_and}
use Rattle.definition.specs.Walk.{State as AnyState, no_break}
use Rattle.theorems.specs.Fuel.{full}
use Rattle.shapes.specs.Cover.{covers_all}
use Rattle.frame.specs.Model.{state_of}
use Rattle.answer.specs.Answer.{fields}
use Rattle.rules.specs.Answers.{chunk_in}
use Rattle.stretch.specs.Stretch.{leads, sheets_of}
use Rattle.stretch.proofs.Codes.{leads_here}
use Rattle.blocks.specs.Outcomes.{standing, breaks_of}
use Rattle.walk.proofs.Cycle as Cycle
use Rattle.walk.proofs.+walkers.Goals as goal

-- ── The instruction ───────────────────────────────────────────────────────────────────────

pub block_at-loop_at-requires : goal.block_at-loop_at-requires
unfolding leads
block_at-loop_at-requires t c = let r = c.requires in (omega (arith, c.args.v.now.inside), (r.placed, r.here.2 ∙ ap (λ (k : ℕ). leads k c.args.v.now.target) c.in-69.is))

pub block_at-if_at-requires : goal.block_at-if_at-requires
unfolding leads
block_at-if_at-requires t c = let r = c.requires in (omega (arith, c.args.v.now.inside), (r.placed, r.here.2 ∙ ap (λ (k : ℕ). leads k c.args.v.now.target) c.in-65.is))

pub block_at-returns-in-69 : goal.block_at-returns-in-69
unfolding leads
block_at-returns-in-69 t c = let a = c.args in Cycle.turned a.v.now.x.now a.v.now.ip a.v.now.floor.height _ a.code 69 a.v.now.target _ _ c.in-69.is (c.loop_at.ensures a.v.now.floor.height (breaks_of a.v.now.x.now.locals.count a.b.now))

pub block_at-returns-in-65 : goal.block_at-returns-in-65
unfolding leads
block_at-returns-in-65 t c = let a = c.args in Cycle.turned a.v.now.x.now a.v.now.ip a.v.now.floor.height _ a.code 65 a.v.now.target _ _ c.in-65.is c.if_at.ensures

pub if_at-returns-in_err-guard_at : goal.if_at-returns-in_err-guard_at
if_at-returns-in_err-guard_at t c =
    let a = c.args in
    let p = err_from_is_err_and c.from_residual.result c.from_residual.ensures.1 in
    rw (p.1, p.2) (Cycle.if_stopped a.v.now.x.now a.v.now.ip a.v.now.floor.height a.s.now.state a.s.now.low _ _ _ _ a.v.now.target c.requires.here _ _ c.in_err-guard_at.ensures)

pub if_at-returns-in-None : goal.if_at-returns-in-None
if_at-returns-in-None t c =
    let a = c.args in
    let x = a.v.now.x.now in
    Cycle.if_went x a.v.now.ip a.v.now.floor.height a.s.now.state a.s.now.low _ _ _ _ a.v.now.target c.requires.here _ _ _ c.in_ok-guard_at.ensures (c.pop.ensures.state x.locals.count) c.one_arm.ensures

pub if_at-returns-in-Some : goal.if_at-returns-in-Some
if_at-returns-in-Some t c =
    let a = c.args in
    let x = a.v.now.x.now in
    Cycle.if_went x a.v.now.ip a.v.now.floor.height a.s.now.state a.s.now.low _ _ _ _ a.v.now.target c.requires.here _ _ _ c.in_ok-guard_at.ensures (c.pop.ensures.state x.locals.count) c.two_arms.ensures

-- ── A stretch ─────────────────────────────────────────────────────────────────────────────

pub interp_region-returns-in_err-ip : goal.interp_region-returns-in_err-ip
interp_region-returns-in_err-ip t c =
    let a = c.args in
    let p = err_from_is_err_and c.from_residual.result c.from_residual.ensures.1 in
    rw (p.1, p.2) (Cycle.walking_refused a.x.now a.ips.start a.ips.end a.floor.height _ c.loop-ip.ip _ c.loop-ip.invariant c.requires _ (standing a.x.now.locals.count c.step.new.s.state c.loop-ip.b c.step.new.heights c.step.new.blinds) c.in_err-ip.ensures.ran)

pub interp_region-loop-ip-preserved-then-is_straight : goal.interp_region-loop-ip-preserved-then-is_straight
interp_region-loop-ip-preserved-then-is_straight t c =
    let a = c.args in
    Cycle.walking_ran a.x.now a.ips.start a.ips.end a.floor.height _ c.loop-ip.ip _ c.loop-ip.invariant c.requires c.loop-ip.s.state c.step.new.s.state _ refl _ c.in_ok-ip.ensures.ran c.step.auto.heights c.step.auto.blinds

pub interp_region-invariant_of-v : goal.interp_region-invariant_of-v
interp_region-invariant_of-v t c = record { inside = omega (arith, c.loop-ip-test.true, c.requires.inside) }

pub interp_region-block_at-requires : goal.interp_region-block_at-requires
interp_region-block_at-requires t c =
    let a = c.args in
    let x = a.x.now in
    let i = c.instr_at-i in (
      omega (arith, c.loop-ip-test.true, c.loop-ip.invariant.onward, c.requires.inside),
      (
        Cycle.placed_here x a.ips.start a.ips.end a.floor.height _ c.loop-ip.ip _ c.loop-ip.invariant c.requires refl refl,
        (i.ensures.code_low, sym c.is_straight.ensures ∙ c.if-is_straight.false, leads_here x.tables.now _ i.result i.ensures),
      ),
    )

pub interp_region-returns-in_err-next : goal.interp_region-returns-in_err-next
interp_region-returns-in_err-next t c =
    let a = c.args in
    let p = err_from_is_err_and c.from_residual-in_err-next.result c.from_residual-in_err-next.ensures.1 in
    rw (p.1, p.2)
    (Cycle.walking_stopped a.x.now a.ips.start a.ips.end a.floor.height _ c.loop-ip.ip _ c.loop-ip.invariant c.requires c.loop-ip-test.true _ _ (leads_here a.x.now.tables.now _ c.instr_at-i.result c.instr_at-i.ensures) _ _ c.block_at.ensures _ c.in_err-next.was)

pub interp_region-returns-in_default : goal.interp_region-returns-in_default
interp_region-returns-in_default t c =
    let a = c.args in
    Cycle.walking_ended a.x.now a.ips.start a.ips.end a.floor.height _ c.loop-ip.ip _ c.loop-ip.invariant c.requires c.loop-ip-test.true _ _ (leads_here a.x.now.tables.now _ c.instr_at-i.result c.instr_at-i.ensures) _ _ c.block_at.ensures (c.in_ok-next.was ∙ ap (λ (o : Maybe ℕ). Ok o) c.in_default.is)

pub interp_region-loop-ip-smaller : goal.interp_region-loop-ip-smaller
interp_region-loop-ip-smaller t c =
    let a = c.args in
    let goes = Cycle.walking_goes a.x.now a.ips.start a.ips.end a.floor.height _ c.loop-ip.ip _ c.loop-ip.invariant c.requires c.loop-ip-test.true _ _ (leads_here a.x.now.tables.now _ c.instr_at-i.result c.instr_at-i.ensures) _ _ c.block_at.ensures c.in-Some.next (c.in_ok-next.was ∙ ap (λ (o : Maybe ℕ). Ok o) c.in-Some.is) in
    omega (arith, c.loop-ip-test.true, goes)

pub interp_region-loop-ip-preserved : goal.interp_region-loop-ip-preserved
interp_region-loop-ip-preserved t c =
    let a = c.args in
    Cycle.walking_past a.x.now a.ips.start a.ips.end a.floor.height _ c.loop-ip.ip _ c.loop-ip.invariant c.requires c.loop-ip-test.true _ _ (leads_here a.x.now.tables.now _ c.instr_at-i.result c.instr_at-i.ensures) _ _ c.block_at.ensures c.in-Some.next (c.in_ok-next.was ∙ ap (λ (o : Maybe ℕ). Ok o) c.in-Some.is) c.block_at.auto.heights c.block_at.auto.blinds

pub interp_region-returns : goal.interp_region-returns
interp_region-returns t c = let a = c.args in Cycle.walking_end a.x.now a.ips.start a.ips.end a.floor.height _ c.loop-ip.ip _ c.loop-ip.invariant (omega (arith, c.loop-ip-test.false))

-- ── Arms ──────────────────────────────────────────────────────────────────────────────────

pub one_arm-interp_region-requires : goal.one_arm-interp_region-requires
one_arm-interp_region-requires t c =
    let a = c.args in
    let r = c.requires in
    let q = Cycle.one_arm_in a.v.now.x.now a.v.now.target a.v.now.ip a.v.now.inside r.placed.nested r.here.0 r.here.1 in (
      omega (arith, q.0, q.1),
      record { placed = r.placed; from = a.v.now.ip + 1; arm = q.2; after = omega arith; before = omega (arith, q.0); inside = q.1 },
    )

pub one_arm-overflow_add-target : goal.one_arm-overflow_add-target
one_arm-overflow_add-target t c =
    let a = c.args in
    let r = c.requires in
    let q = Cycle.one_arm_in a.v.now.x.now a.v.now.target a.v.now.ip a.v.now.inside r.placed.nested r.here.0 r.here.1 in
    omega (arith, q.1, a.v.now.x.now.of.within)

pub one_arm-returns-in_err-flow : goal.one_arm-returns-in_err-flow
one_arm-returns-in_err-flow t c =
    let a = c.args in
    let r = c.requires in
    let p = err_from_is_err_and c.from_residual.result c.from_residual.ensures.1 in
    rw (p.1, p.2) (Cycle.one_refused a.v.now.x.now a.v.now.target a.v.now.ip a.v.now.inside r.placed.nested r.here.0 r.here.1 a.v.now.floor.height _ (standing a.v.now.x.now.locals.count c.interp_region.new.s.state c.interp_region.new.b c.interp_region.new.heights c.interp_region.new.blinds) _ c.in_err-flow.ensures _)

pub one_arm-returns-in_err-met : goal.one_arm-returns-in_err-met
one_arm-returns-in_err-met t c =
    let a = c.args in
    let r = c.requires in
    let p = err_from_is_err_and c.from_residual-in_err-met.result c.from_residual-in_err-met.ensures.1 in
    rw (p.1, p.2) (Cycle.one_joined a.v.now.x.now a.v.now.target a.v.now.ip a.v.now.inside r.placed.nested r.here.0 r.here.1 a.v.now.floor.height _ _ _ c.in_ok-flow.ensures (Err c.in_err-met.field-0.0) _ c.in_err-met.ensures)

pub one_arm-returns : goal.one_arm-returns
one_arm-returns t c =
    let a = c.args in
    let r = c.requires in
    rw c.onward.ensures (Cycle.one_joined a.v.now.x.now a.v.now.target a.v.now.ip a.v.now.inside r.placed.nested r.here.0 r.here.1 a.v.now.floor.height _ _ _ c.in_ok-flow.ensures (Ok c.in_ok-met.met) _ c.in_ok-met.ensures)

pub two_arms-overflow_sub-target : goal.two_arms-overflow_sub-target
two_arms-overflow_sub-target t c =
    let a = c.args in
    let r = c.requires in
    let q = Cycle.two_arms_in a.v.now.x.now a.v.now.target a.v.now.ip a.v.now.inside r.placed.nested r.here.0 a.closer r.here.1 in
    omega (arith, q.0)

pub two_arms-overflow_add-closer : goal.two_arms-overflow_add-closer
two_arms-overflow_add-closer t c =
    let a = c.args in
    let r = c.requires in
    let q = Cycle.two_arms_in a.v.now.x.now a.v.now.target a.v.now.ip a.v.now.inside r.placed.nested r.here.0 a.closer r.here.1 in
    omega (arith, q.2, a.v.now.x.now.of.within)

pub two_arms-interp_region-requires : goal.two_arms-interp_region-requires
two_arms-interp_region-requires t c =
    let a = c.args in
    let r = c.requires in
    let q = Cycle.two_arms_in a.v.now.x.now a.v.now.target a.v.now.ip a.v.now.inside r.placed.nested r.here.0 a.closer r.here.1 in (
      omega (arith, q.0, q.1, q.2),
      record { placed = r.placed; from = a.v.now.ip + 1; arm = q.3; after = omega arith; before = omega (arith, q.0); inside = omega (arith, q.1, q.2) },
    )

pub two_arms-interp_region-requires-2 : goal.two_arms-interp_region-requires-2
two_arms-interp_region-requires-2 t c =
    let a = c.args in
    let r = c.requires in
    let q = Cycle.two_arms_in a.v.now.x.now a.v.now.target a.v.now.ip a.v.now.inside r.placed.nested r.here.0 a.closer r.here.1 in
    let first = c.interp_region in (
      omega (arith, q.0, q.1, q.2),
      record {
        placed = Cycle.placed_by a.v.now.x.now a.heights.now a.blinds.now _ _ first.auto.heights first.auto.blinds r.placed;
        from = a.v.now.target;
        arm = q.4;
        after = omega arith;
        before = q.1;
        inside = q.2;
      },
    )

pub two_arms-returns-in_err-first : goal.two_arms-returns-in_err-first
two_arms-returns-in_err-first t c =
    let a = c.args in
    let r = c.requires in
    let n = c.interp_region.new in
    let p = err_from_is_err_and c.from_residual.result c.from_residual.ensures.1 in
    rw (p.1, p.2) (Cycle.then_refused a.v.now.x.now a.v.now.target a.v.now.ip a.v.now.inside r.placed.nested r.here.0 a.closer r.here.1 a.v.now.floor.height _ (standing a.v.now.x.now.locals.count n.s.state n.b n.heights n.blinds) _ c.in_err-first.ensures _)

pub two_arms-returns-in_err-second : goal.two_arms-returns-in_err-second
two_arms-returns-in_err-second t c =
    let a = c.args in
    let r = c.requires in
    let n = c.interp_region.new in
    let m = c.interp_region-2.new in
    let p = err_from_is_err_and c.from_residual-in_err-second.result c.from_residual-in_err-second.ensures.1 in
    rw (p.1, p.2)
    (Cycle.else_refused a.v.now.x.now a.v.now.target a.v.now.ip a.v.now.inside r.placed.nested r.here.0 a.closer r.here.1 a.v.now.floor.height _ (standing a.v.now.x.now.locals.count n.s.state n.b n.heights n.blinds) _ c.in_ok-first.ensures
    (standing a.v.now.x.now.locals.count m.s.state m.b m.heights m.blinds) _ c.in_err-second.ensures _)

pub two_arms-returns-in_err-met : goal.two_arms-returns-in_err-met
two_arms-returns-in_err-met t c =
    let a = c.args in
    let r = c.requires in
    let n = c.interp_region.new in
    let m = c.interp_region-2.new in
    let p = err_from_is_err_and c.from_residual-in_err-met.result c.from_residual-in_err-met.ensures.1 in
    rw (p.1, p.2)
    (Cycle.both_joined a.v.now.x.now a.v.now.target a.v.now.ip a.v.now.inside r.placed.nested r.here.0 a.closer r.here.1 a.v.now.floor.height _ (standing a.v.now.x.now.locals.count n.s.state n.b n.heights n.blinds) _ c.in_ok-first.ensures
    (standing a.v.now.x.now.locals.count m.s.state m.b m.heights m.blinds) _ c.in_ok-second.ensures (Err c.in_err-met.field-0.0) _ c.in_err-met.ensures)

pub two_arms-returns : goal.two_arms-returns
two_arms-returns t c =
    let a = c.args in
    let r = c.requires in
    let n = c.interp_region.new in
    let m = c.interp_region-2.new in
    rw c.onward.ensures
    (Cycle.both_joined a.v.now.x.now a.v.now.target a.v.now.ip a.v.now.inside r.placed.nested r.here.0 a.closer r.here.1 a.v.now.floor.height _ (standing a.v.now.x.now.locals.count n.s.state n.b n.heights n.blinds) _ c.in_ok-first.ensures
    (standing a.v.now.x.now.locals.count m.s.state m.b m.heights m.blinds) _ c.in_ok-second.ensures (Ok c.in_ok-met.met) _ c.in_ok-met.ensures)

-- ── Passes ────────────────────────────────────────────────────────────────────────────────

pub passes_at-interp_region-requires : goal.passes_at-interp_region-requires
passes_at-interp_region-requires t c =
    let a = c.args in
    let r = c.requires in
    let l = c.passes in (
      omega (arith, r.inside.0, r.inside.1),
      record {
        placed = Cycle.placed_by a.v.now.x.now a.heights.now a.blinds.now l.heights l.blinds l.invariant.1.heights_same l.invariant.1.blinds_same r.placed;
        from = a.v.now.ip + 1;
        arm = Cycle.loop_arm_in a.v.now.x.now a.v.now.ip a.v.now.target (omega (arith, r.inside.0, r.inside.1)) r.inside.2;
        after = omega arith;
        before = omega (arith, r.inside.0);
        inside = omega (arith, r.inside.1);
      },
    )

pub passes_at-returns-in_err-flow : goal.passes_at-returns-in_err-flow
passes_at-returns-in_err-flow t c =
    let a = c.args in
    let x = a.v.now.x.now in
    let l = c.passes in
    let n = c.interp_region.new in
    let p = err_from_is_err_and c.from_residual.result c.from_residual.ensures.1 in
    rw (p.1, p.2)
    (Cycle.pass_refused x a.v.now.ip a.v.now.target a.s.now.state _ (sheets_of l.heights l.blinds) l.head.state l.left l.invariant.1 _ l.invariant.0 n.s.state (breaks_of x.locals.count n.b) (sheets_of n.heights n.blinds) _ c.in_err-flow.ensures)

pub passes_at-returns-in_default : goal.passes_at-returns-in_default
passes_at-returns-in_default t c =
    let a = c.args in
    let x = a.v.now.x.now in
    let l = c.passes in
    let n = c.interp_region.new in
    c.leave_head.ensures _ ∙ Cycle.pass_no_end x a.v.now.ip a.v.now.target a.s.now.state _ (sheets_of l.heights l.blinds) l.head.state l.left l.invariant.1 _ l.invariant.0 n.s.state (breaks_of x.locals.count n.b) (sheets_of n.heights n.blinds) _ c.in_ok-flow.ensures c.in_default.is

pub passes_at-returns-then-not-same_stack : goal.passes_at-returns-then-not-same_stack
unfolding fields
passes_at-returns-then-not-same_stack t c =
    let a = c.args in
    let x = a.v.now.x.now in
    let l = c.passes in
    let n = c.interp_region.new in
    rw c.not_neutral.ensures
    (Cycle.pass_not_neutral x a.v.now.ip a.v.now.target a.s.now.state _ (sheets_of l.heights l.blinds) l.head.state l.left l.invariant.1 _ l.invariant.0 n.s.state (breaks_of x.locals.count n.b) (sheets_of n.heights n.blinds) _ c.in_ok-flow.ensures c.in-Falls.is
    (sym c.same_stack.ensures ∙ c.if-not-same_stack.true))

pub passes_at-returns-then-covers_locals : goal.passes_at-returns-then-covers_locals
unfolding covers_all
passes_at-returns-then-covers_locals t c =
    let a = c.args in
    let x = a.v.now.x.now in
    let l = c.passes in
    let n = c.interp_region.new in
    c.leave_loop.ensures _
    ∙ Cycle.pass_stable x a.v.now.ip a.v.now.target a.s.now.state _ (sheets_of l.heights l.blinds) l.head.state l.left l.invariant.1 _ l.invariant.0 n.s.state (breaks_of x.locals.count n.b) (sheets_of n.heights n.blinds) _ c.in_ok-flow.ensures c.in-Falls.is
    (sym c.same_stack.ensures ∙ c.if-not-same_stack.false) (sym c.covers_locals.ensures ∙ c.if-covers_locals.true)

pub passes_at-returns-then-left-eq0 : goal.passes_at-returns-then-left-eq0
unfolding covers_all
passes_at-returns-then-left-eq0 t c =
    let a = c.args in
    let x = a.v.now.x.now in
    let l = c.passes in
    let n = c.interp_region.new in
    c.last_pass.ensures
    ∙ Cycle.pass_last x a.v.now.ip a.v.now.target a.s.now.state _ (sheets_of l.heights l.blinds) l.head.state l.left l.invariant.1 _ l.invariant.0 n.s.state (breaks_of x.locals.count n.b) (sheets_of n.heights n.blinds) _ c.in_ok-flow.ensures c.in-Falls.is
    (sym c.same_stack.ensures ∙ c.if-not-same_stack.false) (sym c.covers_locals.ensures ∙ c.if-covers_locals.false) c.if-left-eq0.true

pub passes_at-passes-preserved : goal.passes_at-passes-preserved
unfolding covers_all
passes_at-passes-preserved t c =
    let a = c.args in
    let x = a.v.now.x.now in
    let l = c.passes in
    let n = c.interp_region.new in (
      c.copy.ensures.state,
      Cycle.pass_again x a.v.now.ip a.v.now.target a.s.now.state _ (sheets_of l.heights l.blinds) l.head.state l.left l.invariant.1 _ l.invariant.0 n.s.state (breaks_of x.locals.count n.b) (sheets_of n.heights n.blinds) _ c.in_ok-flow.ensures c.in-Falls.is
          (sym c.same_stack.ensures ∙ c.if-not-same_stack.false) (sym c.covers_locals.ensures ∙ c.if-covers_locals.false) c.if-left-eq0.false c.join_locals.new.self.state c.join_locals.ensures.height c.join_locals.ensures.state
          c.interp_region.auto.heights c.interp_region.auto.blinds,
    )

-- ── A loop ────────────────────────────────────────────────────────────────────────────────

pub loop_at-passes_at-requires : goal.loop_at-passes_at-requires
loop_at-passes_at-requires t c =
    let a = c.args in
    let r = c.requires in
    let q = Cycle.loop_in a.v.now.x.now a.v.now.ip a.v.now.target a.v.now.inside r.here r.placed.nested in (
      omega (arith, q.0, q.1),
      (Cycle.placed_by a.v.now.x.now a.heights.now a.blinds.now _ _ c.mark_height.auto.heights refl r.placed, (q.0, q.1, r.here)),
    )

pub loop_at-returns-in_err-passes_at : goal.loop_at-returns-in_err-passes_at
loop_at-returns-in_err-passes_at t c floor k =
    let a = c.args in
    let r = c.requires in
    let p = err_from_is_err_and c.from_residual.result c.from_residual.ensures.1 in
    rw (p.1, p.2) (Cycle.loop_refused a.v.now.x.now a.v.now.ip a.v.now.target a.v.now.inside r.here r.placed.nested floor a.s.now.state k _ _ _ c.mark_height.ensures _ _ c.in_err-passes_at.ensures)

pub loop_at-returns : goal.loop_at-returns
loop_at-returns t c floor k =
    let a = c.args in
    let r = c.requires in
    Cycle.loop_left a.v.now.x.now a.v.now.ip a.v.now.target a.v.now.inside r.here r.placed.nested floor a.s.now.state k _ _ _ c.mark_height.ensures _ _ c.in_ok-passes_at.ensures

pub last_pass-interp_region-requires : goal.last_pass-interp_region-requires
last_pass-interp_region-requires t c =
    let a = c.args in
    let r = c.requires in (
      omega (arith, r.inside.0, r.inside.1),
      record {
        placed = r.placed;
        from = a.v.now.ip + 1;
        arm = Cycle.loop_arm_in a.v.now.x.now a.v.now.ip a.v.now.target (omega (arith, r.inside.0, r.inside.1)) r.inside.2;
        after = omega arith;
        before = omega (arith, r.inside.0);
        inside = omega (arith, r.inside.1);
      },
    )

pub last_pass-returns-in_err-flow : goal.last_pass-returns-in_err-flow
last_pass-returns-in_err-flow t c =
    let a = c.args in
    let x = a.v.now.x.now in
    let p = err_from_is_err_and c.from_residual.result c.from_residual.ensures.1 in
    rw (p.1, p.2)
    (Cycle.last_refused x a.v.now.ip a.v.now.target a.v.now.floor.height (state_of x.locals.count a.head.now.state) (state_of x.locals.count c.invalidate_written_locals.new.s.state) (sheets_of a.heights.now a.blinds.now) _
    (c.invalidate_written_locals.ensures.state x.chunk (x.of.first_is, x.of.count_is))
    (c.in_err-flow.ensures ∙ ap (λ (z : AnyState). full (chunk_in x) (a.v.now.ip + 1) (a.v.now.target - 1) a.v.now.floor.height z no_break (sheets_of a.heights.now a.blinds.now)) c.copy.ensures.state))

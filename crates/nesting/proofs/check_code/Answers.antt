-- `nesting::check_code` meets its contract. The loop keeps: in every chunk that has these instructions all rules hold below p, and the stack
-- holds the blocks open at p. Assumes nothing.
use Rattle.std.proofs.Common.{◌≡◌, Some, ap, ◌∙◌, rules, arith}
use Rattle.std.proofs.lemmas.Result.{err_from_is_err_and}
use Rattle.nesting.proofs.Walk.{start, bads, stays, pops, pushes, ends_well, whole_kept}
use Rattle.nesting.proofs.check_code.Goals as goal
use Rattle.nesting.proofs.check_code.Goals.{in-Stay, in-Pop, in-Push}

pub loop-p-init : goal.loop-p-init
loop-p-init c = record {
  low = omega arith;
  room = search rules;
  whole = search rules;
  states = record { in_chunk = λ d C. start d c.args.code.now C c.args.stack.now (omega arith) };
}

pub returns-in_err-step : goal.returns-in_err-step
returns-in_err-step c =
    let p = err_from_is_err_and c.from_residual.result c.from_residual.ensures.1 in
    λ d C. rw (p.1, p.2)
    (bads c.loop-p.invariant.states c.loop-p-test.true c.step.result c.step.ensures.right _ c.in_err-step.ensures.value d C)

pub loop-p-preserved : goal.loop-p-preserved
loop-p-preserved c =
    let e : c.step.result ≡ Some c.in_ok-step.step = c.in_ok-step.ensures.ok_part in
    elim c.match-step.branch [
      | in-Stay w ↦
          record {
            low = omega (arith, w.depth-is);
            room = search rules;
            whole = rw w.stack-is c.loop-p.invariant.whole;
            states =
                rw (w.stack-is, w.depth-is, w.too_deep-is)
                (stays c.loop-p.invariant.states c.loop-p-test.true c.step.result c.step.ensures.right (e ∙ ap Some w.in-Stay.is));
          }
      | in-Pop w ↦
          record {
            low = omega (arith, w.depth-is);
            room = search rules;
            whole = rw w.stack-is c.loop-p.invariant.whole;
            states =
                rw (w.stack-is, w.depth-is, w.too_deep-is)
                (pops c.loop-p.invariant.states c.loop-p-test.true c.step.result c.step.ensures.right (e ∙ ap Some w.in-Pop.is));
          }
      | in-Push w ↦
          record {
            low = omega (arith, w.depth-is);
            room = search rules;
            whole = rw (w.stack-is, whole_kept c.loop-p.stack c.loop-p.depth w.in-Push.open) c.loop-p.invariant.whole;
            states =
                rw (w.stack-is, w.depth-is, w.too_deep-is, w.or-too_deep.ensures, w.then_some.ensures)
                (pushes c.loop-p.invariant.states c.loop-p-test.true c.step.result c.step.ensures.right _ (e ∙ ap Some w.in-Push.is) (omega arith));
          }
    ]

pub returns : goal.returns
returns c = λ d C. ends_well d c.args.code.now C c.loop-p.stack c.loop-p.p c.loop-p.depth c.loop-p.too_deep (c.loop-p.invariant.states.in_chunk d C) c.loop-p-test.false (omega arith)

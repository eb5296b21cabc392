use Rattle.std.proofs.Common.{◌∙◌}
use Rattle.std.proofs.lemmas.Result.{err_from_is_err_and}
use Rattle.bytecode.specs.Parts.{any_instr_of}
use Rattle.shapes.proofs.Lists.{down-length}
use Rattle.frame.specs.Model.{state_of, value_at}
use Rattle.answer.specs.Answer.{refusal}
use Rattle.rules.specs.Answers.{chunk_in}
use Rattle.rules.proofs.Codes.{effect_in}
use Rattle.apply.proofs.Steps.{examine_stops, examine_goes}
use Rattle.apply.proofs.examine.Goals as goal

pub returns-in_err-check_need : goal.returns-in_err-check_need
unfolding refusal
returns-in_err-check_need c =
    let x = c.args.x.now in
    let s = c.args.s.now.state in
    let f = (effect_in x c.args.i c.op_depth_effect-e.result c.op_depth_effect-e.ensures).0 in
    let p = err_from_is_err_and c.from_residual.result c.from_residual.ensures.1 in
    rw (p.1, p.2) (record { result = examine_stops (chunk_in x) c.args.ip c.args.floor.height (any_instr_of c.args.i) (state_of x.locals.count s) s.height _ (down-length (value_at s) s.height) f _ (state_of x.locals.count s) c.in_err-check_need.ensures.tests })

pub returns : goal.returns
unfolding refusal
returns c =
    let x = c.args.x.now in
    let s = c.args.s.now.state in
    let f = (effect_in x c.args.i c.op_depth_effect-e.result c.op_depth_effect-e.ensures).0 in
    record { result = c.apply_op.ensures.result ∙ examine_goes (chunk_in x) c.args.ip c.args.floor.height (any_instr_of c.args.i) (state_of x.locals.count s) s.height _ (down-length (value_at s) s.height) f c.in_ok-check_need.ensures.tests }

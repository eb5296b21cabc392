use Rattle.std.proofs.Common.{sym, ap, ◌∙◌, arith}
use Rattle.std.proofs.Math.Option.{none}
use Rattle.definition.specs.Walk.{State as AnyState}
use Rattle.bytecode.specs.Meaning.{chunk_sig}
use Rattle.shapes.specs.Model.{value_of, places_of}
use Rattle.shapes.proofs.Lists.{down-length}
use Rattle.frame.specs.Model.{state_of, value_at, popped}
use Rattle.answer.specs.Answer.{refusal}
use Rattle.rules.specs.Answers.{chunk_in}
use Rattle.apply.proofs.Steps.{local_done}
use Rattle.apply.proofs.set_local.Goals as goal

pub returns : goal.returns
unfolding refusal
returns c =
    let x = c.args.x.now in
    let v = c.operand-v.result in
    let high = down-length (value_at c.args.s.now.state) c.args.s.now.state.height in
    record {
      result = local_done (chunk_in x) c.args.ip c.args.k (state_of x.locals.count c.args.s.now.state) _ (value_of v) _ c.operand-v.ensures (rw (chunk_sig x.tables.now x.chunk) c.sig_param-declared.ensures)
          (sym (c.shapes_compatible.ensures (places_of v.places) none) ∙ c.if-not-shapes_compatible.false) (omega arith) (omega arith)
          (c.pop.ensures.state x.locals.count ∙ ap (λ (z : AnyState). popped 1 z) c.set_local.ensures.state);
    }

use Rattle.std.proofs.Common.{sym, ◌∙◌, get_or, take, reverse, arith}
use Rattle.std.proofs.Math.Option.{none}
use Rattle.definition.specs.Basics.{first, unless}
use Rattle.definition.specs.Module.{no_sig}
use Rattle.bytecode.specs.Meaning.{known_sigs}
use Rattle.shapes.specs.Model.{value_of, plain_of, places_of}
use Rattle.shapes.proofs.Lists.{down-length}
use Rattle.frame.specs.Model.{stack_of, value_at}
use Rattle.answer.specs.Answer.{refusal, fields}
use Rattle.apply.proofs.Calls.{args_length, args_step, args_end}
use Rattle.apply.proofs.check_args.Goals as goal

pub loop-arg-preserved : goal.loop-arg-preserved
unfolding first unless
loop-arg-preserved c =
    let a = c.args in
    let v = c.operand-shape.result in
    let high = down-length (value_at a.s.now.state) a.s.now.state.height in
    let step = args_step a.ip a.callee a.n (stack_of a.s.now.state) (get_or (known_sigs a.x.now.tables.now) a.callee no_sig).params c.loop-arg.arg (value_of v) (plain_of c.sig_param-declared.result) c.shapes_compatible.result
    (omega arith) (omega arith) (omega arith) c.operand-shape.ensures c.sig_param-declared.ensures (c.shapes_compatible.ensures (places_of v.places) none) in
    c.loop-arg.invariant ∙ step ∙ rw c.if-not-shapes_compatible.false

pub returns-then-not-shapes_compatible : goal.returns-then-not-shapes_compatible
unfolding refusal fields first unless
returns-then-not-shapes_compatible c =
    let a = c.args in
    let v = c.operand-shape.result in
    let high = down-length (value_at a.s.now.state) a.s.now.state.height in
    let step = args_step a.ip a.callee a.n (stack_of a.s.now.state) (get_or (known_sigs a.x.now.tables.now) a.callee no_sig).params c.loop-arg.arg (value_of v) (plain_of c.sig_param-declared.result) c.shapes_compatible.result
    (omega arith) (omega arith) (omega arith) c.operand-shape.ensures c.sig_param-declared.ensures (c.shapes_compatible.ensures (places_of v.places) none) in
    sym (c.loop-arg.invariant ∙ step ∙ rw (c.if-not-shapes_compatible.true, c.from.ensures))

pub returns : goal.returns
unfolding refusal
returns c =
    let a = c.args in
    let st = stack_of a.s.now.state in
    let ps = (get_or (known_sigs a.x.now.tables.now) a.callee no_sig).params in
    let high = down-length (value_at a.s.now.state) a.s.now.state.height in
    let long = args_length st a.n (omega arith) in
    sym (c.loop-arg.invariant ∙ args_end a.ip a.callee (reverse (take a.n st)) ps c.loop-arg.arg (omega arith))

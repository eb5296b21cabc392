use Rattle.std.proofs.Common.{◌≡◌, sym, ap, subst, ◌∙◌, arith}
use Rattle.std.proofs.lemmas.Result.{err_from_is_err_and}
use Rattle.definition.specs.Instructions.{Instr as AnyInstr}
use Rattle.definition.specs.Ops.{ops, row, instr, instr_of, make_at}
use Rattle.definition.specs.Effects.{need}
use Rattle.bytecode.specs.Parts.{any_instr_of}
use Rattle.frame.specs.Model.{state_of}
use Rattle.answer.specs.Answer.{refusal}
use Rattle.rules.specs.Answers.{chunk_in}
use Rattle.rules.specs.Rules.{Stepped}
use Rattle.rules.proofs.Codes.{code_at, effect_in}
use Rattle.apply.proofs.Steps.{too_tall, fits, take_fits}
use Rattle.apply.proofs.apply_op.Goals as goal

pub set_local-requires : goal.set_local-requires
unfolding need instr instr_of ops row make_at
set_local-requires c =
    let i = c.args.i in
    let f = (effect_in c.args.x.now i c.args.e c.requires.effect).0 in
    let n : need (chunk_in c.args.x.now) (any_instr_of i) ≡ 1 = ap (need (chunk_in c.args.x.now)) (code_at i 5 c.if-i-eq-SET_LOCAL.true) in
    omega arith

pub returns-then-i-eq-SET_LOCAL : goal.returns-then-i-eq-SET_LOCAL
unfolding instr instr_of ops row make_at
returns-then-i-eq-SET_LOCAL c =
    let x = c.args.x.now in
    subst (λ (j : AnyInstr). Stepped (chunk_in x) x.locals.count c.args.ip j (state_of x.locals.count c.args.s.now.state) c.set_local.result c.set_local.new.s.state) (sym (code_at c.args.i 5 c.if-i-eq-SET_LOCAL.true)) c.set_local.ensures

pub check_room-requires-clause-taken : goal.check_room-requires-clause-taken
check_room-requires-clause-taken c = take_fits c.args.e.need c.args.s.now.state.height c.in_ok-moves.ensures (effect_in c.args.x.now c.args.i c.args.e c.requires.effect).0 c.requires.need

pub returns-in_err-check_room : goal.returns-in_err-check_room
unfolding refusal
returns-in_err-check_room c =
    let x = c.args.x.now in
    let p = err_from_is_err_and c.from_residual-in_err-check_room.result c.from_residual-in_err-check_room.ensures.1 in
    rw (p.1, p.2) (record { result = too_tall (chunk_in x) (any_instr_of c.args.i) x.locals.count c.args.ip c.args.s.now.state _ c.in_ok-moves.ensures _ (state_of x.locals.count c.args.s.now.state) c.in_err-check_room.ensures })

pub replace-requires-clause-taken : goal.replace-requires-clause-taken
replace-requires-clause-taken c = take_fits c.args.e.need c.args.s.now.state.height c.in_ok-moves.ensures (effect_in c.args.x.now c.args.i c.args.e c.requires.effect).0 c.requires.need

pub returns : goal.returns
unfolding refusal
returns c =
    let x = c.args.x.now in
    record { result = fits (chunk_in x) (any_instr_of c.args.i) x.locals.count c.args.ip c.args.s.now.state _ c.in_ok-moves.ensures (state_of x.locals.count c.replace.new.self.state) c.in_ok-check_room.ensures (c.replace.ensures.state x.locals.count x.of.locals_low ∙ rw (c.scalar_value-int.ensures, c.from.ensures, c.from-2.ensures)) }

use Rattle.std.proofs.Common.{◌≡◌, ◌≤◌, ap, arith}
use Rattle.definition.specs.Ops.{ops, row, instr, instr_of, make_at}
use Rattle.definition.specs.Effects.{need}
use Rattle.bytecode.specs.Meaning.{maxima_of}
use Rattle.bytecode.specs.Parts.{any_instr_of}
use Rattle.rules.specs.Answers.{chunk_in}
use Rattle.rules.proofs.Codes.{rules_at, code_at, a_at, effect_in}
use Rattle.apply.proofs.rule_of.Goals as goal

pub call-requires : goal.call-requires
unfolding need instr instr_of ops row make_at
call-requires c =
    let i = c.args.i in
    let f = (effect_in c.args.x.now i c.args.e c.requires.effect).0 in
    let n : need (chunk_in c.args.x.now) (any_instr_of i) ≡ i.b = ap (need (chunk_in c.args.x.now)) (code_at i 49 c.in-49.is) in
    omega arith

pub overflow_cast-i-in-52 : goal.overflow_cast-i-in-52
unfolding maxima_of ops row
overflow_cast-i-in-52 c = let h : c.args.i.a ≤ 3 = a_at c.args.i 52 c.in-52.is c.requires.within in omega arith

pub new_flat-requires : goal.new_flat-requires
unfolding need instr instr_of ops row make_at
new_flat-requires c =
    let i = c.args.i in
    let f = (effect_in c.args.x.now i c.args.e c.requires.effect).0 in
    let n : need (chunk_in c.args.x.now) (any_instr_of i) ≡ i.b = ap (need (chunk_in c.args.x.now)) (code_at i 52 c.in-52.is) in
    omega arith

pub returns-in-49 : goal.returns-in-49
unfolding instr instr_of ops row make_at
returns-in-49 c = rules_at c.args.i 49 c.in-49.is c.call.ensures

pub returns-in-52 : goal.returns-in-52
unfolding instr instr_of ops row make_at
returns-in-52 c = rules_at c.args.i 52 c.in-52.is c.new_flat.ensures

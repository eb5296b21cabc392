use Rattle.std.proofs.Common.{◌∙◌, ◌≤◌, [], length, arith}
use mathlib.Core.Logic.{⊎_elim}
use Rattle.std.proofs.lemmas.Bool.Decides.{nat_tests}
use Rattle.definition.specs.Basics.{is_member}
use Rattle.definition.specs.Ops.{ops, row, instr, instr_of, make_at}
use Rattle.definition.specs.Effects.{pushes}
use Rattle.bytecode.specs.Meaning.{maxima_of}
use Rattle.bytecode.specs.Parts.{any_instr_of}
use Rattle.rules.specs.Answers.{chunk_in}
use Rattle.rules.proofs.Rules.{generic_net}
use Rattle.rules.proofs.Codes.{rules_at, one_of_two, a_at, b_at, c_at, generic_at, effect_in}
use Rattle.rules.proofs.rule_by.Goals as goal

pub overflow_cast-a : goal.overflow_cast-a
unfolding maxima_of ops row
overflow_cast-a c = let h : c.args.i.a ≤ 7 = a_at c.args.i 10 c.in-10.is c.requires.within in omega arith

pub overflow_cast-b : goal.overflow_cast-b
unfolding maxima_of ops row
overflow_cast-b c = let h : c.args.i.b ≤ 3 = b_at c.args.i 11 c.in-11.is c.requires.within in omega arith

pub overflow_cast-b-in-36 : goal.overflow_cast-b-in-36
unfolding maxima_of ops row
overflow_cast-b-in-36 c =
    let i = c.args.i in
    let w = c.requires.within in
    let h : i.b ≤ 7 = ⊎_elim (λ k. b_at i 36 k w) (λ d. ⊎_elim (λ k. b_at i 39 k w) (λ k. b_at i 42 k w) d) c.in-36.is in
    omega arith

pub overflow_cast-c : goal.overflow_cast-c
unfolding maxima_of ops row
overflow_cast-c c =
    let i = c.args.i in
    let w = c.requires.within in
    let h : i.c ≤ 3 = ⊎_elim (λ k. c_at i 37 k w) (λ d. ⊎_elim (λ k. c_at i 40 k w) (λ k. c_at i 43 k w) d) c.in-37.is in
    omega arith

pub generic-requires : goal.generic-requires
unfolding is_member
generic-requires c =
    let i = c.args.i in
    let d = chunk_in c.args.x.now in
    let g = generic_at i d c.requires.within.code_low (grind (arith, nat_tests)) in
    let f = effect_in c.args.x.now i c.args.e c.requires.effect in
    let few : length (pushes d (any_instr_of i) [] []) ≤ 3 = g.1 in
    (length (pushes d (any_instr_of i) [] []), omega arith, rw f.0 (f.1 ∙ generic_net d (any_instr_of i) g.0))

pub returns-in-0 : goal.returns-in-0
unfolding instr instr_of ops row make_at
returns-in-0 c = rules_at c.args.i 0 c.in-0.is (c.constant.ensures _ _)

pub returns-in-1 : goal.returns-in-1
unfolding instr instr_of ops row make_at
returns-in-1 c = rules_at c.args.i 1 c.in-1.is (c.get_local.ensures _)

pub returns-in-4 : goal.returns-in-4
unfolding instr instr_of ops row make_at
returns-in-4 c = rules_at c.args.i 4 c.in-4.is (c.dup.ensures _ _ _)

pub returns-in-7 : goal.returns-in-7
unfolding instr instr_of ops row make_at
returns-in-7 c = ⊎_elim (λ k. rules_at c.args.i 7 k (c.unknown_element.ensures.data _ _ _ _ _)) (λ k. rules_at c.args.i 12 k (c.unknown_element.ensures.boxed _ _ _)) c.in-7.is

pub returns-in-8 : goal.returns-in-8
unfolding instr instr_of ops row make_at
returns-in-8 c = rules_at c.args.i 8 c.in-8.is (c.set_data_indexed.ensures _ _ _ _ _)

pub returns-in-9 : goal.returns-in-9
unfolding instr instr_of ops row make_at
returns-in-9 c = rules_at c.args.i 9 c.in-9.is (c.bounds_check.ensures _ _ _ _)

pub returns-in-10 : goal.returns-in-10
unfolding instr instr_of ops row make_at
returns-in-10 c = rules_at c.args.i 10 c.in-10.is c.get_index.ensures

pub returns-in-11 : goal.returns-in-11
unfolding instr instr_of ops row make_at
returns-in-11 c = rules_at c.args.i 11 c.in-11.is (c.get_index_nested.ensures _ _)

pub returns-in-36 : goal.returns-in-36
unfolding instr instr_of ops row make_at
returns-in-36 c =
    let h = c.get_flat.ensures in
    ⊎_elim (λ k. rules_at c.args.i 36 k (h _)) (λ d. ⊎_elim (λ k. rules_at c.args.i 39 k (h _)) (λ k. rules_at c.args.i 42 k (h _)) d) c.in-36.is

pub returns-in-37 : goal.returns-in-37
unfolding instr instr_of ops row make_at
returns-in-37 c =
    let h = c.get_flat_nested.ensures in
    ⊎_elim (λ k. rules_at c.args.i 37 k (h _ _ _)) (λ d. ⊎_elim (λ k. rules_at c.args.i 40 k (h _ _ _)) (λ k. rules_at c.args.i 43 k (h _ _ _)) d) c.in-37.is

pub returns-in-46 : goal.returns-in-46
unfolding instr instr_of ops row make_at
returns-in-46 c = rules_at c.args.i 46 c.in-46.is (c.yields.ensures _ _)

pub returns-in-47 : goal.returns-in-47
unfolding instr instr_of ops row make_at
returns-in-47 c = ⊎_elim (λ k. rules_at c.args.i 47 k (c.is_instance.ensures.of_enum _ _ _ _ _ _)) (λ k. rules_at c.args.i 48 k (c.is_instance.ensures.of_struct _ _ _ _)) (one_of_two c.args.i.code 47 (omega arith) (omega arith))

pub returns-in-50 : goal.returns-in-50
unfolding instr instr_of ops row make_at
returns-in-50 c = ⊎_elim (λ k. rules_at c.args.i 50 k (c.native.ensures _ _)) (λ k. rules_at c.args.i 51 k (c.native.ensures _ _)) (one_of_two c.args.i.code 50 (omega arith) (omega arith))

pub returns-in_default : goal.returns-in_default
unfolding is_member
returns-in_default c =
    let i = c.args.i in
    let d = chunk_in c.args.x.now in
    let g = generic_at i d c.requires.within.code_low (grind (arith, nat_tests)) in
    let f = effect_in c.args.x.now i c.args.e c.requires.effect in
    c.generic.ensures d _ (any_instr_of i) _ g.0 f.0 f.1

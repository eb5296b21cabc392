-- `nesting::part::Part::of` meets its contract: each code that has a part by computing, all others by one test. Assumes nothing.
use Rattle.std.proofs.Common.{refl, inl, inr, arith}
use Rattle.definition.specs.Instructions.{control, jump_control}
use Rattle.definition.specs.Ops.{ops, row, instr, instr_of, make_at}
use Rattle.bytecode.specs.Meaning.{maxima_of}
use Rattle.bytecode.specs.Parts.{any_instr_of}
use Rattle.nesting.specs.Codes.{part_of}
use Rattle.nesting.proofs.Parts.{other_rest, target_low}
use Rattle.nesting.proofs.part.Part.of.Goals as goal

pub overflow_cast-result : goal.overflow_cast-result
unfolding maxima_of ops row
overflow_cast-result c = omega (arith, target_low c.args.instr 65 c.in-65.is c.requires.1 refl)

pub overflow_cast-result-in-67 : goal.overflow_cast-result-in-67
unfolding maxima_of ops row
overflow_cast-result-in-67 c = omega (arith, target_low c.args.instr 67 c.in-67.is c.requires.1 refl)

pub overflow_cast-result-in-69 : goal.overflow_cast-result-in-69
unfolding maxima_of ops row
overflow_cast-result-in-69 c = omega (arith, target_low c.args.instr 69 c.in-69.is c.requires.1 refl)

pub overflow_cast-result-in-71 : goal.overflow_cast-result-in-71
unfolding maxima_of ops row
overflow_cast-result-in-71 c =
    elim c.in-71.is [ inl e ↦ omega (arith, target_low c.args.instr 66 e c.requires.1 refl) | inr e ↦ omega (arith, target_low c.args.instr 71 e c.requires.1 refl) ]

pub returns-in-65 : goal.returns-in-65
unfolding part_of control jump_control any_instr_of instr instr_of make_at ops row
returns-in-65 c = rw c.in-65.is

pub returns-in-67 : goal.returns-in-67
unfolding part_of control jump_control any_instr_of instr instr_of make_at ops row
returns-in-67 c = rw c.in-67.is

pub returns-in-68 : goal.returns-in-68
unfolding part_of control jump_control any_instr_of instr instr_of make_at ops row
returns-in-68 c = rw c.in-68.is

pub returns-in-69 : goal.returns-in-69
unfolding part_of control jump_control any_instr_of instr instr_of make_at ops row
returns-in-69 c = rw c.in-69.is

pub returns-in-70 : goal.returns-in-70
unfolding part_of control jump_control any_instr_of instr instr_of make_at ops row
returns-in-70 c = rw c.in-70.is

pub returns-in-71 : goal.returns-in-71
unfolding part_of control jump_control any_instr_of instr instr_of make_at ops row
returns-in-71 c = elim c.in-71.is [ inl e ↦ rw e | inr e ↦ rw e ]

pub returns-in_default : goal.returns-in_default
returns-in_default c =
    other_rest c.args.instr c.requires.0 (grind arith) (grind arith) (grind arith) (grind arith) (grind arith) (grind arith) (grind arith)

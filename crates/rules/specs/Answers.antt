-- What an examination answers, and the chunk under check.
use Rattle.std.specs.Prelude.{ℕ, ◌≤◌, ◌<◌, ◌≡◌, List, [], get_or, Result as Outcome}
use Rattle.std.proofs.Math.Option.{Option, none, some}
use Rattle.definition.specs.Basics.{Result, pass}
use Rattle.definition.specs.Instructions.{Chunk}
use Rattle.definition.specs.Walk.{State as AnyState, examine}
use Rattle.bytecode.specs.Meaning.{chunk_of, maxima_of}
use Rattle.bytecode.specs.Parts.{any_instr_of}
use Rattle.bytecode.specs.declared.Instr.{Instr}
use Rattle.frame.specs.declared.State.{State}
use Rattle.frame.specs.Model.{state_of}
use Rattle.answer.specs.declared.Refusal.{Refusal}
use Rattle.answer.specs.Answer.{refusal}
use Rattle.rules.specs.declared.chunk.Context.{Context}

-- the values of a refusal, where there is one
unfoldable pub values_of : Option (List ℕ) → List ℕ
values_of none = []
values_of (some r) = r

-- the state after, or the refusal
abbrev pub result_of : ℕ → Outcome Unit Refusal → State → Result AnyState
result_of locals r u = pass (refusal r) (state_of locals u)

-- the chunk under check
abbrev pub chunk_in : Context → Chunk
chunk_in x = chunk_of x.tables.now x.chunk

-- Each number of an instruction is within what its row admits. It is asked in clauses and is no ghost field of `Instr`, since `op_depth_effect` is promised for any numbers.
pub record Within (i : Instr) : Type 0 where
  pub code_low : i.code < 75
  pub a_low : i.a ≤ get_or (maxima_of i.code) 0 0
  pub b_low : i.b ≤ get_or (maxima_of i.code) 1 0
  pub c_low : i.c ≤ get_or (maxima_of i.code) 2 0

-- The examination of an instruction of the chunk under check, and the state after it, are the definition's.
pub record Examined (x : Context) (i : Instr) (ip floor : ℕ) (s : State) (r : Outcome Unit Refusal) (u : State) : Type 0 where
  pub result : result_of x.locals.count r u ≡ examine (chunk_in x) ip floor (any_instr_of i) (state_of x.locals.count s)

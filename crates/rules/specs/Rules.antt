-- The rule of one instruction: what the definition says of it after the tests of 12 and 5.
use Rattle.std.specs.Prelude.{ℕ, ◌+◌, ◌-◌, ◌≤◌, ◌≡◌, Bool, true, false, List, [], ◌∷◌, ◌++◌, map, replicate, Result, Ok, IfOk}
use Rattle.std.proofs.Math.Option.{Option, none, some}
use Rattle.definition.specs.Basics.{first, pass}
use Rattle.definition.specs.Shapes.{Shape as AnyShape, scalar, composite}
use Rattle.definition.specs.Instructions.{Instr, Chunk, plain, shaped, jump, PopN, SetLocal, Call, NewFlat, NewBoxed, GetFlat, GetBoxed, GetIndex}
use Rattle.definition.specs.Tests.{reading, reading_test, other_tests, places_test}
use Rattle.definition.specs.Effects.{takes, pushes, shape_of, set_local}
use Rattle.definition.specs.Walk.{State as AnyState, height, after, height_test}
use Rattle.shapes.specs.Model.{value_of}
use Rattle.frame.specs.declared.State.{State}
use Rattle.shapes.specs.declared.Value.{Value}
use Rattle.shapes.specs.declared.Shape.{Shape}
use Rattle.shapes.specs.declared.Shape.TheVariants.{Unknown, Scalar, Composite}
use Rattle.answer.specs.declared.Refusal.{Refusal}
use Rattle.answer.specs.Answer.{refusal}
use Rattle.rules.specs.declared.Moves.{Moves}
use Rattle.rules.specs.Answers.{result_of}

-- an instruction's own tests, limit 6 among them
abbrev pub own_tests : Chunk → ℕ → Instr → List AnyShape → Option (List ℕ)
own_tests c ip i st = first (reading_test ip (reading c i) st) (other_tests c ip i st)

-- a flat access of what is no composite: 7 for a scalar, and none for an unknown
unfoldable pub Otherwise : ℕ → Shape → Result Unit Refusal → Type 0
Otherwise ip Unknown r = refusal r ≡ none
Otherwise ip (Scalar k) r = refusal r ≡ some (7 ∷ ip ∷ [])
Otherwise ip (Composite k n) r = Unit {0}

-- what an instruction does where its tests pass: takes so many, pushes a value and numbers of kind 3 above it, and writes no local
pub record MovesAre (c : Chunk) (i : Instr) (s : AnyState) (m : Moves) : Type 0 where
  pub keeps : set_local i ≡ none
  pub takes : takes c i ≡ m.take
  pub pushes : replicate m.ints (scalar 3) ++ replicate m.times (value_of m.value) ≡ map shape_of (pushes c i s.stack s.locals)

-- a rule is the definition's: tests, and where they pass the effect
pub record Rules (c : Chunk) (ip : ℕ) (i : Instr) (s : AnyState) (r : Result Moves Refusal) : Type 0 where
  pub tests : refusal r ≡ own_tests c ip i s.stack
  pub moves : IfOk r (MovesAre c i s)

-- the rule of one that passes
abbrev pub passing_of : ℕ → Value → ℕ → ℕ → Result Moves Refusal
passing_of take v m n = Ok (record { take = take; value = v; times = m; ints = n })

-- what makes a new composite of n operands, with the text places t
pub record Makes (kind n size : ℕ) (t : Option (List ℕ)) (m : Moves) : Type 0 where
  pub takes : m.take ≡ n
  pub made : value_of m.value ≡ composite kind size t
  pub once : m.times ≡ 1
  pub alone : m.ints ≡ 0

-- a new composite with the text places t
pub record Body (ip kind n size : ℕ) (t : Option (List ℕ)) (r : Result Moves Refusal) : Type 0 where
  pub tests : refusal r ≡ places_test ip t
  pub made : IfOk r (Makes kind n size t)

-- the names that take what they need and push unknowns
unfoldable pub is_generic : Instr → Bool
is_generic (plain p a) = true
is_generic (shaped s) = false
is_generic (jump j) = true
is_generic (PopN n) = true
is_generic (SetLocal k) = false
is_generic (Call k n) = false
is_generic (NewFlat k n s) = false
is_generic (NewBoxed k n m) = true
is_generic (GetFlat o f) = false
is_generic (GetBoxed o n) = true
is_generic (GetIndex e) = false

-- limit 5 after a rule's own tests; where it passes there is room for what it pushes
pub record Roomed (m : Moves) (h ip : ℕ) (q : Result Unit Refusal) : Type 0 where
  pub tests : refusal q ≡ height_test ip (m.ints + (m.times + (h - m.take)))
  pub room : refusal q ≡ none → h - m.take + m.times + m.ints ≤ 64

-- The step of an instruction after the tests of 12 and 5, and the state after it, are the definition's.
pub record Stepped (c : Chunk) (locals ip : ℕ) (i : Instr) (s : AnyState) (r : Result Unit Refusal) (u : State) : Type 0 where
  pub result : result_of locals r u ≡ pass (first (own_tests c ip i s.stack) (height_test ip (height (after c i s)))) (after c i s)

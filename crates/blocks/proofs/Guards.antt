-- If, BreakIf and Trap: what they are examined for is the height alone.
use mathlib.Core.Path.{◌≡◌, refl, sym, ap, subst, ◌∙◌}
use mathlib.Core.Bool.{Bool, true, false}
use mathlib.Core.Option.{Option, none}
use mathlib.Core.List.{List}
use Prim.Native.Nat.{ℕ, suc, ◌+◌, ◌≤◌}
use native.Mathlib.Omega.{arith}
use borrow.Author.Tests.{le-leb}
use lib.ListN.{length, drop, set, length-drop}
use Rattle.std.specs.Prelude.{Result as Outcome, Ok, Err}
use Rattle.definition.specs.Basics.{ok, refused, first, pass, unless}
use Rattle.definition.specs.Instructions.{Instr as AnyInstr, Jump, Chunk, Control, onward, stops, returns, resets, end_if, end_loop, ends, if_to, else_to, loop_to}
use Rattle.definition.specs.Instructions.{break_to, break_if_to, control, jump_control}
use Rattle.definition.specs.Effects.{need, takes, pushes, set_local, write, jump_need}
use Rattle.definition.specs.Tests.{is_blind, reading, reading_test, other_tests}
use Rattle.definition.specs.Walk.{State as AnyState, height, after, mark, mark_blind, examine, height_test}
use Rattle.theorems.specs.Cover.{no_false}
use Rattle.frame.specs.declared.State.{State}
use Rattle.frame.specs.Model.{state_of, stack_of, popped}
use Rattle.bytecode.specs.Meaning.{chunk_base}
use Rattle.answer.specs.declared.Refusal.{Refusal}
use Rattle.answer.specs.Answer.{refusal, fields}
use Rattle.rules.specs.declared.chunk.Context.{Context}
use Rattle.rules.specs.Answers.{chunk_in}
use Rattle.rules.specs.Rules.{own_tests}
use Rattle.apply.proofs.Steps.{examine_goes, examine_stops}
use Rattle.stretch.specs.Stretch.{sheets_of}
use Rattle.blocks.specs.Visits.{instr_in, Guarded}
use Rattle.blocks.proofs.Laws.{height_is}

-- ── One jump ──────────────────────────────────────────────────────────────────────────────

module _ (c : Chunk) (j : Jump) (ip : ℕ) (s : AnyState) (low : height s ≤ 64) where
  takes_all : after c (AnyInstr.jump j) s ≡ popped (need c (AnyInstr.jump j)) s
  unfolding after takes need pushes set_local write
  takes_all = refl

  room : height_test ip (height (popped (need c (AnyInstr.jump j)) s)) ≡ none
  unfolding height_test unless
  room =
      let l : length (drop (need c (AnyInstr.jump j)) s.stack) ≤ 64 = omega (arith, low, length-drop (need c (AnyInstr.jump j)) s.stack) in
      rw (le-leb (length (drop (need c (AnyInstr.jump j)) s.stack)) 64 l)

  no_tests : none ≡ first (own_tests c ip (AnyInstr.jump j) s.stack) (height_test ip (height (after c (AnyInstr.jump j) s)))
  unfolding first reading reading_test other_tests
  no_tests = sym (ap (λ (z : AnyState). height_test ip (height z)) takes_all ∙ room)

  -- after the tests of 12 and 5
  left : pass (first (own_tests c ip (AnyInstr.jump j) s.stack) (height_test ip (height (after c (AnyInstr.jump j) s)))) (after c (AnyInstr.jump j) s)
      ≡ ok (popped (need c (AnyInstr.jump j)) s)
  unfolding pass
  left = ap (λ (z : Option (List ℕ)). pass z (after c (AnyInstr.jump j) s)) (sym no_tests) ∙ ap ok takes_all

-- ── Which instructions ────────────────────────────────────────────────────────────────────

-- what leads elsewhere, or nowhere, and is examined with tests
abbrev pub Guard : Control → Type 0
Guard onward = ⊥
Guard stops = Unit {0}
Guard returns = ⊥
Guard resets = ⊥
Guard end_if = ⊥
Guard end_loop = ⊥
Guard ends = ⊥
Guard (if_to t) = Unit {0}
Guard (else_to t) = ⊥
Guard (loop_to t) = ⊥
Guard (break_to t) = ⊥
Guard (break_if_to t) = Unit {0}

-- what tests a condition
abbrev pub is_condition : Control → Bool
is_condition onward = false
is_condition stops = false
is_condition returns = false
is_condition resets = false
is_condition end_if = false
is_condition end_loop = false
is_condition ends = false
is_condition (if_to t) = true
is_condition (else_to t) = false
is_condition (loop_to t) = false
is_condition (break_to t) = false
is_condition (break_if_to t) = true

is_jump : (i : AnyInstr) → Guard (control i) → (j : Jump) × (i ≡ AnyInstr.jump j)
unfolding control
is_jump (AnyInstr.plain p a) h = absurd h
is_jump (AnyInstr.shaped s) h = absurd h
is_jump (AnyInstr.jump j) h = (j, refl)
is_jump (AnyInstr.PopN n) h = absurd h
is_jump (AnyInstr.SetLocal k) h = absurd h
is_jump (AnyInstr.Call k n) h = absurd h
is_jump (AnyInstr.NewFlat k n s) h = absurd h
is_jump (AnyInstr.NewBoxed k n m) h = absurd h
is_jump (AnyInstr.GetFlat o f) h = absurd h
is_jump (AnyInstr.GetBoxed o n) h = absurd h
is_jump (AnyInstr.GetIndex e) h = absurd h

condition_jump : (c : Chunk) (j : Jump) → is_condition (jump_control j) ≡ true → jump_need c j ≡ 1
unfolding jump_control jump_need
condition_jump c (Jump.If t) h = refl
condition_jump c (Jump.Else t) h = absurd (no_false h)
condition_jump c (Jump.Loop t) h = absurd (no_false h)
condition_jump c (Jump.EndLoop t) h = absurd (no_false h)
condition_jump c (Jump.Break t) h = absurd (no_false h)
condition_jump c (Jump.BreakIf t) h = refl
condition_jump c (Jump.Trap t) h = absurd (no_false h)
condition_jump c Jump.EndIf h = absurd (no_false h)
condition_jump c Jump.Return h = absurd (no_false h)
condition_jump c Jump.Reset h = absurd (no_false h)

-- an If and a BreakIf need one operand
pub one_needed : (c : Chunk) (i : AnyInstr) {k : Control} → control i ≡ k → is_condition k ≡ true → Guard k → 1 ≡ need c i
unfolding need control
one_needed c i e q g =
    let J = is_jump i (subst Guard (sym e) g) in
    let p : is_condition (control i) ≡ true = subst (λ (z : Control). is_condition z ≡ true) (sym e) q in
    sym (ap (need c) J.1 ∙ condition_jump c J.0 (subst (λ (z : AnyInstr). is_condition (control z) ≡ true) J.1 p))

-- ── The guard ─────────────────────────────────────────────────────────────────────────────

module _ (x : Context) (ip : ℕ) (s : State) {k : Control} (leads : control (instr_in x ip) ≡ k) (g : Guard k) where
  abbrev S : AnyState
  S = state_of x.locals.count s

  -- the instruction, as a jump
  there : (j : Jump) × (instr_in x ip ≡ AnyInstr.jump j)
  there = is_jump (instr_in x ip) (subst Guard (sym leads) g)

  not_blind : false ≡ is_blind (reading (chunk_in x) (instr_in x ip)) (stack_of s)
  unfolding is_blind reading
  not_blind = ap (λ (z : AnyInstr). is_blind (reading (chunk_in x) z) (stack_of s)) (sym there.1)

  module _ (n floor : ℕ) (h h' : List ℕ) where
    -- both sheets after it
    pub guard_marked : {r : Outcome Unit Refusal} → Guarded (x.code.first + ip) n ip floor s.height h h' r → (bl : List ℕ) → sheets_of h' bl ≡ mark (chunk_in x) ip (instr_in x ip) S (sheets_of h bl)
    unfolding mark mark_blind
    guard_marked G bl =
        let base : (chunk_in x).base ≡ x.code.first = chunk_base x.tables.now x.chunk ∙ sym x.of.first_is in
        ap (λ (l : List ℕ). sheets_of l bl)
        (G.marks ∙ ap (λ (m : ℕ). set h (m + ip) (suc s.height)) (sym base) ∙ ap (λ (m : ℕ). set h ((chunk_in x).base + ip) (suc m)) (sym (height_is x.locals.count s)))
        ∙ ap (λ (z : Bool). sheets_of (set h ((chunk_in x).base + ip) (suc (height S))) (mark_blind z ((chunk_in x).base + ip) bl)) not_blind

    module _ (needs : n ≡ need (chunk_in x) (instr_in x ip)) where
      as_jump : n ≡ need (chunk_in x) (AnyInstr.jump there.0)
      as_jump = needs ∙ ap (need (chunk_in x)) there.1

      pub guard_passed : s.height ≤ 64 → Guarded (x.code.first + ip) n ip floor s.height h h' (Ok tt) → examine (chunk_in x) ip floor (instr_in x ip) S ≡ ok (popped n S)
      unfolding refusal
      guard_passed low G =
          ap (λ (z : AnyInstr). examine (chunk_in x) ip floor z S) there.1
          ∙ sym (examine_goes (chunk_in x) ip floor (AnyInstr.jump there.0) S s.height n (height_is x.locals.count s) as_jump G.tests)
          ∙ left (chunk_in x) there.0 ip S (subst (λ (z : ℕ). z ≤ 64) (sym (height_is x.locals.count s)) low)
          ∙ ap (λ (z : ℕ). ok (popped z S)) (sym as_jump)

      pub guard_refused : (f : Refusal) → Guarded (x.code.first + ip) n ip floor s.height h h' (Err f) → examine (chunk_in x) ip floor (instr_in x ip) S ≡ refused (fields f)
      unfolding refusal pass
      guard_refused f G =
          ap (λ (z : AnyInstr). examine (chunk_in x) ip floor z S) there.1
          ∙ sym (examine_stops (chunk_in x) ip floor (AnyInstr.jump there.0) S s.height n (height_is x.locals.count s) as_jump f S G.tests)

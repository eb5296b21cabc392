-- The state after an instruction, and the examination as a whole.
use Rattle.std.proofs.Common.{◌≡◌, refl, sym, ap, ap₂, ◌∙◌, true, ℕ, ◌+◌, ◌-◌, ◌≤◌, ◌<◌, List, [], ◌∷◌, ◌++◌, map, append_assoc, length, get_or, drop, set, replicate, Result, Ok, Err, arith}
use Rattle.std.proofs.Math.ListN.{length-append, length-replicate, length-drop}
use borrow.Author.Tests.{le-leb}
use Rattle.std.proofs.Math.Option.{Option, none, some}
use Rattle.definition.specs.Basics.{ok, first, unless, pass}
use Rattle.definition.specs.Shapes.{Shape as AnyShape, unknown, scalar, from_wire}
use Rattle.definition.specs.Instructions.{Instr, Chunk, Shaped, plain, shaped, jump, PopN, SetLocal, Call, NewFlat, NewBoxed, GetFlat, GetBoxed, GetIndex}
use Rattle.definition.specs.Instructions.{Const, GetLocal, BoundsCheck, IsStruct, GetDataIndexed, SetDataIndexed, Native, IsEnum, Dup, Yield, IndexBoxed}
use Rattle.definition.specs.Effects.{need, takes, pushes, set_local, set_top, write, shaped_need}
use Rattle.definition.specs.Walk.{State as AnyState, height, after, floor_test, need_test, height_test, tests, examine}
use Rattle.definition.specs.Tests.{reading, reading_test, other_tests, fits_declared}
use Rattle.shapes.specs.Model.{value_of}
use Rattle.shapes.proofs.Lists.{down-length}
use Rattle.frame.specs.declared.State.{State}
use Rattle.frame.specs.Model.{value_at, state_of, stack_of, replaced, popped, with_local}
use Rattle.frame.proofs.Stores.{model}
use Rattle.answer.specs.declared.Refusal.{Refusal}
use Rattle.answer.specs.Answer.{refusal, fields}
use Rattle.rules.specs.declared.Moves.{Moves}
use Rattle.rules.specs.Rules.{own_tests, MovesAre, Rules, Roomed}

-- ── What is taken is at most what is needed ───────────────────────────────────────────────

takes_shaped : (h : Shaped) → (shaped_need h).1 ≤ (shaped_need h).0
unfolding shaped_need
takes_shaped (Const k) = omega arith
takes_shaped (GetLocal k) = omega arith
takes_shaped (BoundsCheck k) = omega arith
takes_shaped (IsStruct k) = omega arith
takes_shaped (GetDataIndexed a b) = omega arith
takes_shaped (SetDataIndexed a b) = omega arith
takes_shaped (Native k n) = omega arith
takes_shaped (IsEnum a b d) = omega arith
takes_shaped Dup = omega arith
takes_shaped Yield = omega arith
takes_shaped IndexBoxed = omega arith

pub takes_need : (c : Chunk) (i : Instr) → takes c i ≤ need c i
unfolding takes need
takes_need c (plain p a) = omega arith
takes_need c (shaped h) = takes_shaped h
takes_need c (jump j) = omega arith
takes_need c (PopN n) = omega arith
takes_need c (SetLocal k) = omega arith
takes_need c (Call k n) = omega arith
takes_need c (NewFlat k n z) = omega arith
takes_need c (NewBoxed k n m) = omega arith
takes_need c (GetFlat o f) = omega arith
takes_need c (GetBoxed o n) = omega arith
takes_need c (GetIndex e) = omega arith

-- ── Limit 5 ───────────────────────────────────────────────────────────────────────────────

-- what an instruction moves is its effect
moved : (c : Chunk) (i : Instr) (s : AnyState) (m : Moves) → MovesAre c i s m → replaced m.take (value_of m.value) m.times (scalar 3) m.ints s ≡ after c i s
unfolding after write
moved c i s m h =
    model
    (sym (append_assoc (replicate m.ints (scalar 3)) (replicate m.times (value_of m.value)) (drop m.take s.stack))
    ∙ ap₂ (λ (a : List AnyShape) (j : ℕ). a ++ drop j s.stack) h.pushes (sym h.takes))
    (rw h.keeps)

replaced_length : (t m n : ℕ) (x y : AnyShape) (s : AnyState) → length (replaced t x m y n s).stack ≡ n + (m + (length s.stack - t))
replaced_length t m n x y s = simp (length-append, length-replicate, length-drop)

module _ (c : Chunk) (i : Instr) (locals ip : ℕ) (s : State) (m : Moves) (rules : Rules c ip i (state_of locals s) (Ok m)) where
  tall : height (after c i (state_of locals s)) ≡ m.ints + (m.times + (s.height - m.take))
  tall =
      ap height (sym (moved c i (state_of locals s) m rules.moves)) ∙ replaced_length m.take m.times m.ints (value_of m.value) (scalar 3) (state_of locals s)
      ∙ ap (λ (z : ℕ). m.ints + (m.times + (z - m.take))) (down-length (value_at s) s.height)

  decided : (q : Result Unit Refusal) → Roomed m s.height ip q → refusal q ≡ first (own_tests c ip i (stack_of s)) (height_test ip (height (after c i (state_of locals s))))
  unfolding refusal first
  decided q h = h.tests ∙ rw (← rules.tests, tall)

  pub too_tall : (e : Refusal) (a : AnyState) → Roomed m s.height ip (Err e)
      → pass (some (fields e)) a ≡ pass (first (own_tests c ip i (stack_of s)) (height_test ip (height (after c i (state_of locals s))))) (after c i (state_of locals s))
  unfolding refusal pass
  too_tall e a h = rw (← decided (Err e) h)

  pub fits : (a : AnyState) → Roomed m s.height ip (Ok tt) → a ≡ replaced m.take (value_of m.value) m.times (scalar 3) m.ints (state_of locals s)
      → pass none a ≡ pass (first (own_tests c ip i (stack_of s)) (height_test ip (height (after c i (state_of locals s))))) (after c i (state_of locals s))
  unfolding refusal pass
  fits a h e = rw (← decided (Ok tt) h) (ap (pass none) (e ∙ moved c i (state_of locals s) m rules.moves))

pub take_fits : {c : Chunk} {i : Instr} {s : AnyState} {ip : ℕ} {m : Moves} (n h : ℕ) → Rules c ip i s (Ok m) → n ≡ need c i → n ≤ h → m.take ≤ h
take_fits {c = c} {i = i} {m = m} n h rules e l =
    let k : takes c i ≡ m.take = rules.moves.takes in
    omega (arith, takes_need c i)

-- ── SetLocal ──────────────────────────────────────────────────────────────────────────────

written : (k : ℕ) (st ls : List AnyShape) → 0 < length st → set ls k (get_or st 0 unknown) ≡ set_top k st ls
unfolding set_top
written k [] ls h = absurd (omega arith)
written k (x ∷ st) ls h = refl

-- where the top operand fits the parameter, it is written and taken
pub local_done : (c : Chunk) (ip k : ℕ) (s a : AnyState) (v d : AnyShape) → v ≡ get_or s.stack 0 unknown → d ≡ get_or (map from_wire c.sig.params) k unknown → fits_declared v d ≡ true
    → 0 < length s.stack → length s.stack ≤ 64 → a ≡ popped 1 (with_local k v s)
    → pass none a ≡ pass (first (own_tests c ip (SetLocal k) s.stack) (height_test ip (height (after c (SetLocal k) s)))) (after c (SetLocal k) s)
unfolding reading reading_test other_tests unless first height_test after takes pushes set_local write pass
local_done c ip k s a v d top declared fit one low e =
    ap ok (e ∙ model refl (ap (set s.locals k) top ∙ written k s.stack s.locals one))
    ∙ rw (← top, ← declared, fit, le-leb (length (drop 1 s.stack)) 64 (omega (arith, length-drop 1 s.stack)))

-- ── 12 and 5 before it ────────────────────────────────────────────────────────────────────

first_first : (a b d : Option (List ℕ)) → first (first a b) d ≡ first a (first b d)
unfolding first
first_first none b d = refl
first_first (some r) b d = refl

module _ (c : Chunk) (ip floor : ℕ) (i : Instr) (s : AnyState) (h n : ℕ) (hh : height s ≡ h) (hn : n ≡ need c i) where
  -- the tests of 12 and 5
  abbrev needs : Option (List ℕ)
  needs = first (floor_test ip floor h n) (need_test ip h n)

  abbrev rest : Option (List ℕ)
  rest = first (own_tests c ip i s.stack) (height_test ip (height (after c i s)))

  whole : first needs rest ≡ tests c ip floor i s
  unfolding tests
  whole = rw (hn, ← hh) (first_first _ _ rest ∙ ap (λ (z : Option (List ℕ)). first (floor_test ip floor (height s) (need c i)) (first (need_test ip (height s) (need c i)) z)) (first_first _ _ _))

  pub examine_stops : (e : Refusal) (a : AnyState) → some (fields e) ≡ needs → pass (some (fields e)) a ≡ examine c ip floor i s
  unfolding examine first pass
  examine_stops e a q = rw (← whole, ← q)

  pub examine_goes : none ≡ needs → pass rest (after c i s) ≡ examine c ip floor i s
  unfolding examine first
  examine_goes q = rw (← whole, ← q)

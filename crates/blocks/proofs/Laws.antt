-- Laws of breaks, joins and leaving a loop: what the code's values mean, from what is known of their parts.
use mathlib.Core.Path.{◌≡◌, refl, sym, ap, ◌∙◌, subst}
use mathlib.Core.Logic.{◌≢◌}
use mathlib.Core.Bool.{Bool, true, false}
use mathlib.Core.Option.{Option, none, some}
use mathlib.Core.List.{List, [], ◌∷◌}
use Prim.Native.Nat.{ℕ, zero, suc, ◌+◌, ◌-◌, ◌≤◌, ◌<◌}
use native.Mathlib.Omega.{arith}
use native.Mathlib.Decide.{dec_lt}
use borrow.Author.Tests.{eq-eqb, eqb-true, ne_eqb, lt-ltb, le-ltb}
use lib.Dec.{eqb}
use lib.ListN.{set}
use Rattle.std.specs.Prelude.{Option as Maybe}
use Rattle.std.specs.Bool.{then_some}
use Rattle.definition.specs.Basics.{ok, refused, ◌>>=◌}
use Rattle.definition.specs.Shapes.{Shape, unknown, same_shapes}
use Rattle.definition.specs.Instructions.{Instr as AnyInstr, Chunk, Control, ends, else_to, control, control_of, control_at, instr_at}
use Rattle.definition.specs.Nesting.{else_of, else_if, else_at}
use Rattle.definition.specs.Effects.{set_local}
use Rattle.definition.specs.Walk.{State as AnyState, Sheets, Breaks as AnyBreaks, joined, unequal, height, join_states, add_joined, add_break, join_tested, join_ends}
use Rattle.definition.specs.Walk.{leave, neutral, last_end, forget_one, names_local, forget, with_locals}
use Rattle.theorems.specs.Cover.{no_false}
use Rattle.bytecode.specs.Lists.{maybe}
use Rattle.frame.specs.declared.State.{State}
use Rattle.frame.specs.Model.{state_of, stack_of, locals_of}
use Rattle.shapes.proofs.Lists.{down-length}
use Rattle.stretch.specs.Stretch.{leads}
use Rattle.stretch.proofs.Codes.{leads_low}
use Rattle.blocks.specs.Outcomes.{after_last}

-- ── Where paths meet ──────────────────────────────────────────────────────────────────────

pub height_is : (locals : ℕ) (s : State) → height (state_of locals s) ≡ s.height
height_is locals s = down-length _ s.height

module _ (locals : ℕ) (a b : State) where
  same-height : a.height ≡ b.height → eqb (height (state_of locals a)) (height (state_of locals b)) ≡ true
  same-height e = eq-eqb _ _ (height_is locals a ∙ e ∙ sym (height_is locals b))

  other_height : a.height ≢ b.height → eqb (height (state_of locals a)) (height (state_of locals b)) ≡ false
  other_height e = ne_eqb _ _ (λ h. e (sym (height_is locals a) ∙ h ∙ height_is locals b))

  -- one more break
  module _ (r : State) (j : state_of locals r ≡ join_states (state_of locals a) (state_of locals b)) (e : a.height ≡ b.height) where
    pub add_same : joined (state_of locals r) ≡ add_break (joined (state_of locals a)) (state_of locals b)
    unfolding add_break add_joined
    add_same = ap joined j ∙ ap (λ (t : Bool). add_joined t (state_of locals a) (state_of locals b)) (sym (same-height e))

    -- the ends of two arms
    pub join_same : (ip : ℕ) → ok (some (state_of locals r)) ≡ join_ends ip (some (state_of locals a)) (some (state_of locals b))
    unfolding join_ends join_tested
    join_same ip = ap (λ (z : AnyState). ok (some z)) j ∙ ap (λ (t : Bool). join_tested t ip (state_of locals a) (state_of locals b)) (sym (same-height e))

  module _ (e : a.height ≢ b.height) where
    pub add_other : unequal a.height b.height ≡ add_break (joined (state_of locals a)) (state_of locals b)
    unfolding add_break add_joined
    add_other =
        ap (λ (x : ℕ). unequal x b.height) (sym (height_is locals a))
        ∙ ap (unequal (height (state_of locals a))) (sym (height_is locals b))
        ∙ ap (λ (t : Bool). add_joined t (state_of locals a) (state_of locals b)) (sym (other_height e))

    pub join_other : (ip : ℕ) → refused (10 ∷ ip ∷ a.height ∷ b.height ∷ []) ≡ join_ends ip (some (state_of locals a)) (some (state_of locals b))
    unfolding join_ends join_tested
    join_other ip =
        ap (λ (n : ℕ). refused (10 ∷ ip ∷ n ∷ b.height ∷ [])) (sym (height_is locals a))
        ∙ ap (λ (n : ℕ). refused (10 ∷ ip ∷ height (state_of locals a) ∷ n ∷ [])) (sym (height_is locals b))
        ∙ ap (λ (t : Bool). join_tested t ip (state_of locals a) (state_of locals b)) (sym (other_height e))

-- ── The last pass ─────────────────────────────────────────────────────────────────────────

module _ (locals ip : ℕ) (s head : State) (b : AnyBreaks) (sh : Sheets) where
  pub last_none : leave ip b sh (state_of locals head) ≡ after_last ip (state_of locals head) (ok (record { fall = none; breaks = b; sheets = sh }))
  unfolding after_last last_end ◌>>=◌
  last_none = refl

  pub last_stable : same_shapes (stack_of s) (stack_of head) ≡ true →
      leave ip b sh (state_of locals s) ≡ after_last ip (state_of locals head) (ok (record { fall = some (state_of locals s); breaks = b; sheets = sh }))
  unfolding after_last last_end neutral ◌>>=◌
  last_stable h = ap (λ (t : Bool). neutral t ip (state_of locals head) (state_of locals s) (leave ip b sh (state_of locals s))) (sym h)

  pub last_other : same_shapes (stack_of s) (stack_of head) ≡ false →
      refused (11 ∷ ip ∷ head.height ∷ s.height ∷ []) ≡ after_last ip (state_of locals head) (ok (record { fall = some (state_of locals s); breaks = b; sheets = sh }))
  unfolding after_last last_end neutral ◌>>=◌
  last_other h =
      ap (λ (n : ℕ). refused (11 ∷ ip ∷ n ∷ s.height ∷ [])) (sym (height_is locals head))
      ∙ ap (λ (n : ℕ). refused (11 ∷ ip ∷ height (state_of locals head) ∷ n ∷ [])) (sym (height_is locals s))
      ∙ ap (λ (t : Bool). neutral t ip (state_of locals head) (state_of locals s) (leave ip b sh (state_of locals s))) (sym h)

-- ── The Else of an If ─────────────────────────────────────────────────────────────────────

module _ (c : Chunk) (ip t : ℕ) where
  pub else_behind : t ≤ ip + 1 → none ≡ else_at c ip t
  unfolding else_at else_if
  else_behind h = ap (λ (b : Bool). else_if b (control_at c (t - 1))) (sym (le-ltb ip (t - 1) (omega arith)))

  else_look : ip + 1 < t → (k : Control) → control_at c (t - 1) ≡ k → else_of k ≡ else_at c ip t
  unfolding else_at else_if
  else_look h k e =
      ap else_of (sym e) ∙ ap (λ (b : Bool). else_if b (control_at c (t - 1))) (sym (lt-ltb ip (t - 1) (omega arith)))

  pub else_past : ip + 1 < t → instr_at c (t - 1) ≡ none → none ≡ else_at c ip t
  unfolding control_at control_of else_of
  else_past h e = else_look h ends (ap control_of e)

  module _ (i : AnyInstr) (there : instr_at c (t - 1) ≡ some i) (h : ip + 1 < t) where
    pub else_there : (e : ℕ) → control i ≡ else_to e → some e ≡ else_at c ip t
    unfolding control_at control_of else_of
    else_there e q = else_look h (else_to e) (ap control_of there ∙ q)

    pub else_other : else_of (control i) ≡ none → none ≡ else_at c ip t
    unfolding control_at control_of
    else_other q = sym q ∙ else_look h (control i) (ap control_of there)

-- a code that is not Else's
pub not_else : (k a : ℕ) → k < 75 → k ≢ 67 → else_of (leads k a) ≡ none
unfolding else_of leads
not_else k a h e = elim (dec_lt k 64) [
  | yes l ↦ rw (leads_low k a l)
  | no g ↦ (let q : 64 + (k - 64) ≡ k = omega arith in
      subst (λ (j : ℕ). else_of (leads j a) ≡ none) q (go (k - 64) (omega arith) (λ z. e (omega arith))))
]
  where
    go : (j : ℕ) → j < 11 → j ≢ 3 → else_of (leads (64 + j) a) ≡ none
    go zero u v = refl
    go (suc zero) u v = refl
    go (suc (suc zero)) u v = refl
    go (suc (suc (suc zero))) u v = absurd (v refl)
    go (suc (suc (suc (suc zero)))) u v = refl
    go (suc (suc (suc (suc (suc zero))))) u v = refl
    go (suc (suc (suc (suc (suc (suc zero)))))) u v = refl
    go (suc (suc (suc (suc (suc (suc (suc zero))))))) u v = refl
    go (suc (suc (suc (suc (suc (suc (suc (suc zero)))))))) u v = refl
    go (suc (suc (suc (suc (suc (suc (suc (suc (suc zero))))))))) u v = refl
    go (suc (suc (suc (suc (suc (suc (suc (suc (suc (suc zero)))))))))) u v = refl
    go (suc (suc (suc (suc (suc (suc (suc (suc (suc (suc (suc m))))))))))) u v = absurd (omega arith)

-- the Else of an If whose target stands behind an instruction with a code and a first operand
pub else_by_code : (c : Chunk) (ip t : ℕ) (i : AnyInstr) → instr_at c (t - 1) ≡ some i → ip + 1 < t → (k a : ℕ) → k < 75 → control i ≡ leads k a →
    (r : Maybe ℕ) → r ≡ then_some (eqb k 67) a → maybe r ≡ else_at c ip t
unfolding leads
else_by_code c ip t i there h k a low g r e = rw e (go (eqb k 67) (eqb-true k 67) (λ n q. no_false (sym n ∙ eq-eqb k 67 q)))
  where
    go : (b : Bool) → (b ≡ true → k ≡ 67) → (b ≡ false → k ≢ 67) → maybe (then_some b a) ≡ else_at c ip t
    go true y n = else_there c ip t i there h a (g ∙ ap (λ (j : ℕ). leads j a) (y refl))
    go false y n = else_other c ip t i there h (ap else_of g ∙ not_else k a low (n refl))

-- ── Forgetting ────────────────────────────────────────────────────────────────────────────

module _ (c : Chunk) (p : ℕ) (i : AnyInstr) (there : instr_at c p ≡ some i) (ls : List Shape) where
  forget_at : (o : Option ℕ) → set_local i ≡ o → forget_one o ls ≡ forget c p 1 ls
  unfolding forget names_local
  forget_at o e = ap (λ (z : Option ℕ). forget_one z ls) (sym e) ∙ ap (λ (z : Option AnyInstr). forget_one (names_local z) ls) (sym there)

  pub forget_local : (k : ℕ) → set_local i ≡ some k → set ls k unknown ≡ forget c p 1 ls
  unfolding forget_one
  forget_local k e = forget_at (some k) e

  pub forget_none : set_local i ≡ none → ls ≡ forget c p 1 ls
  unfolding forget_one
  forget_none e = forget_at none e

-- one instruction more
pub forget-more : (c : Chunk) (p n : ℕ) (ls : List Shape) → forget c p (suc n) ls ≡ forget c (suc p) n (forget c p 1 ls)
unfolding forget
forget-more c p n ls = refl

-- The locals that are left to forget, up to `end`, are those from p on.
pub record Forgetting (c : Chunk) (locals start end p : ℕ) (head s : State) : Type 0 where
  pub stack : stack_of s ≡ stack_of head
  pub left : forget c start (end - start) (locals_of locals head) ≡ forget c p (end - p) (locals_of locals s)

pub forgetting_more : (c : Chunk) (locals start end p : ℕ) (head s r : State) → p < end → Forgetting c locals start end p head s →
    state_of locals r ≡ with_locals (state_of locals s) (forget c p 1 (locals_of locals s)) →
    Forgetting c locals start end (p + 1) head r
forgetting_more c locals start end p head s r h f e =
    record {
      stack = ap (λ (z : AnyState). z.stack) e ∙ f.stack;
      left =
          f.left
          ∙ ap (λ (n : ℕ). forget c p n (locals_of locals s)) (let q : end - p ≡ suc (end - (p + 1)) = omega arith in q)
          ∙ forget-more c p (end - (p + 1)) (locals_of locals s)
          ∙ ap (λ (n : ℕ). forget c n (end - (p + 1)) (forget c p 1 (locals_of locals s))) (let q : suc p ≡ p + 1 = omega arith in q)
          ∙ ap (forget c (p + 1) (end - (p + 1))) (sym (ap (λ (z : AnyState). z.locals) e));
    }

pub forgetting_end : (c : Chunk) (locals start end p : ℕ) (head s : State) → end ≤ p → Forgetting c locals start end p head s →
    state_of locals s ≡ with_locals (state_of locals head) (forget c start (end - start) (locals_of locals head))
unfolding forget
forgetting_end c locals start end p head s h f =
    let q : forget c p (end - p) (locals_of locals s) ≡ locals_of locals s =
    ap (λ (n : ℕ). forget c p n (locals_of locals s)) (let z : end - p ≡ 0 = omega arith in z) in
    ap (λ (l : List Shape). record { stack = l; locals = locals_of locals s }) f.stack
    ∙ ap (λ (l : List Shape). record { stack = stack_of head; locals = l }) (sym (f.left ∙ q))

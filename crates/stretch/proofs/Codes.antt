-- What an instruction is, by its code: where it leads. It is one test that is computed over all codes.
-- Assumes nothing.
use mathlib.Core.Path.{◌≡◌, refl, sym, ap, ◌∙◌, subst}
use mathlib.Core.Logic.{◌⊎◌, inl, inr}
use mathlib.Core.Bool.{Bool, true, false, ◌||◌}
use mathlib.Core.Option.{none, some}
use mathlib.Core.List.{List, [], ◌∷◌}
use Prim.Native.Nat.{ℕ, zero, suc, ◌+◌, ◌-◌, ◌≤◌, ◌<◌}
use native.Mathlib.Omega.{arith}
use native.Mathlib.Decide.{dec_lt}
use borrow.Author.Tests.{lt-ltb, eqb-true}
use lib.Dec.{T, eqb, ltb}
use Rattle.definition.specs.Instructions.{Instr as AnyInstr, Control, onward, stops, returns, resets, end_if, end_loop, ends, if_to, else_to, loop_to}
use Rattle.definition.specs.Instructions.{break_to, break_if_to, jump_control, control, instr_at}
use Rattle.definition.specs.Ops.{ops, row, instr, instr_of, make_at}
use Rattle.theorems.specs.Cover.{no_false}
use Rattle.bytecode.specs.Tables.{all_below, at_each}
use Rattle.bytecode.specs.Meaning.{chunk_of, first_op, op_count, table_instr_at, code_some, code_none}
use Rattle.bytecode.specs.Parts.{any_instr_of, InstrIs}
use Rattle.bytecode.specs.declared.Instr.{Instr}
use Rattle.stretch.specs.Stretch.{straight, leads}

abbrev op : ℕ → ℕ → ℕ → ℕ → AnyInstr
op k a b c = instr (record { code = k; operands = a ∷ b ∷ c ∷ [] })

-- ── Where it leads ────────────────────────────────────────────────────────────────────────

is_onward : Control → Bool
is_onward onward = true
is_onward stops = false
is_onward returns = false
is_onward resets = false
is_onward end_if = false
is_onward end_loop = false
is_onward ends = false
is_onward (if_to t) = false
is_onward (else_to t) = false
is_onward (loop_to t) = false
is_onward (break_to t) = false
is_onward (break_if_to t) = false

onward_is : (k : Control) → T (is_onward k) → k ≡ onward
unfolding is_onward
onward_is onward h = refl
onward_is stops h = absurd h
onward_is returns h = absurd h
onward_is resets h = absurd h
onward_is end_if h = absurd h
onward_is end_loop h = absurd h
onward_is ends h = absurd h
onward_is (if_to t) h = absurd h
onward_is (else_to t) h = absurd h
onward_is (loop_to t) h = absurd h
onward_is (break_to t) h = absurd h
onward_is (break_if_to t) h = absurd h

low_codes : (a b c : ℕ) → T (all_below 64 (λ k. is_onward (control (op k a b c))))
unfolding all_below is_onward control jump_control instr instr_of ops row make_at
low_codes a b c = tt

tail : (a b c j : ℕ) → j < 11 → control (op (64 + j) a b c) ≡ leads (64 + j) a
unfolding leads control jump_control instr instr_of ops row make_at
tail a b c zero h = refl
tail a b c (suc zero) h = refl
tail a b c (suc (suc zero)) h = refl
tail a b c (suc (suc (suc zero))) h = refl
tail a b c (suc (suc (suc (suc zero)))) h = refl
tail a b c (suc (suc (suc (suc (suc zero))))) h = refl
tail a b c (suc (suc (suc (suc (suc (suc zero)))))) h = refl
tail a b c (suc (suc (suc (suc (suc (suc (suc zero))))))) h = refl
tail a b c (suc (suc (suc (suc (suc (suc (suc (suc zero)))))))) h = refl
tail a b c (suc (suc (suc (suc (suc (suc (suc (suc (suc zero))))))))) h = refl
tail a b c (suc (suc (suc (suc (suc (suc (suc (suc (suc (suc zero)))))))))) h = refl
tail a b c (suc (suc (suc (suc (suc (suc (suc (suc (suc (suc (suc m))))))))))) h = absurd (omega arith)

pub leads_low : (k a : ℕ) → k < 64 → leads k a ≡ onward
unfolding leads
leads_low k a h = rw (leads, lt-ltb k 64 h)

control-op : (k a b c : ℕ) → k < 75 → control (op k a b c) ≡ leads k a
control-op k a b c h = elim (dec_lt k 64) [
  | yes l ↦ onward_is (control (op k a b c)) (at_each 64 (λ j. is_onward (control (op j a b c))) (low_codes a b c) k l) ∙ sym (leads_low k a l)
  | no g ↦ (let e : 64 + (k - 64) ≡ k = omega arith in
      subst (λ (j : ℕ). control (op j a b c) ≡ leads j a) e (tail a b c (k - 64) (omega arith)))
]

pub control_code : (r : Instr) → r.code < 75 → control (any_instr_of r) ≡ leads r.code r.a
unfolding any_instr_of
control_code r h = control-op r.code r.a r.b r.c h

-- a straight code leads onward, or is Reset
pub straight-leads : (k a : ℕ) → straight k ≡ true → (leads k a ≡ onward) ⊎ (leads k a ≡ resets)
unfolding straight leads
straight-leads k a h = go (ltb k 64) (eqb k 72) (eqb k 73) refl refl refl h
  where
    go : (x y z : Bool) → ltb k 64 ≡ x → eqb k 72 ≡ y → eqb k 73 ≡ z → x || (y || z) ≡ true → (leads k a ≡ onward) ⊎ (leads k a ≡ resets)
    go true y z e f g q = inl (rw (leads, e))
    go false true z e f g q = inl (subst (λ (j : ℕ). leads j a ≡ onward) (sym (eqb-true k 72 f)) refl)
    go false false true e f g q = inr (subst (λ (j : ℕ). leads j a ≡ resets) (sym (eqb-true k 73 g)) refl)
    go false false false e f g q = absurd (no_false q)

-- ── The instruction at a place ────────────────────────────────────────────────────────────

module _ (t : List ℕ) (k first count p : ℕ) (f : first ≡ first_op t k) (n : count ≡ op_count t k) where
  pub instr_here : p < count → instr_at (chunk_of t k) p ≡ some (table_instr_at t (first + p))
  unfolding instr_at
  instr_here h = code_some t k p (omega arith) ∙ ap (λ (a : ℕ). some (table_instr_at t (a + p))) (sym f)

  pub no_instr : count ≤ p → instr_at (chunk_of t k) p ≡ none
  unfolding instr_at
  no_instr h = code_none t k p (omega arith)

-- what is read there, and where it leads
pub leads_here : (t : List ℕ) (p : ℕ) (r : Instr) → InstrIs t p r → control (table_instr_at t p) ≡ leads r.code r.a
leads_here t p r i = ap control (sym i.same) ∙ control_code r i.code_low

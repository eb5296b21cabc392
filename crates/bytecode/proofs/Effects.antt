-- Need and net of a run of codes, by computing them at each.
use mathlib.Core.Path.{◌≡◌, refl, sym, ap, subst, ◌∙◌}
use mathlib.Core.Bool.{Bool, true, false, ◌||◌}
use mathlib.Core.Logic.{⊎_elim}
use mathlib.Core.List.{List, [], ◌∷◌}
use Prim.Native.Nat.{ℕ, zero, suc, ◌+◌, ◌%◌, ◌≤◌, ◌<◌}
use native.Mathlib.Nat.{eq-or-lt_of_le}
use native.Mathlib.Omega.{arith}
use lib.Dec.{leb, eqb}
use lib.ListN.{length, get_elem?}
use mathlib.Core.Option.{none}
use native.Mathlib.Decide.{dec_lt}
use Rattle.definition.specs.Shapes.{scalar}
use lib.IntN.{ℤ, pos, negsuc, ◌-ℤ◌}
use Rattle.definition.specs.Basics.{choose}
use Rattle.definition.specs.Instructions.{Chunk, Instr as AnyInstr}
use Rattle.definition.specs.Ops.{ops, row, instr, instr_of, make_at}
use Rattle.definition.specs.Effects.{need, takes, net, pushes, shaped_pushes, effect, shaped_need, jump_need, with_bounds, with_flag, Pushed, exact}
use Rattle.definition.specs.Effects.{returned_native}
use Rattle.bytecode.specs.Parts.{any_instr_of, index_pushed, native_pushed, trap_need, EffectIs}
use Rattle.bytecode.specs.declared.Instr.{Instr}
use Rattle.bytecode.specs.declared.Effect.{Effect}

-- ── Codes in a range ──────────────────────────────────────────────────────────────────────

abbrev Each : (ℕ → Type 0) → ℕ → ℕ → Type 0
Each P lo zero = Unit {0}
Each P lo (suc n) = P lo × Each P (suc lo) n

upto : (P : ℕ → Type 0) (lo n : ℕ) → Each P lo n → (k : ℕ) → lo ≤ k → k < lo + n → P k
upto P lo zero h k l u = absurd (omega arith)
upto P lo (suc n) h k l u =
    ⊎_elim (λ e. subst P e h.0) (λ (g : lo < k). upto P (suc lo) n h.1 k g (omega arith)) (eq-or-lt_of_le l)

beyond : {A : Type 0} (xs : List A) (k : ℕ) → length xs ≤ k → get_elem? xs k ≡ none
beyond [] k h = refl
beyond (x ∷ xs) zero h = absurd (omega arith)
beyond (x ∷ xs) (suc k) h = beyond xs k (omega arith)

ops_long : length ops ≡ 75
unfolding ops
ops_long = refl

module _ (i : Instr) (index host : ℕ) where
  abbrev at : ℕ → AnyInstr
  at k = instr (record { code = k; operands = i.a ∷ i.b ∷ i.c ∷ [] })

  -- need n and net z are right at code k
  abbrev Right : ℕ → ℤ → ℕ → Type 0
  Right n z k = (c : Chunk) → c.index_trap ≡ index → c.host_trap ≡ host → (n ≡ need c (at k)) × (z ≡ net c (at k))

  abbrev one : ℕ → ℤ → Effect
  one n z = record { need = n; net = z }

  ranged : (n : ℕ) (z : ℤ) (lo m : ℕ) → Each (Right n z) lo m → lo ≤ i.code → i.code < lo + m → EffectIs i index host (one n z)
  unfolding EffectIs any_instr_of
  ranged n z lo m h l u = upto (Right n z) lo m h i.code l u

  pub pushes_one : 0 ≤ i.code → i.code < 4 → EffectIs i index host (one 0 (pos 1))
  unfolding instr instr_of ops row make_at need takes net pushes shaped_pushes effect shaped_need jump_need with_bounds
  pushes_one l u = ranged 0 (pos 1) 0 4 (λ c p q. (refl, refl), (λ c p q. (refl, refl), (λ c p q. (refl, refl), (λ c p q. (refl, refl), tt)))) l u

  pub dup : 4 ≤ i.code → i.code < 5 → EffectIs i index host (one 1 (pos 1))
  unfolding instr instr_of ops row make_at need takes net pushes shaped_pushes effect shaped_need jump_need with_bounds
  dup l u = ranged 1 (pos 1) 4 1 (λ c p q. (refl, refl), tt) l u

  pub stores : 5 ≤ i.code → i.code < 7 → EffectIs i index host (one 1 (negsuc 0))
  unfolding instr instr_of ops row make_at need takes net pushes shaped_pushes effect shaped_need jump_need with_bounds
  stores l u = ranged 1 (negsuc 0) 5 2 (λ c p q. (refl, refl), (λ c p q. (refl, refl), tt)) l u

  pub get_indexed : 7 ≤ i.code → i.code < 8 → EffectIs i index host (one 2 (pos 5))
  unfolding instr instr_of ops row make_at need takes net pushes shaped_pushes effect shaped_need jump_need with_bounds
  get_indexed l u = ranged 2 (pos 5) 7 1 (λ c p q. (refl, refl), tt) l u

  pub set_indexed : 8 ≤ i.code → i.code < 9 → EffectIs i index host (one 2 (pos 4))
  unfolding instr instr_of ops row make_at need takes net pushes shaped_pushes effect shaped_need jump_need with_bounds
  set_indexed l u = ranged 2 (pos 4) 8 1 (λ c p q. (refl, refl), tt) l u

  pub bounds_check : 9 ≤ i.code → i.code < 10 → EffectIs i index host (one 1 (pos 5))
  unfolding instr instr_of ops row make_at need takes net pushes shaped_pushes effect shaped_need jump_need with_bounds
  bounds_check l u = ranged 1 (pos 5) 9 1 (λ c p q. (refl, refl), tt) l u

  pub index_other : 11 ≤ i.code → i.code < 13 → EffectIs i index host (one 2 (pos 5))
  unfolding instr instr_of ops row make_at need takes net pushes shaped_pushes effect shaped_need jump_need with_bounds
  index_other l u = ranged 2 (pos 5) 11 2 (λ c p q. (refl, refl), (λ c p q. (refl, refl), tt)) l u

  pub binary : 13 ≤ i.code → i.code < 28 → EffectIs i index host (one 2 (negsuc 0))
  unfolding instr instr_of ops row make_at need takes net pushes shaped_pushes effect shaped_need jump_need with_bounds
  binary l u = ranged 2 (negsuc 0) 13 15 (λ c p q. (refl, refl), (λ c p q. (refl, refl), (λ c p q. (refl, refl), (λ c p q. (refl, refl), (λ c p q. (refl, refl), (λ c p q. (refl, refl), (λ c p q. (refl, refl), (λ c p q. (refl, refl), (λ c p q. (refl, refl), (λ c p q. (refl, refl), (λ c p q. (refl, refl), (λ c p q. (refl, refl), (λ c p q. (refl, refl), (λ c p q. (refl, refl), (λ c p q. (refl, refl), tt))))))))))))))) l u

  pub unary : 28 ≤ i.code → i.code < 47 → EffectIs i index host (one 1 (pos 0))
  unfolding instr instr_of ops row make_at need takes net pushes shaped_pushes effect shaped_need jump_need with_bounds
  unary l u = ranged 1 (pos 0) 28 19 (λ c p q. (refl, refl), (λ c p q. (refl, refl), (λ c p q. (refl, refl), (λ c p q. (refl, refl), (λ c p q. (refl, refl), (λ c p q. (refl, refl), (λ c p q. (refl, refl), (λ c p q. (refl, refl), (λ c p q. (refl, refl), (λ c p q. (refl, refl), (λ c p q. (refl, refl), (λ c p q. (refl, refl), (λ c p q. (refl, refl), (λ c p q. (refl, refl), (λ c p q. (refl, refl), (λ c p q. (refl, refl), (λ c p q. (refl, refl), (λ c p q. (refl, refl), (λ c p q. (refl, refl), tt))))))))))))))))))) l u

  pub peeks : 47 ≤ i.code → i.code < 49 → EffectIs i index host (one 1 (pos 1))
  unfolding instr instr_of ops row make_at need takes net pushes shaped_pushes effect shaped_need jump_need with_bounds
  peeks l u = ranged 1 (pos 1) 47 2 (λ c p q. (refl, refl), (λ c p q. (refl, refl), tt)) l u

  pub checked : 54 ≤ i.code → i.code < 62 → EffectIs i index host (one 2 (pos 1))
  unfolding instr instr_of ops row make_at need takes net pushes shaped_pushes effect shaped_need jump_need with_bounds
  checked l u = ranged 2 (pos 1) 54 8 (λ c p q. (refl, refl), (λ c p q. (refl, refl), (λ c p q. (refl, refl), (λ c p q. (refl, refl), (λ c p q. (refl, refl), (λ c p q. (refl, refl), (λ c p q. (refl, refl), (λ c p q. (refl, refl), tt)))))))) l u

  pub checked_neg : 62 ≤ i.code → i.code < 63 → EffectIs i index host (one 1 (pos 2))
  unfolding instr instr_of ops row make_at need takes net pushes shaped_pushes effect shaped_need jump_need with_bounds
  checked_neg l u = ranged 1 (pos 2) 62 1 (λ c p q. (refl, refl), tt) l u

  pub branches : 65 ≤ i.code → i.code < 67 → EffectIs i index host (one 1 (negsuc 0))
  unfolding instr instr_of ops row make_at need takes net pushes shaped_pushes effect shaped_need jump_need with_bounds
  branches l u = ranged 1 (negsuc 0) 65 2 (λ c p q. (refl, refl), (λ c p q. (refl, refl), tt)) l u

  rest_known : 67 ≤ i.code → i.code < 75 → EffectIs i index host (one 0 (pos 0))
  unfolding instr instr_of ops row make_at need takes net pushes shaped_pushes effect shaped_need jump_need with_bounds
  rest_known l u = ranged 0 (pos 0) 67 8 (λ c p q. (refl, refl), (λ c p q. (refl, refl), (λ c p q. (refl, refl), (λ c p q. (refl, refl), (λ c p q. (refl, refl), (λ c p q. (refl, refl), (λ c p q. (refl, refl), (λ c p q. (refl, refl), tt)))))))) l u

  past_all : (k : ℕ) → 75 ≤ k → Right 0 (pos 0) k
  unfolding instr instr_of need takes net pushes jump_need
  past_all k h = λ c p q. (rw (beyond ops k (omega (arith, ops_long))) refl, rw (beyond ops k (omega (arith, ops_long))) refl)

  pub rest : 67 ≤ i.code → EffectIs i index host (one 0 (pos 0))
  unfolding EffectIs any_instr_of
  rest l = elim (dec_lt i.code 75) [ yes p ↦ rest_known l p | no q ↦ past_all i.code (omega arith) ]

  -- An effect that hangs on an operand.
  settle : (n : ℕ) (z : ℤ) (k : ℕ) → Right n z k → k ≡ i.code → (r : Effect) → r.need ≡ n → r.net ≡ z → EffectIs i index host r
  unfolding EffectIs any_instr_of
  settle n z k h e r a b = λ c p q. (let g = subst (Right n z) e h c p q in (a ∙ g.0, b ∙ g.1))

  -- the operand b is taken, and one pushed
  took_b : (k : ℕ) → Right i.b (pos 1 -ℤ pos i.b) k → k ≡ i.code → (r : Effect) → r.need ≡ i.b → r.net ≡ pos 1 -ℤ pos i.b
      → EffectIs i index host r
  took_b k = settle i.b (pos 1 -ℤ pos i.b) k

  pub call : i.code ≡ 49 → (r : Effect) → r.need ≡ i.b → r.net ≡ pos 1 -ℤ pos i.b → EffectIs i index host r
  unfolding instr instr_of ops row make_at need takes net pushes
  call e r = took_b 49 (λ c p q. (refl, refl)) (sym e) r

  composite_at : (k : ℕ) → 52 ≤ k → k < 54 → Right i.b (pos 1 -ℤ pos i.b) k
  unfolding instr instr_of ops row make_at need takes net pushes
  composite_at k l u = upto (Right i.b (pos 1 -ℤ pos i.b)) 52 2 (λ c p q. (refl, refl), (λ c p q. (refl, refl), tt)) k l u

  pub new_composite : 52 ≤ i.code → i.code < 54 → (r : Effect) → r.need ≡ i.b → r.net ≡ pos 1 -ℤ pos i.b → EffectIs i index host r
  new_composite l u r = took_b i.code (composite_at i.code l u) refl r

  pub pop_n : i.code ≡ 63 → (r : Effect) → r.need ≡ i.a → r.net ≡ pos 0 -ℤ pos i.a → EffectIs i index host r
  unfolding instr instr_of ops row make_at need takes net pushes
  pop_n e r = settle i.a (pos 0 -ℤ pos i.a) 63 (λ c p q. (refl, refl)) (sym e) r

  flag_length : (b : Bool) (x : Pushed) → length (with_flag b x) ≡ choose b 2 1
  unfolding with_flag choose
  flag_length true x = refl
  flag_length false x = refl

  bounds_length : (b : Bool) (x : Pushed) → length (with_bounds b x) ≡ choose b 7 1
  unfolding with_bounds choose
  bounds_length true x = refl
  bounds_length false x = refl

  abbrev native_net : ℤ
  native_net = pos (native_pushed i.b) -ℤ pos (i.b % 128)

  flagged_net : (x : Pushed) → native_net ≡ pos (length (with_flag (leb 128 i.b) x)) -ℤ pos (i.b % 128)
  unfolding native_pushed
  flagged_net x = ap (λ (m : ℕ). pos m -ℤ pos (i.b % 128)) (sym (flag_length (leb 128 i.b) x))

  native_at : (k : ℕ) → 50 ≤ k → k < 52 → Right (i.b % 128) native_net k
  unfolding instr instr_of ops row make_at need takes net pushes shaped_pushes shaped_need
  native_at k l u =
      upto (Right (i.b % 128) native_net) 50 2 (
        λ c p q. (refl, flagged_net (returned_native (get_elem? c.natives i.a))),
        (λ c p q. (refl, flagged_net (returned_native (get_elem? c.natives i.a))), tt),
      ) k l u

  pub native_call : 50 ≤ i.code → i.code < 52 → (r : Effect) → r.need ≡ i.b % 128 → r.net ≡ native_net → EffectIs i index host r
  native_call l u r = settle (i.b % 128) native_net i.code (native_at i.code l u) refl r

  abbrev index_net : ℤ
  index_net = pos (index_pushed i.a) -ℤ pos 2

  bounded_net : (x : Pushed) → index_net ≡ pos (length (with_bounds (eqb i.a 2 || eqb i.a 3) x)) -ℤ pos 2
  unfolding index_pushed
  bounded_net x = ap (λ (m : ℕ). pos m -ℤ pos 2) (sym (bounds_length (eqb i.a 2 || eqb i.a 3) x))

  pub index_flat : i.code ≡ 10 → (r : Effect) → r.need ≡ 2 → r.net ≡ index_net → EffectIs i index host r
  unfolding instr instr_of ops row make_at need takes net pushes
  index_flat e r = settle 2 index_net 10 (λ c p q. (refl, bounded_net (exact (scalar i.a)))) (sym e) r

  abbrev trap_net : ℤ
  trap_net = pos 0 -ℤ pos (trap_need i.a index host)

  trap_same : (c : Chunk) → c.index_trap ≡ index → c.host_trap ≡ host
      → trap_need i.a index host ≡ choose (eqb i.a c.index_trap) 5 (choose (eqb i.a c.host_trap) 1 0)
  unfolding trap_need
  trap_same c p q = rw (p, q)

  pub trap : i.code ≡ 64 → (r : Effect) → r.need ≡ trap_need i.a index host → r.net ≡ trap_net → EffectIs i index host r
  unfolding instr instr_of ops row make_at need takes net pushes jump_need
  trap e r =
      settle (trap_need i.a index host) trap_net 64
      (λ c p q. (trap_same c p q, ap (λ (m : ℕ). pos 0 -ℤ pos m) (trap_same c p q))) (sym e) r

-- what `op_depth_effect` gives, code by code
pub ruleset effects = (
  pushes_one,
  dup,
  stores,
  get_indexed,
  set_indexed,
  bounds_check,
  index_flat,
  index_other,
  binary,
  unary,
  peeks,
  call,
  native_call,
  new_composite,
  checked,
  checked_neg,
  pop_n,
  trap,
  branches,
  rest,
)

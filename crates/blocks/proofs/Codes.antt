-- What an instruction is, by its code: where it leads, and which local it writes. Each is one test that is computed over all codes.
use mathlib.Core.Path.{◌≡◌, refl, sym, ap, ◌∙◌}
use mathlib.Core.Logic.{◌≢◌}
use mathlib.Core.Bool.{Bool, true, false, ◌||◌}
use mathlib.Core.Option.{Option, none, some}
use mathlib.Core.List.{[], ◌∷◌}
use Prim.Native.Nat.{ℕ, ◌+◌, ◌<◌}
use borrow.Author.Tests.{ne_eqb}
use lib.Dec.{T, eqb}
use Rattle.definition.specs.Instructions.{Instr as AnyInstr}
use Rattle.definition.specs.Ops.{ops, row, instr, instr_of, make_at}
use Rattle.definition.specs.Effects.{set_local, need}
use Rattle.theorems.specs.Cover.{no_false}
use Rattle.bytecode.specs.Tables.{all_below, at_each}
use Rattle.bytecode.specs.Parts.{any_instr_of, InstrIs, EffectIs}
use Rattle.bytecode.specs.declared.Instr.{Instr}
use Rattle.bytecode.specs.declared.Effect.{Effect}
use Rattle.rules.specs.declared.chunk.Context.{Context}
use Rattle.rules.specs.Answers.{chunk_in}
use Rattle.rules.proofs.Codes.{effect_in}
use Rattle.blocks.specs.Visits.{instr_in}

abbrev op : ℕ → ℕ → ℕ → ℕ → AnyInstr
op k a b c = instr (record { code = k; operands = a ∷ b ∷ c ∷ [] })

-- ── Which local it writes ─────────────────────────────────────────────────────────────────

is_none : Option ℕ → Bool
is_none none = true
is_none (some k) = false

none_is : (o : Option ℕ) → T (is_none o) → o ≡ none
unfolding is_none
none_is none h = refl
none_is (some k) h = absurd h

other_codes : (a b c : ℕ) → T (all_below 75 (λ k. eqb k 5 || is_none (set_local (op k a b c))))
unfolding all_below is_none set_local instr instr_of ops row make_at
other_codes a b c = tt

or_right : (a b : Bool) → a ≡ false → T (a || b) → T b
or_right true b e t = absurd (no_false (sym e))
or_right false b e t = t

pub writes_local : (r : Instr) → r.code ≡ 5 → set_local (any_instr_of r) ≡ some r.a
unfolding any_instr_of set_local instr instr_of ops row make_at
writes_local r e = ap (λ (k : ℕ). set_local (op k r.a r.b r.c)) e

pub writes_none : (r : Instr) → r.code < 75 → r.code ≢ 5 → set_local (any_instr_of r) ≡ none
unfolding any_instr_of
writes_none r h e =
    none_is (set_local (op r.code r.a r.b r.c))
    (or_right (eqb r.code 5) _ (ne_eqb r.code 5 e)
    (at_each 75 (λ k. eqb k 5 || is_none (set_local (op k r.a r.b r.c))) (other_codes r.a r.b r.c) r.code h))

-- ── How many operands it needs ────────────────────────────────────────────────────────────

pub need_is : (x : Context) (ip : ℕ) (i : Instr) (e : Effect) → InstrIs x.tables.now (x.code.first + ip) i → EffectIs i x.index_trap x.host_trap e → e.need ≡ need (chunk_in x) (instr_in x ip)
need_is x ip i e I E = (effect_in x i e E).0 ∙ ap (need (chunk_in x)) I.same

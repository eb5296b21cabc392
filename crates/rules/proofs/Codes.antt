-- The instruction of each code.
use Rattle.std.proofs.Common.{◌≡◌, refl, sym, ap, subst, ℕ, ◌+◌, ◌≤◌, ◌<◌, Bool, true, false, not, ◌&&◌, ◌||◌, List, [], ◌∷◌, length, get_or, leb, eqb, Result, arith}
use Rattle.std.proofs.lemmas.Bool.Decides.{nat_tests}
use lib.Dec.{T}
use mathlib.Core.Logic.{◌⊎◌, inl, inr, ⊎_elim}
use native.Mathlib.Nat.{eq-or-lt_of_le}
use Rattle.definition.specs.Basics.{is_member}
use Rattle.definition.specs.Instructions.{Instr as AnyInstr, Chunk}
use Rattle.definition.specs.Ops.{ops, row, instr, instr_of, make_at}
use Rattle.definition.specs.Shapes.{Shape as AnyShape, unknown}
use Rattle.definition.specs.Effects.{need, net, pushes, effect}
use Rattle.definition.specs.Tests.{Reading, no_flat, field, index, reading, is_blind, is_unknown}
use Rattle.definition.specs.Walk.{State as AnyState}
use Rattle.bytecode.specs.Tables.{all_below, at_each}
use Rattle.bytecode.specs.Meaning.{maxima_of}
use Rattle.bytecode.specs.Parts.{any_instr_of, EffectIs}
use Rattle.bytecode.specs.declared.Instr.{Instr}
use Rattle.answer.specs.declared.Refusal.{Refusal}
use Rattle.rules.specs.declared.Moves.{Moves}
use Rattle.bytecode.specs.declared.Effect.{Effect}
use Rattle.rules.specs.declared.chunk.Context.{Context}
use Rattle.rules.specs.Answers.{Within, chunk_in}
use Rattle.rules.specs.Rules.{Rules, is_generic}

-- the instruction of code k with an instruction's operands
abbrev pub coded : Instr → ℕ → AnyInstr
coded i k = instr (record { code = k; operands = i.a ∷ i.b ∷ i.c ∷ [] })

module _ (i : Instr) (k : ℕ) (e : i.code ≡ k) where
  pub code_at : any_instr_of i ≡ coded i k
  unfolding any_instr_of
  code_at = ap (coded i) e

  pub rules_at : {c : Chunk} {ip : ℕ} {s : AnyState} {r : Result Moves Refusal} → Rules c ip (coded i k) s r → Rules c ip (any_instr_of i) s r
  rules_at {c = c} {ip = ip} {s = s} {r = r} h = subst (λ (j : AnyInstr). Rules c ip j s r) (sym code_at) h

  module _ (w : Within i) where
    pub a_at : i.a ≤ get_or (maxima_of k) 0 0
    a_at = rw e at w.a_low

    pub b_at : i.b ≤ get_or (maxima_of k) 1 0
    b_at = rw e at w.b_low

    pub c_at : i.c ≤ get_or (maxima_of k) 2 0
    c_at = rw e at w.c_low

-- the codes with a rule of their own
abbrev pub own_codes : List ℕ
own_codes = 0 ∷ 1 ∷ 4 ∷ 5 ∷ 7 ∷ 8 ∷ 9 ∷ 10 ∷ 11 ∷ 12 ∷ 36 ∷ 37 ∷ 39 ∷ 40 ∷ 42 ∷ 43 ∷ 46 ∷ 47 ∷ 48 ∷ 49 ∷ 50 ∷ 51 ∷ 52 ∷ []

-- each other one takes what it needs, and pushes at most three
abbrev right : Instr → Chunk → ℕ → Bool
right i c k = is_member k own_codes || (is_generic (coded i k) && leb (length (pushes c (coded i k) [] [])) 3)

all_right : (i : Instr) (c : Chunk) → T (all_below 75 (right i c))
unfolding all_below is_member is_generic pushes effect instr instr_of ops row make_at
all_right i c = tt

split : (a b : Bool) (n : ℕ) → a ≡ false → T (a || (b && leb n 3)) → (b ≡ true) × (n ≤ 3)
split true b n e t = absurd (cc)
split false true n e t = (refl, grind (arith, nat_tests))
split false false n e t = absurd t

pub generic_at : (i : Instr) (c : Chunk) → i.code < 75 → is_member i.code own_codes ≡ false
    → (is_generic (any_instr_of i) ≡ true) × (length (pushes c (any_instr_of i) [] []) ≤ 3)
unfolding any_instr_of
generic_at i c h own = split (is_member i.code own_codes) _ _ own (at_each 75 (right i c) (all_right i c) i.code h)

-- the effect of an instruction of the chunk under check
pub effect_in : (x : Context) (i : Instr) (e : Effect) → EffectIs i x.index_trap x.host_trap e
    → (e.need ≡ need (chunk_in x) (any_instr_of i)) × (e.net ≡ net (chunk_in x) (any_instr_of i))
unfolding EffectIs
effect_in x i e f = f (chunk_in x) x.of.index_is x.of.host_is

pub one_of_two : (n k : ℕ) → k ≤ n → n ≤ k + 1 → (n ≡ k) ⊎ (n ≡ k + 1)
one_of_two n k h l = ⊎_elim (λ e. inl (sym e)) (λ (g : k < n). inr (let q : n ≡ k + 1 = omega arith in q)) (eq-or-lt_of_le h)

-- ── The marks of flat accesses ────────────────────────────────────────────────────────────

either : (n k : ℕ) (b : Bool) → eqb n k || b ≡ true → (n ≡ k) ⊎ (b ≡ true)
either n k true e = inr refl
either n k false e = inl (grind (arith, nat_tests))

abbrev pub Each : (ℕ → Type 0) → List ℕ → Type 0
Each P [] = Unit {0}
Each P (k ∷ ks) = P k × Each P ks

pub at_member : (P : ℕ → Type 0) (ks : List ℕ) (n : ℕ) → Each P ks → is_member n ks ≡ true → P n
unfolding is_member
at_member P [] n h e = absurd (cc)
at_member P (k ∷ ks) n h e = ⊎_elim (λ (q : n ≡ k). subst P (sym q) h.0) (λ q. at_member P ks n h.1 q) (either n k _ e)

-- the codes of flat field reads and of flat indices
abbrev pub field_codes : List ℕ
field_codes = 36 ∷ 37 ∷ 39 ∷ 40 ∷ 42 ∷ 43 ∷ []

abbrev pub index_codes : List ℕ
index_codes = 10 ∷ 11 ∷ []

module _ (i : Instr) (c : Chunk) (st : List AnyShape) where
  abbrev Marks : ℕ → ℕ → Type 0
  Marks above k = is_unknown (get_or st above unknown) ≡ is_blind (reading c (coded i k)) st

  marks_at : (above : ℕ) (ks : List ℕ) → Each (Marks above) ks → is_member i.code ks ≡ true → is_unknown (get_or st above unknown) ≡ is_blind (reading c (any_instr_of i)) st
  unfolding any_instr_of
  marks_at above ks h e = at_member (Marks above) ks i.code h e

  pub field_mark : is_member i.code field_codes ≡ true → is_unknown (get_or st 0 unknown) ≡ is_blind (reading c (any_instr_of i)) st
  unfolding reading is_blind instr instr_of ops row make_at
  field_mark e = marks_at 0 field_codes (refl, (refl, (refl, (refl, (refl, (refl, tt)))))) e

  pub index_mark : is_member i.code index_codes ≡ true → is_unknown (get_or st 1 unknown) ≡ is_blind (reading c (any_instr_of i)) st
  unfolding reading is_blind instr instr_of ops row make_at
  index_mark e = marks_at 1 index_codes (refl, (refl, tt)) e

abbrev is_flat : Reading → Bool
is_flat no_flat = false
is_flat (field at end) = true
is_flat (index w) = true

unflat : (r : Reading) (st : List AnyShape) → is_flat r ≡ false → false ≡ is_blind r st
unfolding is_blind
unflat no_flat st e = refl
unflat (field at end) st e = absurd (cc)
unflat (index w) st e = absurd (cc)

-- each other instruction is no flat access
abbrev other : Instr → Chunk → ℕ → Bool
other i c k = is_member k field_codes || (is_member k index_codes || not (is_flat (reading c (coded i k))))

all_other : (i : Instr) (c : Chunk) → T (all_below 75 (other i c))
unfolding all_below is_member reading instr instr_of ops row make_at
all_other i c = tt

neither : (a b d : Bool) → a ≡ false → b ≡ false → T (a || (b || not d)) → d ≡ false
neither true b d e f t = absurd (cc)
neither false true d e f t = absurd (cc)
neither false false true e f t = absurd t
neither false false false e f t = refl

pub unmarked : (i : Instr) (c : Chunk) (st : List AnyShape) → i.code < 75 → is_member i.code field_codes ≡ false → is_member i.code index_codes ≡ false
    → false ≡ is_blind (reading c (any_instr_of i)) st
unfolding any_instr_of
unmarked i c st h f g =
    unflat (reading c (coded i i.code)) st
    (neither (is_member i.code field_codes) (is_member i.code index_codes) _ f g (at_each 75 (other i c) (all_other i c) i.code h))

-- The locals in which a walk begins.
use mathlib.Core.Path.{◌≡◌, refl, sym, ap, ◌∙◌}
use mathlib.Core.List.{List, [], ◌∷◌, map}
use Prim.Native.Nat.{ℕ, zero, suc, ◌+◌, ◌<◌}
use native.Mathlib.Omega.{arith}
use lib.ListN.{get_or, set, replicate}
use Rattle.definition.specs.Shapes.{Shape, unknown, from_wire}
use Rattle.definition.specs.Instructions.{Sig}
use Rattle.definition.specs.Module.{no_sig}
use Rattle.definition.specs.Walk.{params, start_locals}
use Rattle.frame.specs.declared.State.{State}
use Rattle.frame.specs.Model.{state_of, with_local}
use Rattle.bytecode.specs.Meaning.{chunk_of, known_sigs, chunk_sig}

-- ── Locals ────────────────────────────────────────────────────────────────────────────────

pub param_is : (t : List ℕ) (k i : ℕ) (v : Shape) → v ≡ get_or (map from_wire (get_or (known_sigs t) k no_sig).params) i unknown → v ≡ get_or (params (chunk_of t k)) i unknown
unfolding params
param_is t k i v e = e ∙ ap (λ (g : Sig). get_or (map from_wire g.params) i unknown) (sym (chunk_sig t k))

-- n locals of which the first i are parameters
pub filled : ℕ → ℕ → List Shape → List Shape
filled zero n ps = replicate n unknown
filled (suc i) zero ps = []
filled (suc i) (suc n) [] = unknown ∷ filled i n []
filled (suc i) (suc n) (p ∷ ps) = p ∷ filled i n ps

filled_all : (n : ℕ) (ps : List Shape) → filled n n ps ≡ start_locals n ps
unfolding filled start_locals
filled_all zero ps = refl
filled_all (suc n) [] = ap (λ (l : List Shape). unknown ∷ l) (filled_all n [])
filled_all (suc n) (p ∷ ps) = ap (λ (l : List Shape). p ∷ l) (filled_all n ps)

filled_more : (i n : ℕ) (ps : List Shape) → i < n → set (filled i n ps) i (get_or ps i unknown) ≡ filled (suc i) n ps
unfolding filled
filled_more i zero ps h = absurd (omega arith)
filled_more zero (suc n) [] h = refl
filled_more zero (suc n) (p ∷ ps) h = refl
filled_more (suc i) (suc n) [] h = ap (λ (l : List Shape). unknown ∷ l) (filled_more i n [] (omega arith))
filled_more (suc i) (suc n) (p ∷ ps) h = ap (λ (l : List Shape). p ∷ l) (filled_more i n ps (omega arith))

-- the first i locals are set
pub record Starting (locals i : ℕ) (ps : List Shape) (s : State) : Type 0 where
  pub state : state_of locals s ≡ record { stack = []; locals = filled i locals ps }

pub starting_none : (locals : ℕ) (ps : List Shape) (s : State) → state_of locals s ≡ record { stack = []; locals = replicate locals unknown } → Starting locals 0 ps s
unfolding filled
starting_none locals ps s e = record { state = e }

pub starting_more : (locals i : ℕ) (ps : List Shape) (s r : State) → i < locals → Starting locals i ps s →
    state_of locals r ≡ with_local i (get_or ps i unknown) (state_of locals s) → Starting locals (i + 1) ps r
starting_more locals i ps s r h S e =
    record {
      state =
          e ∙ ap (with_local i (get_or ps i unknown)) S.state
          ∙ ap (λ (l : List Shape). record { stack = []; locals = l }) (filled_more i locals ps h)
          ∙ ap (λ (n : ℕ). record { stack = []; locals = filled n locals ps }) (let q : suc i ≡ i + 1 = omega arith in q);
    }

pub starting_all : (locals i : ℕ) (ps : List Shape) (s : State) → i ≡ locals → Starting locals i ps s → state_of locals s ≡ record { stack = []; locals = start_locals locals ps }
starting_all locals i ps s e S =
    S.state
    ∙ ap (λ (n : ℕ). record { stack = []; locals = filled n locals ps }) e
    ∙ ap (λ (l : List Shape). record { stack = []; locals = l }) (filled_all locals ps)

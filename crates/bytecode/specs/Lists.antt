-- Numbers that are cut to a maximum, lists that are read off a function of a place, and the code's options.
use Rattle.std.specs.Prelude.{◌≡◌, refl, List, [], ◌∷◌, map, ℕ, zero, suc, ◌+◌, ◌≤◌, ◌<◌, min, length, get_or, Option as CodeOption, Some, None, Ok, Err}
use Rattle.std.specs.Option.{ok_or}
use Rattle.std.proofs.Common.{sym, ap, ◌∙◌, arith, add-zero, add-suc, suc-add}
use Rattle.std.proofs.Math.Option.{Option, none, some}
use Rattle.std.proofs.Math.ListN.{get_elem?}

-- ── Options ───────────────────────────────────────────────────────────────────────────────

-- an Option of the code, as the definitions have options
abbrev pub maybe : {A : Type 0} → CodeOption A → Option A
maybe None = none
maybe (Some x) = some x

-- a value that has to be there, by what stands for one that is not
module _ {A E : Type 0} (o : CodeOption A) (e : E) where
  pub ok_had : (x : A) → Ok x ≡ ok_or o e → o ≡ Some x
  ok_had x q = go o q
    where
      go : (p : CodeOption A) → Ok x ≡ ok_or p e → p ≡ Some x
      go None r = absurd (let z : ◌≡◌ {A = ℕ} 0 1 = cc in omega arith)
      go (Some y) r = cc

  pub err_lacked : (f : E) → Err f ≡ ok_or o e → (o ≡ None) × (f ≡ e)
  err_lacked f q = go o q
    where
      go : (p : CodeOption A) → Err f ≡ ok_or p e → (p ≡ None) × (f ≡ e)
      go None r = (refl, cc)
      go (Some y) r = absurd (let z : ◌≡◌ {A = ℕ} 0 1 = cc in omega arith)

-- ── Numbers up to a maximum ───────────────────────────────────────────────────────────────

abbrev pub limited : ℕ → ℕ → ℕ
limited m x = min x m

pub limited-same : (m x : ℕ) → x ≤ m → limited m x ≡ x
limited-same m x h = omega arith

pub limited-over : (m x : ℕ) → m < x → limited m x ≡ m
limited-over m x h = omega arith

pub limited_le : (m x : ℕ) → limited m x ≤ m
limited_le m x = omega arith

-- ── Lists ─────────────────────────────────────────────────────────────────────────────────

-- the values of a function at n places from a on
unfoldable pub tabulate : {A : Type 0} → ℕ → ℕ → (ℕ → A) → List A
tabulate a zero f = []
tabulate a (suc n) f = f a ∷ tabulate (suc a) n f

pub tabulate-length : {A : Type 0} (a n : ℕ) (f : ℕ → A) → length (tabulate a n f) ≡ n
unfolding tabulate
tabulate-length a zero f = refl
tabulate-length a (suc n) f = ap suc (tabulate-length (suc a) n f)

pub tabulate_some : {A : Type 0} (a n : ℕ) (f : ℕ → A) (i : ℕ) → i < n → get_elem? (tabulate a n f) i ≡ some (f (a + i))
unfolding tabulate
tabulate_some a zero f i h = absurd (omega arith)
tabulate_some a (suc n) f zero h = ap (λ (m : ℕ). some (f m)) (sym (add-zero a))
tabulate_some a (suc n) f (suc i) h =
    tabulate_some (suc a) n f i (omega arith) ∙ ap (λ (m : ℕ). some (f m)) (suc-add a i ∙ sym (add-suc a i))

pub tabulate_none : {A : Type 0} (a n : ℕ) (f : ℕ → A) (i : ℕ) → n ≤ i → get_elem? (tabulate a n f) i ≡ none
unfolding tabulate
tabulate_none a zero f i h = refl
tabulate_none a (suc n) f zero h = absurd (omega arith)
tabulate_none a (suc n) f (suc i) h = tabulate_none (suc a) n f i (omega arith)

pub tabulate-at : {A : Type 0} (a n : ℕ) (f : ℕ → A) (d : A) (i : ℕ) → i < n → get_or (tabulate a n f) i d ≡ f (a + i)
unfolding tabulate
tabulate-at a zero f d i h = absurd (omega arith)
tabulate-at a (suc n) f d zero h = ap f (sym (add-zero a))
tabulate-at a (suc n) f d (suc i) h = tabulate-at (suc a) n f d i (omega arith) ∙ ap f (suc-add a i ∙ sym (add-suc a i))

pub tabulate-past : {A : Type 0} (a n : ℕ) (f : ℕ → A) (d : A) (i : ℕ) → n ≤ i → get_or (tabulate a n f) i d ≡ d
unfolding tabulate
tabulate-past a zero f d i h = refl
tabulate-past a (suc n) f d zero h = absurd (omega arith)
tabulate-past a (suc n) f d (suc i) h = tabulate-past (suc a) n f d i (omega arith)

pub tabulate-map : {A B : Type 0} (g : A → B) (a n : ℕ) (f : ℕ → A) → map g (tabulate a n f) ≡ tabulate a n (λ i. g (f i))
unfolding tabulate
tabulate-map g a zero f = refl
tabulate-map g a (suc n) f = ap (λ (l : List _). g (f a) ∷ l) (tabulate-map g (suc a) n f)

-- A list whose entries the function gives.
pub tabulate_list : {A : Type 0} (d : A) (xs : List A) (a : ℕ) (f : ℕ → A) → ((i : ℕ) → i < length xs → f (a + i) ≡ get_or xs i d)
    → tabulate a (length xs) f ≡ xs
unfolding tabulate
tabulate_list d [] a f h = refl
tabulate_list d (x ∷ xs) a f h =
    let e : f a ≡ x = ap f (sym (add-zero a)) ∙ h 0 (omega arith) in
    let r : tabulate (suc a) (length xs) f ≡ xs =
    tabulate_list d xs (suc a) f (λ i l. ap f (suc-add a i ∙ sym (add-suc a i)) ∙ h (suc i) (omega arith)) in
    cc

-- ── Every entry ───────────────────────────────────────────────────────────────────────────

abbrev pub All : {A : Type 0} → (A → Type 0) → List A → Type 0
All P [] = Unit {0}
All P (x ∷ xs) = P x × All P xs

pub all_at : {A : Type 0} (P : A → Type 0) (d : A) (xs : List A) → All P xs → (i : ℕ) → i < length xs → P (get_or xs i d)
all_at P d [] ps i h = absurd (omega arith)
all_at P d (x ∷ xs) ps zero h = ps.0
all_at P d (x ∷ xs) ps (suc i) h = all_at P d xs ps.1 i (omega arith)

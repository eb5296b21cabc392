-- Laws of joined, equal and covered states, slot by slot.
-- Assumes nothing.
use mathlib.Core.Path.{◌≡◌, refl, sym, ap, ◌∙◌}
use mathlib.Core.Bool.{Bool, true, false, ◌&&◌}
use mathlib.Core.List.{List, ◌∷◌}
use Prim.Native.Nat.{ℕ, zero, suc, ◌+◌, ◌≤◌}
use lib.Dec.{eqb}
use native.Mathlib.Nat.{zero-add, add-zero}
use native.Mathlib.Numerals.{add-one}
use native.Mathlib.Omega.{arith}
use Rattle.std.specs.List.{list_all, range_with_len}
use Rattle.definition.specs.Shapes.{Shape as AnyShape, same_shape, same_shapes}
use Rattle.definition.specs.Shapes.{join, join_all}
use Rattle.definition.specs.Walk.{join_states}
use Rattle.frame.specs.declared.State.{State}
use Rattle.shapes.specs.Tabulated.{down, up}
use Rattle.frame.specs.Model.{value_at, state_of, stack_of, locals_of, widened}
use Rattle.frame.specs.Slots.{Written, Changed}
use Rattle.shapes.specs.Cover.{covers, covers_all, covers_state}
use Rattle.shapes.proofs.Lists.{down-same, down-length, up_same}
use Rattle.shapes.proofs.Joins.{covers-join, covers_self, shape_refl}
use Rattle.frame.proofs.Stores.{model}

-- ── Equal values ──────────────────────────────────────────────────────────────────────────

pub same_equal : (x y : AnyShape) → x ≡ y → same_shape x y ≡ true
same_equal x y e = ap (same_shape x) (sym e) ∙ shape_refl x

pub covers_equal : (x y : AnyShape) → x ≡ y → covers x y ≡ true
covers_equal x y e = ap (covers x) (sym e) ∙ covers_self x

-- ── Joins ─────────────────────────────────────────────────────────────────────────────────

-- a slot that covers the other's is its join
pub join_covered : (s b : State) (i : ℕ) → covers (value_at s i) (value_at b i) ≡ true → Written s i (join (value_at s i) (value_at b i)) s
join_covered s b i e = record { height = refl; here = sym (covers-join (value_at s i) (value_at b i) e); there = λ j n. refl }

join-down : (f g : ℕ → AnyShape) (n : ℕ) → join_all (down f n) (down g n) ≡ down (λ j. join (f j) (g j)) n
unfolding join_all
join-down f g zero = refl
join-down f g (suc n) = ap (λ (l : List AnyShape). join (f n) (g n) ∷ l) (join-down f g n)

join_up : (f g : ℕ → AnyShape) (lo n : ℕ) → join_all (up f lo n) (up g lo n) ≡ up (λ j. join (f j) (g j)) lo n
unfolding join_all
join_up f g lo zero = refl
join_up f g lo (suc n) = ap (λ (l : List AnyShape). join (f lo) (g lo) ∷ l) (join_up f g (suc lo) n)

pub widen_law : (a b r : State) (n : ℕ) → a.height ≤ 64 → n ≤ 32 → Changed a 64 (64 + n) (λ j. join (value_at a j) (value_at b j)) r
    → state_of n r ≡ widened (state_of n a) (state_of n b)
widen_law a b r n l h q =
    model (ap (λ (n : ℕ). down (value_at r) n) q.height ∙ down-same (value_at r) (value_at a) a.height (λ j u. q.there j (λ v w. omega arith)))
    (up_same (value_at r) (λ j. join (value_at a j) (value_at b j)) 64 n (λ j v u. q.here j v u) ∙ sym (join_up (value_at a) (value_at b) 64 n))

pub join_law : (a b m r : State) (n : ℕ) → a.height ≤ 64 → a.height ≡ b.height → n ≤ 32 → Changed a 0 a.height (λ j. join (value_at a j) (value_at b j)) m
    → Changed m 64 (64 + n) (λ j. join (value_at m j) (value_at b j)) r → state_of n r ≡ join_states (state_of n a) (state_of n b)
join_law a b m r n l e h p q =
    let f : ℕ → AnyShape = value_at a in
    let g : ℕ → AnyShape = value_at b in
    let k : ℕ → AnyShape = value_at r in
    model
    (ap (λ (n : ℕ). down k n) (q.height ∙ p.height)
    ∙ down-same k (λ j. join (f j) (g j)) a.height (λ j u. q.there j (λ v w. omega arith) ∙ p.here j (omega arith) u)
    ∙ sym (join-down f g a.height)
    ∙ ap (λ (n : ℕ). join_all (down f a.height) (down g n)) e)
    (up_same k (λ j. join (f j) (g j)) 64 n (λ j v u. q.here j v u ∙ ap (λ (x : AnyShape). join x (g j)) (p.there j (λ x w. omega arith))) ∙ sym (join_up f g 64 n))

-- ── Slots that all pass a test ────────────────────────────────────────────────────────────

and_swap : (a b c : Bool) → a && (b && c) ≡ b && (a && c)
and_swap true b c = refl
and_swap false true c = refl
and_swap false false c = refl

-- the last of a row of numbers, taken first
all_last : (test : ℕ → Bool) (a n : ℕ) → list_all test (range_with_len a (suc n)) ≡ test (a + n) && list_all test (range_with_len a n)
all_last test a zero = ap (λ (k : ℕ). test k && true) (sym (add-zero a))
all_last test a (suc n) =
    ap (λ (b : Bool). test a && b) (all_last test (a + 1) n)
    ∙ and_swap (test a) (test (a + 1 + n)) (list_all test (range_with_len (a + 1) n))
    ∙ ap (λ (k : ℕ). test k && list_all test (range_with_len a (suc n))) (let e : a + 1 + n ≡ a + suc n = omega arith in e)

locals_same : (f g : ℕ → AnyShape) (lo n : ℕ) → list_all (λ j. same_shape (f j) (g j)) (range_with_len lo n) ≡ same_shapes (up f lo n) (up g lo n)
unfolding same_shapes
locals_same f g lo zero = refl
locals_same f g lo (suc n) = ap (λ (b : Bool). same_shape (f lo) (g lo) && b) (rw add-one (locals_same f g (suc lo) n))

downs_same : (f g : ℕ → AnyShape) (n : ℕ) → list_all (λ j. same_shape (f j) (g j)) (range_with_len 0 n) ≡ same_shapes (down f n) (down g n)
unfolding same_shapes
downs_same f g zero = refl
downs_same f g (suc n) =
    all_last (λ j. same_shape (f j) (g j)) 0 n ∙ rw zero-add (ap (λ (b : Bool). same_shape (f n) (g n) && b) (downs_same f g n))

pub locals_cover : (f g : ℕ → AnyShape) (lo n : ℕ) → list_all (λ j. covers (f j) (g j)) (range_with_len lo n) ≡ covers_all (up f lo n) (up g lo n)
unfolding covers covers_all
locals_cover f g lo n =
    locals_same (λ j. join (f j) (g j)) f lo n ∙ ap (λ (l : List AnyShape). same_shapes l (up f lo n)) (sym (join_up f g lo n))

-- operands of one height
module _ (s b : State) (e : s.height ≡ b.height) where
  pub stack_same : list_all (λ j. same_shape (value_at s j) (value_at b j)) (range_with_len 0 s.height) ≡ same_shapes (stack_of s) (stack_of b)
  stack_same =
      downs_same (value_at s) (value_at b) s.height ∙ ap (λ (n : ℕ). same_shapes (stack_of s) (down (value_at b) n)) e

  pub stack_covers : list_all (λ j. covers (value_at s j) (value_at b j)) (range_with_len 0 s.height) ≡ covers_all (stack_of s) (stack_of b)
  unfolding covers covers_all
  stack_covers =
      downs_same (λ j. join (value_at s j) (value_at b j)) (value_at s) s.height
      ∙ ap (λ (l : List AnyShape). same_shapes l (stack_of s)) (sym (join-down (value_at s) (value_at b) s.height))
      ∙ ap (λ (n : ℕ). same_shapes (join_all (stack_of s) (down (value_at b) n)) (stack_of s)) e

downs_apart : (f g : ℕ → AnyShape) (m n : ℕ) → (m ≡ n → ⊥) → same_shapes (down f m) (down g n) ≡ false
unfolding same_shapes
downs_apart f g zero zero n = absurd (n refl)
downs_apart f g zero (suc k) n = refl
downs_apart f g (suc m) zero n = refl
downs_apart f g (suc m) (suc k) n = rw (downs_apart f g m k (λ e. n (ap suc e))) (and_false (same_shape (f m) (g k)))
  where
    and_false : (a : Bool) → a && false ≡ false
    and_false true = refl
    and_false false = refl

-- operands of two heights
pub stacks_apart : (s b : State) → (s.height ≡ b.height → ⊥) → same_shapes (stack_of s) (stack_of b) ≡ false
stacks_apart s b n = downs_apart (value_at s) (value_at b) s.height b.height n

-- operands and locals together
pub state_covers : (a b : State) (n : ℕ) → covers_state (state_of n a) (state_of n b) ≡ (eqb a.height b.height && covers_all (stack_of a) (stack_of b)) && covers_all (locals_of n a) (locals_of n b)
unfolding covers_state
state_covers a b n = simp (down-length (value_at a) a.height, down-length (value_at b) b.height)

-- Laws of slots that change, as steps on the definition's states.
-- Assumes nothing.
use mathlib.Core.Path.{◌≡◌, refl, sym, ap, subst, ◌∙◌}
use mathlib.Core.Logic.{⊎_elim}
use mathlib.Core.List.{List, [], ◌++◌}
use Prim.Native.Nat.{ℕ, ◌+◌, ◌*◌, ◌-◌, ◌≤◌, ◌<◌}
use native.Mathlib.Omega.{arith}
use lib.ListN.{get_or, drop, replicate, get_or-eq_default, get_or-replicate}
use lib.Seq.{set_out}
use Rattle.definition.specs.Shapes.{Shape as AnyShape, unknown}
use Rattle.definition.specs.Walk.{State as AnyState}
use Rattle.frame.specs.declared.State.{State}
use Rattle.shapes.specs.Tabulated.{down, up}
use Rattle.shapes.specs.Model.{shape_of}
use Rattle.frame.specs.Words.{slot_of, shape_in, count_in}
use Rattle.frame.specs.Model.{valued, value_at, state_of, stack_of, locals_of, popped, replaced, with_local}
use Rattle.frame.specs.Slots.{Written, Changed, SameOperands}
use Rattle.shapes.proofs.Lists.{lt_or_ge, down-at, down-past, down-same, down-drop, down-filled, up_same, up-set, up-length, up-replicate}

-- ── Slots that change one after another ───────────────────────────────────────────────────

pub change_none : (s : State) (lo : ℕ) (f : ℕ → AnyShape) → Changed s lo lo f s
change_none s lo f = record { height = refl; here = λ j l u. absurd (omega arith); there = λ j n. refl }

-- a turn writes the value of f in the next slot
pub change_more : (s o r : State) (lo i : ℕ) (f : ℕ → AnyShape) → lo ≤ i → Changed s lo i f o → Written o i (f i) r → Changed s lo (i + 1) f r
change_more s o r lo i f h k w =
    record {
      height = w.height ∙ k.height;
      here = λ j l u. ⊎_elim (λ (a : j < i). w.there j (λ e. omega arith) ∙ k.here j l a)
          (λ (a : i ≤ j). subst (λ (z : ℕ). value_at r z ≡ f z) (let e : i ≡ j = omega arith in e) w.here) (lt_or_ge j i);
      there = λ j n. w.there j (λ e. n (omega arith) (omega arith)) ∙ k.there j (λ l u. n l (omega arith));
    }

pub change_done : (s r : State) (lo i hi : ℕ) (f : ℕ → AnyShape) → i ≡ hi → Changed s lo i f r → Changed s lo hi f r
change_done s r lo i hi f e k = subst (λ (z : ℕ). Changed s lo z f r) e k

pub ruleset changes = (change_none, change_more, change_done)

-- what is written among the locals leaves the operands
pub written_above : (s r : State) (i : ℕ) (v : AnyShape) → Written s (64 + i) v r → SameOperands s r
written_above s r i v w j h = w.there j (λ e. omega arith)

pub changed_above : (s r : State) (hi : ℕ) (f : ℕ → AnyShape) → Changed s 64 hi f r → SameOperands s r
changed_above s r hi f c j h = c.there j (λ l u. omega arith)

pub nothing_written : (s : State) → SameOperands s s
nothing_written s j h = refl

pub ruleset operands = (written_above, changed_above, nothing_written)

-- ── Steps on the definition's states ──────────────────────────────────────────────────────

pub model : {a b c d : List AnyShape} → a ≡ b → c ≡ d → ◌≡◌ {A = AnyState} (record { stack = a; locals = c }) (record { stack = b; locals = d })
model p q = λ i. record { stack = p i; locals = q i }

-- the same slots and fewer operands
pub pop_law : (s : State) (n locals : ℕ) → n ≤ s.height
    → ◌≡◌ {A = AnyState} (record { stack = down (value_at s) (s.height - n); locals = locals_of locals s }) (popped n (state_of locals s))
pop_law s n locals h = model (down-drop (value_at s) n s.height h) refl

module _ (s m r : State) (t x y : ℕ) (v w : AnyShape) (ht : t ≤ s.height) (hh : s.height - t + x + y ≤ 64)
    (p : Changed s (s.height - t) (s.height - t + x) (λ j. v) m) (q : Changed m (s.height - t + x) (s.height - t + x + y) (λ j. w) r) where
  pub replace_law : (n : ℕ) → n ≤ 32
      → ◌≡◌ {A = AnyState} (record { stack = down (value_at r) (s.height - t + x + y); locals = locals_of n r }) (replaced t v x w y (state_of n s))
  replace_law n l =
      let a : ℕ = s.height - t in
      let f : ℕ → AnyShape = value_at s in
      let g : ℕ → AnyShape = value_at m in
      let k : ℕ → AnyShape = value_at r in
      model
      (down-filled k w (a + x) y (λ j b c. q.here j b c)
      ∙ ap (λ (z : List AnyShape). replicate y w ++ z)
      (down-same k g (a + x) (λ j c. q.there j (λ b d. omega arith))
      ∙ down-filled g v a x (λ j b c. p.here j b c)
      ∙ ap (λ (z : List AnyShape). replicate x v ++ z) (down-same g f a (λ j c. p.there j (λ b d. omega arith)) ∙ down-drop f t s.height ht)))
      (up_same k f 64 n (λ j b c. q.there j (λ d e. omega arith) ∙ p.there j (λ d e. omega arith)))

pub local_law : (s r : State) (i : ℕ) (v : AnyShape) (n : ℕ) → s.height ≤ 64 → i < n → n ≤ 32 → Written s (64 + i) v r → state_of n r ≡ with_local i v (state_of n s)
local_law s r i v n h l b w =
    model (ap (λ (n : ℕ). down (value_at r) n) w.height ∙ down-same _ _ s.height (λ j u. w.there j (λ e. omega arith)))
    (up-set _ _ 64 n i v l w.here (λ j n. w.there j n))

pub local_past : (s : State) (i : ℕ) (v : AnyShape) (n : ℕ) → n ≤ i → state_of n s ≡ with_local i v (state_of n s)
local_past s i v n h = model refl (sym (set_out (locals_of n s) i v (rw (up-length (value_at s) 64 n) h)))

pub ruleset locals = (local_law, local_past)

pub top_at : (s : State) (i : ℕ) → i < s.height → value_at s (s.height - 1 - i) ≡ get_or (stack_of s) i unknown
top_at s i l = down-at (value_at s) s.height i unknown l

pub top_past : (s : State) (i : ℕ) → s.height ≤ i → unknown ≡ get_or (stack_of s) i unknown
top_past s i l = down-past (value_at s) s.height i unknown l

pub ruleset tops = (top_at, top_past)

pub get_past : (s : State) (i n : ℕ) → n ≤ i → unknown ≡ get_or (locals_of n s) i unknown
get_past s i n h = sym (get_or-eq_default (locals_of n s) unknown (rw (up-length (value_at s) 64 n) h))

-- words of zero are unknown locals
pub empty_law : (slots places : List ℕ) (n : ℕ) → n ≤ 32 → slots ≡ replicate 96 0
    → ◌≡◌ {A = AnyState} (record { stack = []; locals = up (λ i. valued (slot_of (get_or slots i 0)) (drop (i * 16) places)) 64 n }) (record { stack = []; locals = replicate n unknown })
unfolding valued slot_of shape_in count_in shape_of
empty_law slots places n l e =
    model refl
    (up-replicate (λ i. valued (slot_of (get_or slots i 0)) (drop (i * 16) places)) unknown 64 n
    (λ j a b. rw (e, get_or-replicate {A = ℕ} 96 j 0 0 (let q : j < 96 = omega arith in q))))

-- ── Copies ────────────────────────────────────────────────────────────────────────────────

-- operands and then locals
pub copy_law : (s b m r : State) (n : ℕ) → b.height ≤ 64 → n ≤ 32 → Changed s 0 b.height (value_at b) m → Changed m 64 (64 + n) (value_at b) r
    → ◌≡◌ {A = AnyState} (record { stack = down (value_at r) b.height; locals = locals_of n r }) (state_of n b)
copy_law s b m r n h l p q =
    model (down-same (value_at r) (value_at b) b.height (λ j u. q.there j (λ v w. omega arith) ∙ p.here j (omega arith) u)) (up_same (value_at r) (value_at b) 64 n (λ j v u. q.here j v u))

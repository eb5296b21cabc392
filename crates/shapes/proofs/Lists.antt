-- Laws of copying loops and of tabulated lists.
-- Assumes nothing.
use mathlib.Core.Path.{◌≡◌, refl, sym, ap, ap₂, subst, ◌∙◌}
use mathlib.Core.Logic.{◌⊎◌, inl, inr, ⊎_elim}
use mathlib.Core.List.{List, ◌∷◌, ◌++◌, append_assoc}
use Prim.Native.Nat.{ℕ, zero, suc, ◌+◌, ◌*◌, ◌-◌, ◌≤◌, ◌<◌}
use native.Mathlib.Nat.{zero-add, le_antisymm, add-zero, add-suc}
use native.Mathlib.Decide.{dec_lt}
use native.Mathlib.Numerals.{add-one}
use native.Mathlib.Omega.{arith}
use lib.ListN.{length, get_or, set, take, drop, replicate, length-take, length-drop, get_or-append, get_or-eq_default}
use lib.Seq.{paste, paste-suc, get_or-drop, get_or-take, get_or-append-add, length-take-le, length-paste, length_paste_head, drop_at, take_at, ext_get_or}
use Rattle.shapes.specs.Tabulated.{down, up}

pub lt_or_ge : (k n : ℕ) → (k < n) ⊎ (n ≤ k)
lt_or_ge k n = elim (dec_lt k n) [ yes p ↦ inl p | no q ↦ inr (omega arith) ]

-- ── Copying ───────────────────────────────────────────────────────────────────────────────

-- a turn of a loop that copies s into d from at on
pub copy_more : (d : List ℕ) (at : ℕ) (s out : List ℕ) (j : ℕ) → out ≡ paste d at s j → at + j < length d → j < length s
    → set out (at + j) (get_or s j 0) ≡ paste d at s (j + 1)
copy_more d at s out j e hd hs = rw (e, add-one) (paste-suc d at s j 0 hd hs)

pub copy_done : (d : List ℕ) (at : ℕ) (s out : List ℕ) (j n : ℕ) → out ≡ paste d at s j → j ≤ n → n ≤ j → out ≡ paste d at s n
copy_done d at s out j n e l g = e ∙ ap (λ (k : ℕ). paste d at s k) (le_antisymm l g)

-- a turn of a loop that copies the elements of d from at on to the front of out
pub cut-more : (d : List ℕ) (at : ℕ) (z out : List ℕ) (j : ℕ) → out ≡ paste z 0 (drop at d) j → j < length z → at + j < length d
    → set out j (get_or d (at + j) 0) ≡ paste z 0 (drop at d) (j + 1)
cut-more d at z out j e hz hd =
    let s : List ℕ = drop at d in
    let t : set (paste z 0 s j) (0 + j) (get_or s j 0) ≡ paste z 0 s (suc j)
    = paste-suc z 0 s j 0 (rw zero-add hz) (rw length-drop (omega arith)) in
    rw (e, ← get_or-drop at d j 0, add-one) (subst (λ (k : ℕ). set (paste z 0 s j) k (get_or s j 0) ≡ paste z 0 s (suc j)) (zero-add j) t)

-- ── Tabulated lists ───────────────────────────────────────────────────────────────────────

pub down-same : {A : Type 0} (f g : ℕ → A) (n : ℕ) → ((j : ℕ) → j < n → f j ≡ g j) → down f n ≡ down g n
down-same f g zero h = refl
down-same f g (suc n) h = ap₂ (λ x xs. x ∷ xs) (h n (omega arith)) (down-same f g n (λ j l. h j (omega arith)))

pub down-drop : {A : Type 0} (f : ℕ → A) (n h : ℕ) → n ≤ h → down f (h - n) ≡ drop n (down f h)
down-drop f zero h l = ap (λ (k : ℕ). down f k) (let e : h - 0 ≡ h = omega arith in e)
down-drop f (suc n) zero l = absurd (omega arith)
down-drop f (suc n) (suc h) l = ap (λ (k : ℕ). down f k) (let e : suc h - suc n ≡ h - n = omega arith in e) ∙ down-drop f n h (omega arith)

pub down-at : {A : Type 0} (f : ℕ → A) (h i : ℕ) (d : A) → i < h → f (h - 1 - i) ≡ get_or (down f h) i d
down-at f zero i d l = absurd (omega arith)
down-at f (suc h) zero d l = ap f (let e : suc h - 1 - 0 ≡ h = omega arith in e)
down-at f (suc h) (suc i) d l = ap f (let e : suc h - 1 - suc i ≡ h - 1 - i = omega arith in e) ∙ down-at f h i d (omega arith)

pub up-length : {A : Type 0} (f : ℕ → A) (lo n : ℕ) → length (up f lo n) ≡ n
up-length f lo zero = refl
up-length f lo (suc n) = ap suc (up-length f (suc lo) n)

pub down-length : {A : Type 0} (f : ℕ → A) (n : ℕ) → length (down f n) ≡ n
down-length f zero = refl
down-length f (suc n) = ap suc (down-length f n)

pub up_same : {A : Type 0} (f g : ℕ → A) (lo n : ℕ) → ((j : ℕ) → lo ≤ j → j < lo + n → f j ≡ g j) → up f lo n ≡ up g lo n
up_same f g lo zero h = refl
up_same f g lo (suc n) h = ap₂ (λ x xs. x ∷ xs) (h lo (omega arith) (omega arith)) (up_same f g (suc lo) n (λ j l u. h j (omega arith) (omega arith)))

pub get_d_up : {A : Type 0} (f : ℕ → A) (lo n i : ℕ) (d : A) → i < n → get_or (up f lo n) i d ≡ f (lo + i)
get_d_up f lo zero i d h = absurd (omega arith)
get_d_up f lo (suc n) zero d h = ap f (sym (add-zero lo))
get_d_up f lo (suc n) (suc i) d h = get_d_up f (suc lo) n i d (omega arith) ∙ ap f (let e : suc lo + i ≡ lo + suc i = omega arith in e)

pub up-set : {A : Type 0} (f g : ℕ → A) (lo n i : ℕ) (v : A) → i < n → g (lo + i) ≡ v → ((j : ℕ) → (j ≡ lo + i → ⊥) → g j ≡ f j)
    → up g lo n ≡ set (up f lo n) i v
up-set f g lo zero i v h e o = absurd (omega arith)
up-set f g lo (suc n) zero v h e o =
    ap₂ (λ x xs. x ∷ xs) (ap g (sym (add-zero lo)) ∙ e) (up_same g f (suc lo) n (λ j l u. o j (λ q. omega arith)))
up-set f g lo (suc n) (suc i) v h e o =
    ap₂ (λ x xs. x ∷ xs) (o lo (λ q. omega arith))
    (up-set f g (suc lo) n i v (omega arith) (ap g (let q : suc lo + i ≡ lo + suc i = omega arith in q) ∙ e) (λ j n. o j (λ q. n (omega arith))))

pub down-past : {A : Type 0} (f : ℕ → A) (h i : ℕ) (d : A) → h ≤ i → d ≡ get_or (down f h) i d
down-past f h i d l = sym (get_or-eq_default (down f h) d (rw (down-length f h) l))

-- a stretch on top that has one value
pub down-filled : {A : Type 0} (f : ℕ → A) (v : A) (lo m : ℕ) → ((j : ℕ) → lo ≤ j → j < lo + m → f j ≡ v) → down f (lo + m) ≡ replicate m v ++ down f lo
down-filled f v lo zero h = ap (λ (k : ℕ). down f k) (add-zero lo)
down-filled f v lo (suc m) h =
    ap (λ (k : ℕ). down f k) (add-suc lo m)
    ∙ ap₂ (λ x xs. x ∷ xs) (h (lo + m) (omega arith) (omega arith)) (down-filled f v lo m (λ j l u. h j l (omega arith)))

-- the same value everywhere
pub up-replicate : {A : Type 0} (f : ℕ → A) (a : A) (lo n : ℕ) → ((j : ℕ) → lo ≤ j → j < lo + n → f j ≡ a) → up f lo n ≡ replicate n a
up-replicate f a lo zero h = refl
up-replicate f a lo (suc n) h = ap₂ (λ x xs. x ∷ xs) (h lo (omega arith) (omega arith)) (up-replicate f a (suc lo) n (λ j l u. h j (omega arith) (omega arith)))

-- ── A stretch that is pasted over, and the others ─────────────────────────────────────────

module _ (d : List ℕ) (at : ℕ) (s : List ℕ) (n : ℕ) (hd : at + n ≤ length d) (hs : n ≤ length s) where
  head : length (take at d ++ take n s) ≡ at + n
  head = length_paste_head d at s n (omega arith) (omega arith)

  pub pasted_here : take n (drop at (paste d at s n)) ≡ take n s
  pasted_here =
      ap (λ (l : List ℕ). take n (drop at l)) (append_assoc (take at d) (take n s) (drop (at + n) d))
      ∙ ap (λ (l : List ℕ). take n l) (drop_at (take at d) (take n s ++ drop (at + n) d) at (length-take-le at d (omega arith)))
      ∙ take_at (take n s) (drop (at + n) d) n (length-take-le n s (omega arith))

  pasted_before : (k : ℕ) → k < at → get_or (paste d at s n) k 0 ≡ get_or d k 0
  pasted_before k h =
      ap (λ (l : List ℕ). get_or l k 0) (append_assoc (take at d) (take n s) (drop (at + n) d))
      ∙ get_or-append (take at d) (take n s ++ drop (at + n) d) 0 k (rw (length-take-le at d (omega arith)) h)
      ∙ get_or-take at d k 0 h

  pasted_after : (k : ℕ) → at + n ≤ k → get_or (paste d at s n) k 0 ≡ get_or d k 0
  pasted_after k h =
      let m : ℕ = k - (at + n) in
      let e : length (take at d ++ take n s) + m ≡ k = ap (λ (j : ℕ). j + m) head ∙ omega arith in
      ap (λ (j : ℕ). get_or (paste d at s n) j 0) (sym e)
      ∙ get_or-append-add (take at d ++ take n s) (drop (at + n) d) m 0
      ∙ get_or-drop (at + n) d m 0
      ∙ ap (λ (j : ℕ). get_or d j 0) (let q : at + n + m ≡ k = omega arith in q)

-- of stretches of sixteen, only the one that is pasted over changes
module _ (ps : List ℕ) (i : ℕ) (v : List ℕ) (n : ℕ) (hi : i < 96) (hp : length ps ≡ 1536) (hn : n ≤ 16) (hv : n ≤ length v) where
  pub stretch_other : (j : ℕ) → (j ≡ i → ⊥) → take 16 (drop (j * 16) (paste ps (i * 16) v n)) ≡ take 16 (drop (j * 16) ps)
  stretch_other j ne =
      ext_get_or 0 (take 16 (drop (j * 16) (paste ps (i * 16) v n))) (take 16 (drop (j * 16) ps)) same_length each
    where
      same_length : length (take 16 (drop (j * 16) (paste ps (i * 16) v n))) ≡ length (take 16 (drop (j * 16) ps))
      same_length = simp (length-take, length-drop, length-paste ps (i * 16) v n (omega arith) (omega arith))

      other : (k : ℕ) → k < 16 → get_or (paste ps (i * 16) v n) (j * 16 + k) 0 ≡ get_or ps (j * 16 + k) 0
      other k h =
          ⊎_elim (λ (l : j < i). pasted_before ps (i * 16) v n (omega arith) (omega arith) (j * 16 + k) (omega arith))
          (λ (g : i ≤ j). pasted_after ps (i * 16) v n (omega arith) (omega arith) (j * 16 + k) (omega arith)) (lt_or_ge j i)

      each : (k : ℕ) → k < length (take 16 (drop (j * 16) (paste ps (i * 16) v n)))
          → get_or (take 16 (drop (j * 16) (paste ps (i * 16) v n))) k 0 ≡ get_or (take 16 (drop (j * 16) ps)) k 0
      each k h =
          let l : k < 16 = omega (arith, length-take 16 (drop (j * 16) (paste ps (i * 16) v n))) in
          get_or-take 16 (drop (j * 16) (paste ps (i * 16) v n)) k 0 l
          ∙ get_or-drop (j * 16) (paste ps (i * 16) v n) k 0
          ∙ other k l
          ∙ sym (get_or-take 16 (drop (j * 16) ps) k 0 l ∙ get_or-drop (j * 16) ps k 0)

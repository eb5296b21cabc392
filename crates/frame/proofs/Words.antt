-- Laws of the words of slots, and of the places that they count.
-- Assumes nothing.
use mathlib.Core.Path.{◌≡◌, refl, sym, ap, ◌∙◌}
use mathlib.Core.Bool.{Bool, true, false, cond}
use mathlib.Core.List.{List, []}
use Prim.Native.Nat.{ℕ, ◌*◌, ◌/◌, ◌%◌, ◌≤◌, ◌<◌}
use native.Mathlib.Omega.{arith}
use lib.Dec.{leb}
use lib.ListN.{length, get_or, set, take, drop}
use lib.Seq.{paste, take-take, take_all, get_or-set_same, get_or-set_other}
use borrow.Author.Tests.{leb-true}
use Rattle.std.specs.Prelude.{Option as Maybe, Some, None}
use Rattle.std.proofs.Math.Option.{Option, some}
use Rattle.definition.specs.Instructions.{Chunk}
use Rattle.shapes.specs.declared.Shape.{Shape}
use Rattle.shapes.specs.Text.{packed_of, bytes}
use Rattle.frame.specs.declared.State.{State}
use Rattle.frame.specs.declared.slot.Slot.{Slot}
use Rattle.shapes.specs.declared.Value.{Value}
use Rattle.shapes.specs.declared.places.Places.{Places}
use Rattle.shapes.specs.Model.{shape_of, plain_of, places_of, list_of, value_of}
use Rattle.frame.specs.Words.{slot_of, count_in, counted}
use Rattle.frame.specs.Model.{valued, value_at, places_in}
use Rattle.frame.specs.Slots.{Written}
use Rattle.shapes.proofs.Lists.{pasted_here, stretch_other}

-- ── Counts ────────────────────────────────────────────────────────────────────────────────

few_in : (k : ℕ) (b : Bool) → leb k 16 ≡ b → counted (cond b (Some k) None) ≤ 16
few_in k true e = leb-true k 16 e
few_in k false e = omega arith

-- a word counts at most sixteen places
pub few_counted : (w : ℕ) → counted (slot_of w).count ≤ 16
unfolding slot_of count_in
few_counted w = few_in (w / 1024 % 256) _ refl

sixteen_in : (k : ℕ) (ps : List ℕ) (b : Bool) → leb k 16 ≡ b → places_in (cond b (Some k) None) ps ≡ places_in (cond b (Some k) None) (take 16 ps)
sixteen_in k ps true e = ap some (sym (take-take k 16 ps (leb-true k 16 e)))
sixteen_in k ps false e = refl

-- so no others are looked at
valued_sixteen : (w : ℕ) (ps : List ℕ) → valued (slot_of w) ps ≡ valued (slot_of w) (take 16 ps)
unfolding valued slot_of count_in
valued_sixteen w ps = ap (shape_of (slot_of w).shape) (sixteen_in (w / 1024 % 256) ps _ refl)

-- the places that are counted are a part of those
pub places_counted : (n : Maybe ℕ) (ps qs : List ℕ) → take (counted n) ps ≡ take (counted n) qs → places_in n ps ≡ places_in n qs
places_counted None ps qs e = refl
places_counted (Some n) ps qs e = ap some e

pub valued_counted : (slot : Slot) (ps qs : List ℕ) → take (counted slot.count) ps ≡ take (counted slot.count) qs → valued slot ps ≡ valued slot qs
unfolding valued
valued_counted slot ps qs e = ap (shape_of slot.shape) (places_counted slot.count ps qs e)

-- equal words without places stand for equal values
pub plain_same : (s b : State) (i : ℕ) → get_or s.slots i 0 ≡ get_or b.slots i 0 → counted (slot_of (get_or s.slots i 0)).count ≡ 0 → value_at s i ≡ value_at b i
plain_same s b i e h =
    let w : ℕ = get_or s.slots i 0 in
    valued_counted (slot_of w) (drop (i * 16) s.places) (drop (i * 16) b.places) (rw h)
    ∙ ap (λ (x : ℕ). valued (slot_of x) (drop (i * 16) b.places)) e

-- ── A value and its slot ──────────────────────────────────────────────────────────────────

-- the places that are counted, of those that are there
pub valued_take : (slot : Slot) (ps : List ℕ) → valued slot (take (counted slot.count) ps) ≡ valued slot ps
valued_take slot ps = valued_counted slot (take (counted slot.count) ps) ps (take-take (counted slot.count) (counted slot.count) ps (omega arith))

-- a shape whose places are not known
pub plain_value : (slot : Slot) (l : List ℕ) → slot.count ≡ None → plain_of slot.shape ≡ valued slot l
unfolding valued
plain_value slot l e = rw e

-- a value with all the places that are counted
pub held_value : (slot : Slot) (p : Places) (l : List ℕ) (n : ℕ) → slot.count ≡ Some n → length l ≡ counted slot.count → list_of p ≡ l
    → value_of (record { shape = slot.shape; places = Some p }) ≡ valued slot l
unfolding valued places_of
held_value slot p l n e h q =
    ap (λ (l : List ℕ). shape_of slot.shape (some l)) (q ∙ sym (take_all n l (let f : length l ≡ n = h ∙ ap counted e in omega arith)))
    ∙ ap (λ (m : Maybe ℕ). shape_of slot.shape (places_in m l)) (sym e)

-- the bytes of a packed value, which its places have no part in
pub bytes_valued : (c : Chunk) (slot : Slot) (ps : List ℕ) (s : Shape) (p : Maybe ℕ) → s ≡ slot.shape → ((t : Option (List ℕ)) → packed_of p ≡ bytes c (shape_of s t))
    → packed_of p ≡ bytes c (valued slot ps)
unfolding valued
bytes_valued c slot ps s p e h = h (places_in slot.count ps) ∙ ap (λ (s : Shape). bytes c (shape_of s (places_in slot.count ps))) e

-- the same, of a word that is made of a value
pub plain_word : (v : Value) (w : ℕ) → v.places ≡ None → slot_of w ≡ record { shape = v.shape; count = None } → valued (slot_of w) [] ≡ value_of v
unfolding valued places_of
plain_word v w e h = ap (λ (slot : Slot). valued slot []) h ∙ sym (ap (λ (q : Maybe Places). shape_of v.shape (places_of q)) e)

pub held_word : (v : Value) (w : ℕ) (p : Places) (l : List ℕ) → v.places ≡ Some p → l ≡ list_of p → slot_of w ≡ record { shape = v.shape; count = Some (length l) }
    → valued (slot_of w) l ≡ value_of v
unfolding valued places_of
held_word v w p l e q h =
    ap (λ (slot : Slot). valued slot l) h
    ∙ ap (λ (l : List ℕ). shape_of v.shape (some l)) (take_all (length l) l (omega arith) ∙ q)
    ∙ sym (ap (λ (q : Maybe Places). shape_of v.shape (places_of q)) e)

-- ── A slot that is written ────────────────────────────────────────────────────────────────

-- the word of slot i with the places that it counts
module _ (s r : State) (i w : ℕ) (v : List ℕ) (hi : i < 96) (hl : length s.slots ≡ 96) (hp : length s.places ≡ 1536) (hv : length v ≡ counted (slot_of w).count)
    (eh : r.height ≡ s.height) (es : r.slots ≡ set s.slots i w) (ep : r.places ≡ paste s.places (i * 16) v (length v)) where
  few : length v ≤ 16
  few = omega (arith, few_counted w)

  stored_here : value_at r i ≡ valued (slot_of w) v
  stored_here =
      ap (λ (x : ℕ). valued (slot_of x) (drop (i * 16) r.places)) (ap (λ (l : List ℕ). get_or l i 0) es ∙ get_or-set_same s.slots i w 0 (omega arith))
      ∙ valued_counted (slot_of w) (drop (i * 16) r.places) v
      (ap (λ (l : List ℕ). take (counted (slot_of w).count) (drop (i * 16) l)) ep
      ∙ ap (λ (n : ℕ). take n (drop (i * 16) (paste s.places (i * 16) v (length v)))) (sym hv)
      ∙ pasted_here s.places (i * 16) v (length v) (let f : length v ≤ 16 = few in omega arith) (omega arith)
      ∙ ap (λ (n : ℕ). take n v) hv)

  stored_there : (j : ℕ) → (j ≡ i → ⊥) → value_at r j ≡ value_at s j
  stored_there j n =
      let x : ℕ = get_or s.slots j 0 in
      ap (λ (x : ℕ). valued (slot_of x) (drop (j * 16) r.places)) (ap (λ (l : List ℕ). get_or l j 0) es ∙ get_or-set_other s.slots i j w 0 n)
      ∙ ap (λ (l : List ℕ). valued (slot_of x) (drop (j * 16) l)) ep
      ∙ valued_sixteen x (drop (j * 16) (paste s.places (i * 16) v (length v)))
      ∙ ap (valued (slot_of x)) (stretch_other s.places i v (length v) hi hp few (omega arith) j n)
      ∙ sym (valued_sixteen x (drop (j * 16) s.places))

  pub stored : Written s i (valued (slot_of w) v) r
  stored = record { height = eh; here = stored_here; there = stored_there }

-- Laws of equal shapes, joins and covers: of places, shapes and values.
-- Assumes nothing.
use mathlib.Core.Path.{◌≡◌, refl, sym, ap, ◌∙◌}
use mathlib.Core.Bool.{Bool, true, false, ◌&&◌}
use mathlib.Core.Option.{Option, none, some}
use mathlib.Core.List.{List}
use Prim.Native.Nat.{ℕ}
use Rattle.std.proofs.lemmas.Bool.{false≢true, and_parts}
use borrow.Author.Tests.{eqb-true, eq-eqb}
use lib.Dec.{eqb}
use Rattle.definition.specs.Shapes.{Shape as AnyShape, unknown, scalar, composite, same_text, same_shape, if_same}
use Rattle.definition.specs.Shapes.{join_text, join}
use Rattle.shapes.specs.declared.Shape.{Shape}
use Rattle.shapes.specs.declared.Shape.TheVariants.{Unknown, Scalar, Composite}
use Rattle.std.specs.Prelude.{Option as Maybe, not}
use Rattle.std.specs.Option.{option_eq}
use Rattle.shapes.specs.declared.places.Places.{Places}
use Rattle.shapes.specs.Model.{is_composite, places_of, shape_of, plain_of, has_places}
use Rattle.shapes.specs.Cover.{covers}
use Rattle.shapes.specs.contracts.ShapePartialEq.TheImpl.{ghosts as shape}
use Rattle.shapes.specs.contracts.places.PlacesPartialEq.TheImpl.{ghosts as held}
use Rattle.shapes.proofs.Held.{list_refl, text_sound, text_refl, text_is}

and_one : (x : Bool) → x ≡ x && true
and_one true = refl
and_one false = refl

-- ── Equal shapes ──────────────────────────────────────────────────────────────────────────

pub shape_sound : (a b : AnyShape) → same_shape a b ≡ true → a ≡ b
unfolding same_shape
shape_sound unknown unknown e = refl
shape_sound unknown (scalar k) e = absurd (false≢true e)
shape_sound unknown (composite k n t) e = absurd (false≢true e)
shape_sound (scalar j) unknown e = absurd (false≢true e)
shape_sound (scalar j) (scalar k) e = ap scalar (eqb-true j k e)
shape_sound (scalar j) (composite k n t) e = absurd (false≢true e)
shape_sound (composite j m s) unknown e = absurd (false≢true e)
shape_sound (composite j m s) (scalar k) e = absurd (false≢true e)
shape_sound (composite j m s) (composite k n t) e =
    let p : (eqb j k && eqb m n ≡ true) × (same_text s t ≡ true) = and_parts (eqb j k && eqb m n) (same_text s t) e in
    let q : (eqb j k ≡ true) × (eqb m n ≡ true) = and_parts (eqb j k) (eqb m n) p.0 in
    let u : j ≡ k = eqb-true j k q.0 in
    let v : m ≡ n = eqb-true m n q.1 in
    let w : s ≡ t = text_sound s t p.1 in
    λ i. composite (u i) (v i) (w i)

pub shape_refl : (a : AnyShape) → same_shape a a ≡ true
unfolding same_shape
shape_refl unknown = refl
shape_refl (scalar k) = eq-eqb k k refl
shape_refl (composite k n t) = rw (eq-eqb k k refl, eq-eqb n n refl) (text_refl t)

-- the derived `==` is the definition's
pub eq_is : (a b : Shape) → shape.eq a b ≡ same_shape (plain_of a) (plain_of b)
unfolding shape_of same_shape same_text
eq_is Unknown Unknown = refl
eq_is Unknown (Scalar j) = refl
eq_is Unknown (Composite j m) = refl
eq_is (Scalar k) Unknown = refl
eq_is (Scalar k) (Scalar j) = refl
eq_is (Scalar k) (Composite j m) = refl
eq_is (Composite k n) Unknown = refl
eq_is (Composite k n) (Scalar j) = refl
eq_is (Composite k n) (Composite j m) = and_one (eqb k j && eqb n m)

-- with their places, which tell composites apart and nothing else
module _ (p q : Maybe Places) where
  and_text : (x t : Bool) → x ≡ false → x ≡ x && t
  and_text true t e = absurd (false≢true (sym e))
  and_text false t e = refl

  pub same_apart : (a b : Shape) → shape.eq a b ≡ false → shape.eq a b ≡ same_shape (shape_of a (places_of p)) (shape_of b (places_of q))
  unfolding shape_of same_shape
  same_apart Unknown Unknown e = refl
  same_apart Unknown (Scalar j) e = refl
  same_apart Unknown (Composite j m) e = refl
  same_apart (Scalar k) Unknown e = refl
  same_apart (Scalar k) (Scalar j) e = refl
  same_apart (Scalar k) (Composite j m) e = refl
  same_apart (Composite k n) Unknown e = refl
  same_apart (Composite k n) (Scalar j) e = refl
  same_apart (Composite k n) (Composite j m) e = and_text (eqb k j && eqb n m) _ e

  same_by : (a b : Shape) → shape.eq a b ≡ true → is_composite a ≡ true → option_eq held.eq p q ≡ same_shape (shape_of a (places_of p)) (shape_of b (places_of q))
  unfolding shape_of same_shape
  same_by Unknown b e f = absurd (false≢true f)
  same_by (Scalar k) b e f = absurd (false≢true f)
  same_by (Composite k n) Unknown e f = absurd (false≢true e)
  same_by (Composite k n) (Scalar j) e f = absurd (false≢true e)
  same_by (Composite k n) (Composite j m) e f = rw e (text_is p q)

  pub same_plain : (a b : Shape) → shape.eq a b ≡ true → is_composite a ≡ false → true ≡ same_shape (shape_of a (places_of p)) (shape_of b (places_of q))
  unfolding shape_of same_shape
  same_plain Unknown Unknown e f = refl
  same_plain Unknown (Scalar j) e f = absurd (false≢true e)
  same_plain Unknown (Composite j m) e f = absurd (false≢true e)
  same_plain (Scalar k) Unknown e f = absurd (false≢true e)
  same_plain (Scalar k) (Scalar j) e f = sym e
  same_plain (Scalar k) (Composite j m) e f = absurd (false≢true e)
  same_plain (Composite k n) b e f = absurd (false≢true (sym f))

  pub same_kept : (a b : Shape) → shape.eq a b ≡ true → option_eq held.eq p q ≡ true → option_eq held.eq p q ≡ same_shape (shape_of a (places_of p)) (shape_of b (places_of q))
  same_kept Unknown b e f = f ∙ same_plain Unknown b e refl
  same_kept (Scalar k) b e f = f ∙ same_plain (Scalar k) b e refl
  same_kept (Composite k n) b e f = same_by (Composite k n) b e refl

  pub same_moved : (a b : Shape) → shape.eq a b ≡ true → option_eq held.eq p q ≡ false → not (is_composite a) ≡ same_shape (shape_of a (places_of p)) (shape_of b (places_of q))
  same_moved Unknown b e f = same_plain Unknown b e refl
  same_moved (Scalar k) b e f = same_plain (Scalar k) b e refl
  same_moved (Composite k n) b e f = sym f ∙ same_by (Composite k n) b e refl

-- ── Joins ─────────────────────────────────────────────────────────────────────────────────

pub plain_same : (a b : Shape) → shape.eq a b ≡ true → plain_of a ≡ join (plain_of a) (plain_of b)
unfolding same_text shape_of join if_same join_text
plain_same Unknown b e = refl
plain_same (Scalar k) Unknown e = absurd (false≢true e)
plain_same (Scalar k) (Scalar j) e = rw e
plain_same (Scalar k) (Composite j m) e = absurd (false≢true e)
plain_same (Composite k n) Unknown e = absurd (false≢true e)
plain_same (Composite k n) (Scalar j) e = absurd (false≢true e)
plain_same (Composite k n) (Composite j m) e = rw e

pub plain_apart : (a b : Shape) → shape.eq a b ≡ false → plain_of Unknown ≡ join (plain_of a) (plain_of b)
unfolding same_text shape_of join if_same join_text
plain_apart Unknown b e = refl
plain_apart (Scalar k) Unknown e = refl
plain_apart (Scalar k) (Scalar j) e = rw e
plain_apart (Scalar k) (Composite j m) e = refl
plain_apart (Composite k n) Unknown e = refl
plain_apart (Composite k n) (Scalar j) e = refl
plain_apart (Composite k n) (Composite j m) e = rw e

join_self : (a : AnyShape) → a ≡ join a a
unfolding join if_same join_text
join_self unknown = refl
join_self (scalar k) = rw (eq-eqb k k refl)
join_self (composite k n t) = rw (eq-eqb k k refl, eq-eqb n n refl, text_refl t)

pub join_same : (a b : AnyShape) → same_shape a b ≡ true → a ≡ join a b
join_same a b e = join_self a ∙ ap (join a) (shape_sound a b e)

none_join : (t : Bool) → join_text none t ≡ none
unfolding join_text
none_join true = refl
none_join false = refl

-- different places are unknown
module _ (p q : Option (List ℕ)) where
  if_apart : (t : Bool) (k n : ℕ) → t && same_text p q ≡ false → if_same t (composite k n none) ≡ if_same t (composite k n (join_text p (same_text p q)))
  unfolding if_same join_text
  if_apart true k n e = rw e
  if_apart false k n e = refl

  pub join_apart : (a b : Shape) → same_shape (shape_of a p) (shape_of b q) ≡ false → join (plain_of a) (plain_of b) ≡ join (shape_of a p) (shape_of b q)
  unfolding shape_of join same_shape
  join_apart Unknown b e = refl
  join_apart (Scalar k) Unknown e = refl
  join_apart (Scalar k) (Scalar j) e = refl
  join_apart (Scalar k) (Composite j m) e = refl
  join_apart (Composite k n) Unknown e = refl
  join_apart (Composite k n) (Scalar j) e = refl
  join_apart (Composite k n) (Composite j m) e = rw none_join (if_apart (eqb k j && eqb n m) k n e)

-- ── Covers ────────────────────────────────────────────────────────────────────────────────

-- a shape covers another exactly when their join is the first
pub covers-join : (a b : AnyShape) → covers a b ≡ true → join a b ≡ a
unfolding covers
covers-join a b e = shape_sound (join a b) a e

pub join-covers : (a b : AnyShape) → join a b ≡ a → covers a b ≡ true
unfolding covers
join-covers a b e = ap (λ (s : AnyShape). same_shape s a) e ∙ shape_refl a

-- each covers itself
pub covers_self : (a : AnyShape) → covers a a ≡ true
covers_self a = join-covers a a (sym (join_self a))

-- by the join of the shapes alone
pub covers_by : (a b s : Shape) → plain_of s ≡ join (plain_of a) (plain_of b) → shape.eq s a ≡ covers (plain_of a) (plain_of b)
unfolding covers
covers_by a b s e = eq_is s a ∙ ap (λ (z : AnyShape). same_shape z (plain_of a)) e

by_both : (k n : ℕ) (os : List ℕ) (x y : Bool) → x && y ≡ same_shape (if_same x (composite k n (join_text (some os) y))) (composite k n (some os))
unfolding if_same join_text same_shape same_text
by_both k n os true true = rw (eq-eqb k k refl, eq-eqb n n refl, list_refl os)
by_both k n os true false = rw (eq-eqb k k refl, eq-eqb n n refl)
by_both k n os false y = refl

-- a value whose places are known covers what is the same
pub known_covers : (a b : AnyShape) → has_places a ≡ true → same_shape a b ≡ covers a b
unfolding covers has_places same_shape join
known_covers unknown b h = absurd (false≢true h)
known_covers (scalar k) b h = absurd (false≢true h)
known_covers (composite k n none) b h = absurd (false≢true h)
known_covers (composite k n (some os)) unknown h = refl
known_covers (composite k n (some os)) (scalar j) h = refl
known_covers (composite k n (some os)) (composite j m t) h = by_both k n os (eqb k j && eqb n m) (same_text (some os) t)

-- one whose places are not covers by its shape
pub plain_covers : (a b : Shape) (p q : Option (List ℕ)) → has_places (shape_of a p) ≡ false → covers (plain_of a) (plain_of b) ≡ covers (shape_of a p) (shape_of b q)
unfolding covers has_places shape_of join
plain_covers Unknown b p q h = refl
plain_covers (Scalar k) Unknown p q h = refl
plain_covers (Scalar k) (Scalar j) p q h = refl
plain_covers (Scalar k) (Composite j m) p q h = refl
plain_covers (Composite k n) b (some os) q h = absurd (false≢true (sym h))
plain_covers (Composite k n) Unknown none q h = refl
plain_covers (Composite k n) (Scalar j) none q h = refl
plain_covers (Composite k n) (Composite j m) none q h = rw (none_join (same_text none none), none_join (same_text none q))

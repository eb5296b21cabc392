-- What the shapes and values of the code stand for: shapes of the definition.
use Rattle.std.specs.Prelude.{ℕ, Bool, true, false, List, take, Option as Maybe, Some, None}
use Rattle.std.proofs.Math.Option.{Option, none, some}
use Rattle.definition.specs.Shapes.{Shape as AnyShape, unknown, scalar, composite}
use Rattle.shapes.specs.declared.Shape.{Shape}
use Rattle.shapes.specs.declared.Shape.TheVariants.{Unknown, Scalar, Composite}
use Rattle.shapes.specs.declared.places.Places.{Places}
use Rattle.shapes.specs.declared.Value.{Value}

-- the places, first to last
abbrev pub list_of : Places → List ℕ
list_of p = take p.count p.at

-- the places, where they are known
unfoldable pub places_of : Maybe Places → Option (List ℕ)
places_of None = none
places_of (Some p) = some (list_of p)

-- whether it is a composite
abbrev pub is_composite : Shape → Bool
is_composite Unknown = false
is_composite (Scalar k) = false
is_composite (Composite k n) = true

-- only a composite has places
unfoldable pub shape_of : Shape → Option (List ℕ) → AnyShape
shape_of Unknown t = unknown
shape_of (Scalar k) t = scalar k
shape_of (Composite k n) t = composite k n t

-- a shape with unknown places
abbrev pub plain_of : Shape → AnyShape
plain_of s = shape_of s none

-- a shape with its places
abbrev pub value_of : Value → AnyShape
value_of v = shape_of v.shape (places_of v.places)

-- whether it has places that are known
unfoldable pub has_places : AnyShape → Bool
has_places unknown = false
has_places (scalar k) = false
has_places (composite k n none) = false
has_places (composite k n (some os)) = true

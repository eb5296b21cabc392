-- Text places that are added to those that are held, and what the functions over them answer.
use Rattle.std.specs.Prelude.{ℕ, ◌<◌, ◌≡◌, List, [], ◌++◌, eqb, length, Option as Maybe, Some, None, Result, Ok, Err, ⊤}
use Rattle.std.proofs.Math.Option.{Option, none, some}
use Rattle.definition.specs.Shapes.{Shape as AnyShape, unknown, scalar, composite}
use Rattle.definition.specs.Instructions.{Chunk}
use Rattle.definition.specs.Effects.{width, keep_if, shift}
use Rattle.shapes.specs.declared.places.ManyPlaces.{ManyPlaces}
use Rattle.shapes.specs.declared.places.Places.{Places}
use Rattle.shapes.specs.Model.{places_of}

-- what is held after more places: all, or there are more than sixteen
abbrev pub Adds : List ℕ → List ℕ → Result ⊤ ManyPlaces → List ℕ → Type 0
Adds held more (Ok done) after = after ≡ held ++ more
Adds held more (Err many) after = 16 < length (held ++ more)

-- whatever is added, and whether there was room: the places before stand at the front of those after
abbrev pub Keeps : List ℕ → List ℕ → Type 0
Keeps held after = (more : List ℕ) × (after ≡ held ++ more)

-- Places that were added one after another, with what all the additions say: those that are held are the list, or the list is longer than 16.
abbrev pub HeldAll : Result ⊤ ManyPlaces → List ℕ → List ℕ → Type 0
HeldAll (Ok done) held l = held ≡ l
HeldAll (Err many) held l = 16 < length l

-- what the places of a new composite are: so many, unknown, or more than sixteen
unfoldable pub Means : Result (Maybe Places) ManyPlaces → Option (List ℕ) → Type 0
Means (Ok places) t = t ≡ places_of places
Means (Err many) t = (l : List ℕ) × (t ≡ some l) × (16 < length l)

-- bytes, where they are known
unfoldable pub packed_of : Maybe ℕ → Option ℕ
packed_of None = none
packed_of (Some n) = some n

-- the bytes of one element of a packed body
unfoldable pub bytes : Chunk → AnyShape → Option ℕ
bytes c unknown = none
bytes c (scalar k) = some (width c k)
bytes c (composite k m t) = some m

-- its text places, in a body where it stands at `at`
unfoldable pub own : ℕ → AnyShape → Option (List ℕ)
own at unknown = none
own at (scalar k) = some (keep_if (eqb k 6) at [])
own at (composite k m none) = none
own at (composite k m (some os)) = some (shift at os)

-- what is held after the places of the element x at `at`; none where x has unknown places
abbrev pub Took : ℕ → AnyShape → List ℕ → Maybe (Result ⊤ ManyPlaces) → List ℕ → Type 0
Took at x held None after = own at x ≡ none
Took at x held (Some added) after = (os : List ℕ) × (own at x ≡ some os) × Adds held os added after

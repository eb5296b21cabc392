-- Equality and order of places are those of their numbers.
use Rattle.std.specs.Prelude.{◌≡◌, refl, leb, eqb}
use Rattle.std.specs.Ordering.{partial_le}
use denote.Enum.Bare.{sameb}
use Rattle.listing.specs.Forms.{place_number}
use Rattle.listing.specs.declared.place.Place.{Place}
use Rattle.listing.specs.declared.place.Place.TheVariants as P
use Rattle.listing.specs.contracts.place.Place.{the_type}
use Rattle.listing.specs.contracts.place.PlacePartialOrd.TheImpl.{partial_cmp-value}

pub le_is : (a b : Place) → partial_le (partial_cmp-value).it a b ≡ leb (place_number a) (place_number b)
le_is P.Start P.Start = refl
le_is P.Start b = refl
le_is P.Slots P.Start = refl
le_is P.Slots b = refl
le_is P.Shared P.Start = refl
le_is P.Shared b = refl
le_is P.Private P.Start = refl
le_is P.Private b = refl
le_is P.Enums P.Start = refl
le_is P.Enums b = refl
le_is P.Natives P.Start = refl
le_is P.Natives b = refl
le_is P.Signatures P.Start = refl
le_is P.Signatures b = refl
le_is P.Chunks P.Start = refl
le_is P.Chunks b = refl
le_is P.Constants P.Start = refl
le_is P.Constants b = refl
le_is P.Instructions P.Start = refl
le_is P.Instructions b = refl
le_is P.End P.Start = refl
le_is P.End b = refl

pub end_is : (p : Place) → sameb the_type p P.End ≡ eqb (place_number p) 10
end_is P.Start = refl
end_is P.Slots = refl
end_is P.Shared = refl
end_is P.Private = refl
end_is P.Enums = refl
end_is P.Natives = refl
end_is P.Signatures = refl
end_is P.Chunks = refl
end_is P.Constants = refl
end_is P.Instructions = refl
end_is P.End = refl

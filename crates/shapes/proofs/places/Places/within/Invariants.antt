use Rattle.std.proofs.Common.{◌≡◌, take}
use Rattle.definition.specs.Effects.{places_within}
use Rattle.shapes.specs.Model.{list_of}
use Rattle.shapes.proofs.places.Places.within.Given as goal

abbrev pub invariant-loop-offset : goal.invariant-loop-offset
invariant-loop-offset l = list_of l.inside ≡ places_within l.at l.size (take l.offset-index l.offset-items)

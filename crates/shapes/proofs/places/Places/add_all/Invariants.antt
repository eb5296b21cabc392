use Rattle.std.proofs.Common.{◌≡◌, ◌++◌, take}
use Rattle.definition.specs.Effects.{shift}
use Rattle.shapes.specs.Model.{list_of}
use Rattle.shapes.proofs.places.Places.add_all.Given as goal

abbrev pub invariant-loop-offset : goal.invariant-loop-offset
invariant-loop-offset l = list_of l.self ≡ list_of l.initial.self ++ shift l.by (take l.offset-index l.offset-items)

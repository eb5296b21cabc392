use Rattle.shapes.proofs.Held.{padded_push}
use Rattle.shapes.proofs.places.Places.push.Goals as goal

pub invariant_of-self : goal.invariant_of-self
invariant_of-self c = record { padded = padded_push _ _ _ c.args.self.now.padded c.requires }

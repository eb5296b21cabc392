use mathlib.Core.Path.{ap, ◌∙◌}
use Rattle.definition.specs.Basics.{is_member}
use Rattle.shapes.proofs.Text.{any_is}
use Rattle.shapes.proofs.places.Places.contains.Goals as goal

pub returns : goal.returns
returns c = c.contains.ensures.value ∙ any_is _ _ ∙ ap (is_member c.args.offset) c.as_slice.ensures.value

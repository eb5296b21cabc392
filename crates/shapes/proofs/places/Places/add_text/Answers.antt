use mathlib.Core.Path.{sym, ◌∙◌}
use mathlib.Core.List.{◌∷◌, []}
use borrow.Author.Tests.{eq-eqb}
use Rattle.definition.specs.Effects.{keep_if}
use Rattle.shapes.specs.Model.{shape_of}
use Rattle.shapes.specs.Text.{own}
use Rattle.shapes.proofs.Text.{adds_one}
use Rattle.shapes.proofs.places.Places.add_text.Goals as goal

pub returns-in-Scalar-eq6-clause-took : goal.returns-in-Scalar-eq6-clause-took
unfolding shape_of own keep_if
returns-in-Scalar-eq6-clause-took c = (c.args.at ∷ [], rw (c.in-Scalar-eq6.is, eq-eqb c.in-Scalar-eq6.field-0 6 (sym c.in-Scalar-eq6.field-0-is ∙ c.in-Scalar-eq6.field-0-test)), adds_one _ _ _ _ c.add.ensures.ok c.add.ensures.many.0)

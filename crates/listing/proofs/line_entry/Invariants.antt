use Rattle.std.specs.Prelude.{◌≡◌}
use Rattle.definition.specs.Read.{line_forms}
use Rattle.listing.specs.Find.{whole_line, left_forms}
use Rattle.listing.proofs.line_entry.Given as goal

abbrev pub invariant-loop-form : goal.invariant-loop-form
invariant-loop-form l = whole_line line_forms l.fn.line ≡ left_forms l.fn.line l.form-index

use Rattle.std.proofs.Common.{◌≡◌, ◌-◌, ◌/◌}
use Rattle.definition.specs.Tests.{text_elements}
use Rattle.shapes.specs.Model.{list_of}
use Rattle.rules.proofs.flat.check_elements.Given as goal

abbrev pub invariant-loop-i : goal.invariant-loop-i
invariant-loop-i l = text_elements l.ip l.element 0 (l.all / l.element) (list_of l.places) ≡ text_elements l.ip l.element l.i (l.all / l.element - l.i) (list_of l.places)

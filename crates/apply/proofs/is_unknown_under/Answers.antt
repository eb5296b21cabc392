use Rattle.std.proofs.Common.{arith}
use Rattle.std.proofs.lemmas.Bool.Decides.{nat_tests}
use Rattle.definition.specs.Shapes.{unknown}
use Rattle.definition.specs.Tests.{is_unknown}
use Rattle.shapes.proofs.Lists.{down-at, down-past}
use Rattle.frame.specs.Model.{value_at, valued}
use Rattle.apply.proofs.is_unknown_under.Goals as goal

pub returns-then-above-s : goal.returns-then-above-s
unfolding is_unknown
returns-then-above-s c = let s = c.args.s.now.state in rw (← down-past (value_at s) s.height c.args.above unknown c.if-above-s.true) (grind (arith, nat_tests))

pub returns-else-above-s : goal.returns-else-above-s
unfolding valued
returns-else-above-s c = let s = c.args.s.now.state in rw (← down-at (value_at s) s.height c.args.above unknown (omega arith)) (rw (← c.shape_at.ensures) (c.is_unknown.ensures _))

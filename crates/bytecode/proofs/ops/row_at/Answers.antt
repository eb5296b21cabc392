use Rattle.std.proofs.Common.{arith}
use Rattle.bytecode.proofs.Names.{place_low}
use Rattle.bytecode.proofs.ops.row_at.Goals as goal

pub invariant_of-result : goal.invariant_of-result
invariant_of-result c = record { low = omega (arith, place_low c.args.place c.requires, c.from.ensures) }

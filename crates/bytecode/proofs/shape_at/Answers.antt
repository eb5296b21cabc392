use mathlib.Core.Path.{◌∙◌}
use native.Mathlib.Omega.{arith}
use Rattle.bytecode.proofs.Laws.{known_by, shape_in}
use Rattle.bytecode.proofs.shape_at.Goals as goal

pub returns-then-k-count : goal.returns-then-k-count
returns-then-k-count c = c.shape_of_word.ensures
    ∙ known_by c.args.t.now c.float_of.result c.cell.result _ c.float_of.ensures c.cell.ensures
    ∙ shape_in c.args.t.now c.args.table c.args.k c.args.j (omega (arith, c.count.ensures))

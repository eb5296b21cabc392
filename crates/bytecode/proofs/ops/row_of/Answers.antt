use Rattle.std.proofs.Common.{ap, ◌∙◌}
use Rattle.std.specs.Bool.{then_some}
use Rattle.bytecode.specs.Names.{row_number}
use Rattle.bytecode.proofs.Names.{row_named}
use Rattle.bytecode.proofs.ops.row_of.Goals as goal

pub returns : goal.returns
returns c = λ text k.
    ap row_number (c.then_some.ensures ∙ ap (λ b. then_some b c.row_at-row.result) c.eq.ensures)
    ∙ row_named c.args.p text k c.row_at-row.result c.place.result c.place.ensures.value c.row_at-row.ensures _ c.op.ensures

use Rattle.std.proofs.Common.{sym, arith}
use Rattle.answer.specs.Answer.{found}
use Rattle.walk_cases.proofs.Rooms.{roomy}
use Rattle.walk_cases.proofs.run.Goals as goal

pub show_walk-requires : goal.show_walk-requires
unfolding found
show_walk-requires g c =
    roomy c.args.t.now _ _ (sym c.in-Ok.ensures)
    (omega (arith, c.count.ensures, c.if-count-eq0.false))
    (omega (arith, c.instructions_of-code.ensures.first_is, c.instructions_of-code.ensures.count_is))
    (omega (arith, c.if-end-gt-SHEET.false))

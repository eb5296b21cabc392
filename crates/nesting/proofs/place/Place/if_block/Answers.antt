-- `nesting::place::Place::if_block` meets its contract. Assumes nothing.
use Rattle.std.proofs.Common.{refl, sym, ◌∙◌, arith}
use Rattle.nesting.proofs.Laws.{if_short, else_yes, else_no}
use Rattle.nesting.proofs.place.Place.if_block.Goals as goal

pub returns-then-target-self : goal.returns-then-target-self
returns-then-target-self c = λ d H x. if_short d c.args.self.now H c.args.target c.if-target-self.true x

pub returns-in-Else : goal.returns-in-Else
returns-in-Else c = λ d H x. c.two_arms.ensures d c.args.target H refl x
    (else_yes d c.args.self.now H c.args.target _ (omega arith) x (sym c.part_at.ensures ∙ c.in-Else.is))

pub returns-in_default : goal.returns-in_default
returns-in_default c = λ d H x. c.one_arm.ensures d H (omega arith) x
    (else_no d c.args.self.now H c.args.target (λ q h. c.in_default.not-Else q (c.part_at.ensures ∙ h)))

-- `nesting::place::Place::step` meets its contract. Assumes nothing.
use Rattle.std.proofs.Common.{sym, ◌∙◌, inl, inr, rules, eqb-true, eq-eqb}
use Rattle.nesting.proofs.Laws.{told, good_if, pushed, other_good, else_good, else_bad, end_if_good, end_if_bad, end_loop_good, end_loop_bad, break_good, break_bad}
use Rattle.nesting.specs.declared.part.Part.TheVariants.{If, Loop}
use Rattle.nesting.proofs.place.Place.step.Goals as goal

pub returns-in-Other-clause-right : goal.returns-in-Other-clause-right
returns-in-Other-clause-right c = λ d H. other_good d c.args.self.now H (sym c.in-Other.is ∙ c.part_at.ensures)

pub returns-in-If-clause-right : goal.returns-in-If-clause-right
returns-in-If-clause-right c = λ d H.
    pushed d _ _ c.if_block.result c.map.result
    (c.if_block.ensures d H (told d c.args.self.now.code.now H.coded c.args.self.now.at (If _) (sym c.in-If.is ∙ c.part_at.ensures)))
    c.map.ensures.cases

pub returns-in-Else-clause-right : goal.returns-in-Else-clause-right
returns-in-Else-clause-right c = λ d H.
    let y = sym c.in-Else.is ∙ c.part_at.ensures in
    good_if d _ _ _ _ c.then_some.result c.then_some.ensures (λ t. else_good d c.args.self.now H _ y (eqb-true _ _ t)) (λ f k. f (eq-eqb _ _ (else_bad d c.args.self.now H _ y k)))

pub returns-in-EndIf-clause-right : goal.returns-in-EndIf-clause-right
returns-in-EndIf-clause-right c = λ d H.
    good_if d _ _ _ _ c.then_some-in-EndIf.result c.then_some-in-EndIf.ensures
    (λ t. elim c.in-EndIf.is [
      | inl z ↦ end_if_good d c.args.self.now H (sym z ∙ c.part_at.ensures) (eqb-true _ _ t)
      | inr z ↦ end_loop_good d c.args.self.now H (sym z ∙ c.part_at.ensures) (eqb-true _ _ t)
    ])
    (λ f k. f (eq-eqb _ _ (elim c.in-EndIf.is [
      | inl z ↦ end_if_bad d c.args.self.now H (sym z ∙ c.part_at.ensures) k
      | inr z ↦ end_loop_bad d c.args.self.now H (sym z ∙ c.part_at.ensures) k
    ])))

pub returns-in-Loop-clause-right : goal.returns-in-Loop-clause-right
returns-in-Loop-clause-right c = λ d H.
    pushed d _ _ c.loop_block.result c.map-in-Loop.result
    (c.loop_block.ensures d H (told d c.args.self.now.code.now H.coded c.args.self.now.at (Loop _) (sym c.in-Loop.is ∙ c.part_at.ensures)))
    c.map-in-Loop.ensures.cases

pub returns-in-Break-clause-right : goal.returns-in-Break-clause-right
returns-in-Break-clause-right c = λ d H.
    let y = sym c.in-Break.is ∙ c.part_at.ensures in
    good_if d _ _ _ _ c.then_some-in-Break.result c.then_some-in-Break.ensures (λ t. break_good d c.args.self.now H _ y (search rules)) (λ f k. f (let e = break_bad d c.args.self.now H _ y k in search rules))

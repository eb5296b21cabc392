use mathlib.Core.Path.{sym, ap, ◌∙◌}
use mathlib.Core.List.{[]}
use Prim.Native.Nat.{ℕ}
use lib.ListN.{replicate}
use Rattle.typed_check.proofs.Whole.{promised_refused, promised_accepted}
use Rattle.typed_check.proofs.check_into.Goals as goal

pub returns-then-is_err-clause-equal : goal.returns-then-is_err-clause-equal
returns-then-is_err-clause-equal c =
    (promised_refused c.args.listing.now c.checked-answer.new.t _ _ _ _ _ _ c.checked-answer.result (sym c.if-is_err.ensures.value) c.checked-answer.ensures
    (c.fill.ensures.after (λ y e. e) ∙ ap (λ (n : ℕ). replicate n 0) c.checked-answer.auto.heights)
    (c.fill-then-is_err.ensures.after (λ y e. e) ∙ ap (λ (n : ℕ). replicate n 0) c.checked-answer.auto.blinds)).0

pub returns-then-is_err-clause-sound : goal.returns-then-is_err-clause-sound
returns-then-is_err-clause-sound c =
    (promised_refused c.args.listing.now c.checked-answer.new.t _ _ _ _ _ _ c.checked-answer.result (sym c.if-is_err.ensures.value) c.checked-answer.ensures
    (c.fill.ensures.after (λ y e. e) ∙ ap (λ (n : ℕ). replicate n 0) c.checked-answer.auto.heights)
    (c.fill-then-is_err.ensures.after (λ y e. e) ∙ ap (λ (n : ℕ). replicate n 0) c.checked-answer.auto.blinds)).1

pub returns-else-is_err-clause-equal : goal.returns-else-is_err-clause-equal
returns-else-is_err-clause-equal c = (promised_accepted c.args.listing.now c.checked-answer.new.t _ _ [] [] _ _ c.checked-answer.result (sym c.if-is_err.ensures.value) c.checked-answer.ensures).0

pub returns-else-is_err-clause-sound : goal.returns-else-is_err-clause-sound
returns-else-is_err-clause-sound c = (promised_accepted c.args.listing.now c.checked-answer.new.t _ _ [] [] _ _ c.checked-answer.result (sym c.if-is_err.ensures.value) c.checked-answer.ensures).1

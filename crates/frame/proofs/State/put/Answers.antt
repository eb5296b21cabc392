use Rattle.std.proofs.Common.{◌≡◌, ℕ, ◌*◌, length, refl, sym, ap, ◌∙◌, arith, rules}
use Rattle.std.proofs.lemmas.Slice.{put_mid-paste}
use Rattle.std.proofs.lemmas.List.Edits.{paste_none}
use lib.Seq.{paste}
use borrow.Author.Tests.{eqb-true}
use Rattle.frame.proofs.Words.{stored}
use Rattle.frame.proofs.State.put.Goals as goal

pub returns-then-not-is_empty : goal.returns-then-not-is_empty
returns-then-not-is_empty c =
    let a = c.args in
    let v = a.held.places.now in
    stored a.self.now _ a.i a.held.word v c.requires (search rules) (search rules) a.held.counted refl refl (put_mid-paste _ _ a.self.now.places _ v (length v) c.copy_from_slice.ensures.after (omega arith) refl)

pub returns-else-not-is_empty : goal.returns-else-not-is_empty
returns-else-not-is_empty c =
    let a = c.args in
    let v = a.held.places.now in
    let e : length v ≡ 0 = eqb-true _ _ (sym c.is_empty.ensures ∙ c.if-not-is_empty.false) in
    stored a.self.now _ a.i a.held.word v c.requires (search rules) (search rules) a.held.counted refl refl
    (paste_none a.self.now.places (a.i * 16) v ∙ ap (λ (n : ℕ). paste a.self.now.places (a.i * 16) v n) (sym e))

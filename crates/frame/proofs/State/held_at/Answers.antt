use Rattle.std.proofs.Common.{◌≡◌, ℕ, ◌+◌, ◌*◌, ◌-◌, get_or, take, drop, ap, ◌∙◌, arith}
use Rattle.frame.specs.declared.slot.Slot.{Slot}
use Rattle.frame.specs.Words.{slot_of, counted}
use Rattle.frame.specs.Model.{valued}
use Rattle.frame.proofs.Words.{valued_take}
use Rattle.frame.proofs.State.held_at.Goals as goal

pub returns-clause-value : goal.returns-clause-value
returns-clause-value c =
    let s = c.args.self.now in
    let at : ℕ = c.args.i * 16 in
    let slot : Slot = slot_of (get_or s.slots c.args.i 0) in
    let e : at + c.counted.result - at ≡ c.counted.result = omega arith in
    ap (λ (n : ℕ). valued slot (take n (drop at s.places))) (e ∙ c.counted.ensures ∙ ap (λ (x : Slot). counted x.count) c.from.ensures)
    ∙ valued_take slot (drop at s.places)

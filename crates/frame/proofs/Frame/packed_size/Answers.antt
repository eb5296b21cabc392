use Rattle.std.proofs.Common.{◌≡◌, ◌≤◌, ◌+◌, ◌*◌, ◌-◌, ℕ, get_or, drop, sym, ap, ◌∙◌, rules, arith}
use Rattle.definition.specs.Effects.{packed}
use Rattle.shapes.specs.Tabulated.{down}
use Rattle.shapes.specs.Text.{packed_of}
use Rattle.shapes.proofs.Text.{packed_start, packed_more, packed_stop, take-down, got_bytes, got_none, sum_is}
use Rattle.frame.specs.Words.{slot_of}
use Rattle.frame.specs.Model.{value_at}
use Rattle.frame.proofs.Words.{bytes_valued}
use Rattle.frame.proofs.Frame.packed_size.Goals as goal

pub loop-i-init : goal.loop-i-init
loop-i-init c d h =
    let s = c.args.self.now.state in
    let lo = s.height - c.args.n in
    let none_yet : 0 ≡ lo - lo = omega arith in
    ap (λ k. packed d (down (λ j. value_at s (lo + j)) k)) (sym none_yet) ∙ packed_start d (value_at s) lo

pub loop-i-preserved : goal.loop-i-preserved
loop-i-preserved c d h =
    let s = c.args.self.now.state in
    let lo = s.height - c.args.n in
    let i = c.loop-i.i in
    let from : lo ≤ i = search rules in
    let here : i ≡ lo + (i - lo) = omega arith in
    let one_more : i + 1 - lo ≡ i - lo + 1 = omega arith in
    let e = bytes_valued d (slot_of (get_or s.slots i 0)) (drop (i * 16) s.places) _ _ c.shape_at.ensures (λ t. c.packed_size.ensures d t h) in
    ap (λ k. packed d (down (λ j. value_at s (lo + j)) k)) one_more
    ∙ packed_more d (value_at s) lo (i - lo) _ _ _ (c.loop-i.invariant d h) (got_bytes d c.packed_size.result _ (value_at s i) (value_at s (lo + (i - lo))) c.in_ok-packed_size.was e (ap (value_at s) here)) (sum_is _ _ _ c.saturating_add-size.ensures)

pub returns-in_err-packed_size : goal.returns-in_err-packed_size
unfolding packed_of
returns-in_err-packed_size c d h =
    let s = c.args.self.now.state in
    let n = c.args.n in
    let lo = s.height - n in
    let i = c.loop-i.i in
    let from : lo ≤ i = search rules in
    let here : i ≡ lo + (i - lo) = omega arith in
    let e = bytes_valued d (slot_of (get_or s.slots i 0)) (drop (i * 16) s.places) _ _ c.shape_at.ensures (λ t. c.packed_size.ensures d t h) in
    ap packed_of c.from_residual.ensures
    ∙ sym (ap (packed d) (take-down (value_at s) n s.height c.requires) ∙ packed_stop d (value_at s) lo (i - lo) n (omega (arith, c.loop-i-test.true, c.requires)) (got_none d c.packed_size.result (value_at s i) (value_at s (lo + (i - lo))) c.in_err-packed_size.was e (ap (value_at s) here)))

pub returns : goal.returns
unfolding packed_of
returns c d h =
    let s = c.args.self.now.state in
    let n = c.args.n in
    let lo = s.height - n in
    let e : c.loop-i.i - lo ≡ n = omega (arith, c.requires) in
    sym (ap (packed d) (take-down (value_at s) n s.height c.requires) ∙ ap (λ (k : ℕ). packed d (down (λ j. value_at s (lo + j)) k)) (sym e) ∙ c.loop-i.invariant d h)

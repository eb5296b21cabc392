use Rattle.std.specs.Prelude.{Option as Maybe, Result, IsErr, ⊤}
use Rattle.std.proofs.Common.{◌≡◌, ◌≤◌, ◌<◌, ℕ, List, take, reverse, ◌+◌, ◌-◌, sym, ap, subst, ◌∙◌, Some, Ok, Err, rules, arith}
use Rattle.std.specs.Result.{result_and}
use Rattle.definition.specs.Shapes.{Shape}
use Rattle.definition.specs.Instructions.{Chunk}
use Rattle.definition.specs.Effects.{built_places}
use Rattle.shapes.specs.declared.places.ManyPlaces.{ManyPlaces}
use Rattle.shapes.specs.declared.places.Places.{Places}
use Rattle.shapes.specs.Tabulated.{up, down}
use Rattle.shapes.specs.Model.{places_of, list_of}
use Rattle.shapes.specs.Text.{Means, own}
use Rattle.shapes.proofs.Text.{Gathering, gather_start, gather_open, gather_sizeless, gather_more, gather_held, gather_many, reverse-take, got_bytes, got_none, took_as, sum_is}
use Rattle.frame.specs.Model.{value_at}
use Rattle.frame.proofs.Frame.built_text_layout.Goals as goal

-- the n top operands, first to last
whole_body : (f : ℕ → Shape) (n h : ℕ) → n ≤ h → reverse (take n (down f h)) ≡ up (λ j. f (h - n + j)) 0 (h - (h - n))
whole_body f n h l = reverse-take f n h l ∙ ap (up (λ j. f (h - n + j)) 0) (let e : n ≡ h - (h - n) = omega arith in e)

pub loop-i-init : goal.loop-i-init
loop-i-init c d h =
    let s = c.args.self.now.state in
    let lo = s.height - c.args.n in
    let held = list_of c.new-held.result in
    let none_yet : 0 ≡ lo - lo = omega arith in
    subst (λ k. Gathering d (value_at s) lo (s.height - lo) k 0 (Ok tt) held) none_yet (gather_start d (value_at s) lo (s.height - lo) held c.new-held.ensures)

pub returns-in_default : goal.returns-in_default
unfolding Means places_of
returns-in_default c d h =
    let s = c.args.self.now.state in
    let n = c.args.n in
    let lo = s.height - n in
    let m = s.height - lo in
    let o = c.loop-i in
    let from : lo ≤ o.i = search rules in
    let here : o.i ≡ lo + (o.i - lo) = omega arith in
    let below : o.i - lo < m = omega (arith, c.loop-i-test.true) in
    ap (built_places d 0) (whole_body (value_at s) n s.height c.requires)
    ∙ gather_open d (value_at s) lo m (o.i - lo) o.at o.whole (list_of o.held) below (o.invariant d h) (ap (own o.at) (ap (value_at s) (sym here) ∙ sym c.value_at-v.ensures) ∙ c.in_default.ensures.took)

pub returns-in_default-packed_size : goal.returns-in_default-packed_size
unfolding Means places_of
returns-in_default-packed_size c d h =
    let s = c.args.self.now.state in
    let n = c.args.n in
    let lo = s.height - n in
    let m = s.height - lo in
    let o = c.loop-i in
    let from : lo ≤ o.i = search rules in
    let here : o.i ≡ lo + (o.i - lo) = omega arith in
    let below : o.i - lo < m = omega (arith, c.loop-i-test.true) in
    ap (built_places d 0) (whole_body (value_at s) n s.height c.requires)
    ∙ gather_sizeless d (value_at s) lo m (o.i - lo) o.at o.whole (list_of o.held) below (o.invariant d h)
    (got_none d _ _ _ c.in_default-packed_size.is (c.packed_size.ensures d (places_of c.value_at-v.result.places) h) (c.value_at-v.ensures ∙ ap (value_at s) here))

pub loop-i-preserved : goal.loop-i-preserved
loop-i-preserved c d h =
    let s = c.args.self.now.state in
    let n = c.args.n in
    let lo = s.height - n in
    let m = s.height - lo in
    let o = c.loop-i in
    let from : lo ≤ o.i = search rules in
    let here : o.i ≡ lo + (o.i - lo) = omega arith in
    let below : o.i - lo < m = omega (arith, c.loop-i-test.true) in
    let one_more : o.i - lo + 1 ≡ o.i + 1 - lo = omega arith in
    let there = c.value_at-v.ensures ∙ ap (value_at s) here in
    let t = took_as o.at _ (value_at s (lo + (o.i - lo))) (list_of o.held) (list_of c.add_text.new.self) _ (Some c.in-Some.added) c.in-Some.is there c.add_text.ensures.took in
    let b = got_bytes d _ _ _ (value_at s (lo + (o.i - lo))) c.in-Some-packed_size.is (c.packed_size.ensures d (places_of c.value_at-v.result.places) h) there in
    subst (λ w. Gathering d (value_at s) lo m (o.i + 1 - lo) c.saturating_add-at.result w (list_of c.add_text.new.self)) (sym c.and-whole.ensures)
    (subst (λ k. Gathering d (value_at s) lo m k c.saturating_add-at.result (result_and o.whole c.in-Some.added) (list_of c.add_text.new.self)) one_more
    (gather_more d (value_at s) lo m (o.i - lo) o.at o.whole (list_of o.held) below (o.invariant d h) _ _ c.in-Some.added _ t b (sum_is _ _ _ c.saturating_add-at.ensures)))

-- more than sixteen were met
too_many : (d : Chunk) (f : ℕ → Shape) (lo n i at : ℕ) (whole : Result ⊤ ManyPlaces) (held : List ℕ) (m : ManyPlaces) (r : Result (Maybe Places) ManyPlaces) → n ≤ i
    → Gathering d f lo n i at whole held → whole ≡ Err m → IsErr r → Means r (built_places d 0 (up (λ j. f (lo + j)) 0 n))
too_many d f lo n i at whole held m (Ok p) l g e k = cc
too_many d f lo n i at whole held m (Err q) l g e k = gather_many d f lo n i at whole held q l g e

pub returns-in_err-whole : goal.returns-in_err-whole
returns-in_err-whole c d h =
    let s = c.args.self.now.state in
    let n = c.args.n in
    let lo = s.height - n in
    let m = s.height - lo in
    let o = c.loop-i in
    subst (λ t. Means c.from_residual.result (built_places d 0 t)) (sym (whole_body (value_at s) n s.height c.requires))
    (too_many d (value_at s) lo m (o.i - lo) o.at o.whole (list_of o.held) _ c.from_residual.result (omega (arith, c.loop-i-test.false)) (o.invariant d h) c.in_err-whole.was c.from_residual.ensures.0)

pub returns : goal.returns
returns c d h =
    let s = c.args.self.now.state in
    let n = c.args.n in
    let lo = s.height - n in
    let m = s.height - lo in
    let o = c.loop-i in
    subst (λ t. Means (Ok (Some o.held)) (built_places d 0 t)) (sym (whole_body (value_at s) n s.height c.requires))
    (gather_held d (value_at s) lo m (o.i - lo) o.at o.whole o.held (omega (arith, c.loop-i-test.false)) (o.invariant d h) c.in_ok-whole.was)

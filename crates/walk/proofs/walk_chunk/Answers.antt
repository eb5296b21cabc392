use Rattle.std.proofs.Common.{refl, ap, ◌∙◌}
use Rattle.std.proofs.lemmas.Result.{err_from_is_err_and}
use Rattle.theorems.specs.Fuel.{full}
use Rattle.rules.specs.Answers.{chunk_in}
use Rattle.blocks.specs.declared.Pending.{Pending}
use Rattle.blocks.specs.Outcomes.{pending_of}
use Rattle.frame.specs.Model.{state_of}
use Rattle.stretch.specs.Stretch.{sheets_of}
use Rattle.walk.proofs.Start.{chunk_walked, locals_are}
use Rattle.walk.proofs.walk_chunk.Goals as goal

pub returns-in_err-flow : goal.returns-in_err-flow
returns-in_err-flow c =
    let a = c.args in
    let x = c.new-x in
    let w = c.interp_region in
    let b = c.new-b.result in
    let p = err_from_is_err_and c.from_residual.result c.from_residual.ensures.1 in
    rw (p.1, p.2)
    (record {
      state = w.new.s.state;
      breaks = w.new.b;
      ends = tt;
      walked =
          chunk_walked a.t.now a.heights.now a.blinds.now a.k c.requires x.result x.ensures.tables x.ensures.chunk _ _ c.start_locals.ensures
          (c.in_err-flow.ensures
          ∙ ap (λ (p : Pending). full (chunk_in x.result) 0 x.result.code.count 0 (state_of x.result.locals.count c.start_locals.new.s.state) (pending_of (state_of x.result.locals.count b.frame.state) p) (sheets_of a.heights.now a.blinds.now)) c.new-b.ensures);
    })

pub returns : goal.returns
returns c =
    let a = c.args in
    let x = c.new-x in
    let w = c.interp_region in
    let b = c.new-b.result in
    let same = locals_are a.t.now a.heights.now a.blinds.now a.k c.requires x.result x.ensures.tables x.ensures.chunk in
    record {
      state = w.new.s.state;
      breaks = w.new.b;
      ends = (refl, refl, refl);
      walked =
          chunk_walked a.t.now a.heights.now a.blinds.now a.k c.requires x.result x.ensures.tables x.ensures.chunk _ _ c.start_locals.ensures
          (rw (← same)
          (c.in_ok-flow.ensures
          ∙ ap (λ (p : Pending). full (chunk_in x.result) 0 x.result.code.count 0 (state_of x.result.locals.count c.start_locals.new.s.state) (pending_of (state_of x.result.locals.count b.frame.state) p) (sheets_of a.heights.now a.blinds.now)) c.new-b.ensures));
    }

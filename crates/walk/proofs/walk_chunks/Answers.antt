use Rattle.std.proofs.Common.{rules, arith}
use Rattle.std.proofs.lemmas.Result.{err_from_is_err_and}
use Rattle.walk.specs.Ready.{results_of}
use Rattle.walk.proofs.Start.{told_refused, told_more}
use Rattle.walk.proofs.walk_chunks.Goals as goal

pub loop-k-preserved : goal.loop-k-preserved
loop-k-preserved c =
    let a = c.args in
    let l = c.loop-k in
    told_more a.t.now a.heights.now a.blinds.now l.heights l.blinds l.k l.invariant (omega arith) _ _ c.walk_chunk.ensures.walked _ (search rules) _ c.in_ok-map_err.was c.walk_chunk.auto.heights c.walk_chunk.auto.blinds

pub returns-in_err-map_err : goal.returns-in_err-map_err
unfolding results_of
returns-in_err-map_err c =
    let a = c.args in
    let l = c.loop-k in
    let p = err_from_is_err_and c.from_residual.result c.from_residual.ensures.1 in
    rw (p.1, p.2) (told_refused a.t.now a.heights.now a.blinds.now l.heights l.blinds l.k l.invariant (omega arith) _ _ c.walk_chunk.ensures.walked _ (search rules) _ c.in_err-map_err.was)

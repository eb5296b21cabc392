-- `nesting::check_nesting` meets its contract. The loop keeps: what the definition finds in all chunks is what was found, or what it finds from
-- chunk k on. Assumes nothing.
use Rattle.std.proofs.Common.{rules, arith}
use Rattle.std.proofs.lemmas.Result.{err_from_is_err_and}
use Rattle.bytecode.specs.Tables.{cap}
use Rattle.bytecode.specs.Meaning.{count_low}
use Rattle.nesting.proofs.All.{is_broken, goes_on, ends_well}
use Rattle.nesting.proofs.check_nesting.Goals as goal

pub check_chunk-requires : goal.check_chunk-requires
unfolding cap
check_chunk-requires c = omega (arith, c.count-k-end.ensures, count_low c.args.t.now 7)

pub returns-in_err-deep : goal.returns-in_err-deep
returns-in_err-deep c =
    let p = err_from_is_err_and c.from_residual.result c.from_residual.ensures.1 in
    rw (p.1, p.2)
    (is_broken c.args.t.now c.loop-k.k c.loop-k.too_deep c.loop-k.invariant (omega (arith, c.count-k-end.ensures)) c.check_chunk.result c.map_err.result c.check_chunk.ensures
    (search rules) _ c.in_err-deep.was)

pub loop-k-preserved : goal.loop-k-preserved
loop-k-preserved c =
    rw c.or-too_deep.ensures
    (goes_on c.args.t.now c.loop-k.k c.loop-k.too_deep c.loop-k.invariant (omega (arith, c.count-k-end.ensures)) c.check_chunk.result c.map_err.result c.check_chunk.ensures
    (search rules) _ c.in_ok-deep.was c.map.result (search rules))

pub returns : goal.returns
returns c = ends_well c.args.t.now c.loop-k.k c.loop-k.too_deep c.loop-k.invariant (omega (arith, c.count-k-end.ensures)) c.map_or.result (search rules)

use mathlib.Core.Path.{refl, ◌∙◌}
use Rattle.std.proofs.lemmas.Result.{err_from_is_err_and}
use Rattle.typed_check.proofs.Module.{tested_bad, tested_good, roomy, zeros_by}
use Rattle.typed_check.proofs.check_module.Goals as goal

pub returns-in_err-test_module : goal.returns-in_err-test_module
returns-in_err-test_module c =
    let p = err_from_is_err_and c.from_residual.result c.from_residual.ensures.1 in
    rw (p.1, p.2, ← c.in_err-test_module.was) (tested_bad c.args.t.now _ _ c.requires.stands_in c.test_module.result _ c.in_err-test_module.was c.test_module.ensures)

pub walk_chunks-requires : goal.walk_chunks-requires
walk_chunks-requires c = roomy c.args.t.now _ _ c.requires.stands_in c.test_module.result c.in_ok-test_module.was c.test_module.ensures c.args.heights.now c.args.blinds.now refl refl

pub returns : goal.returns
returns c = tested_good c.args.t.now _ _ c.requires.stands_in c.test_module.result c.in_ok-test_module.was c.test_module.ensures c.walk_chunks.result _
    (c.walk_chunks.ensures ∙ zeros_by c.args.t.now _ _ c.requires.cleared.0 c.requires.cleared.1)

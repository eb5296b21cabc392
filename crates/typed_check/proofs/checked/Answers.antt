use mathlib.Core.Path.{ap₂, ◌∙◌}
use Prim.Native.Nat.{ℕ}
use Rattle.std.proofs.lemmas.Result.{err_from_is_err_and}
use Rattle.definition.specs.Check.{check_module}
use Rattle.bytecode.specs.Meaning.{module_of}
use Rattle.typed_check.proofs.Whole.{unread, stands, unfit, fit}
use Rattle.typed_check.proofs.checked.Goals as goal

pub returns-in_err-read : goal.returns-in_err-read
returns-in_err-read c =
    let p = err_from_is_err_and c.from_residual.result c.from_residual.ensures.1 in
    rw (p.1, p.2) (unread c.args.listing.now _ _ c.read.new.t _ _ _ c.read.result c.in_err-read.was c.read.ensures.0)

pub check_module-requires-clause-stands_in : goal.check_module-requires-clause-stands_in
check_module-requires-clause-stands_in c = stands c.args.listing.now 0 0 c.read.new.t c.args.heights.now c.args.blinds.now c.read.result c.read.ensures.0 c.in_ok-read.was c.read.ensures.1

pub returns-in_err-check_module : goal.returns-in_err-check_module
returns-in_err-check_module c =
    let p = err_from_is_err_and c.from_residual-in_err-check_module.result c.from_residual-in_err-check_module.ensures.1 in
    rw (p.1, p.2) (unfit c.args.listing.now _ _ c.read.new.t _ _ c.read.result c.read.ensures.0 c.in_ok-read.was c.read.ensures.1 c.check_module.result _
    (c.check_module.ensures ∙ ap₂ (λ (n m : ℕ). check_module n m (module_of c.read.new.t)) c.fill.ensures.len c.fill-2.ensures.len) _ c.in_err-check_module.was)

pub returns : goal.returns
returns c =
    rw c.counts.ensures (fit c.args.listing.now _ _ c.read.new.t c.check_module.new.heights c.check_module.new.blinds c.read.result c.read.ensures.0 c.in_ok-read.was c.read.ensures.1 c.check_module.result _
    (c.check_module.ensures ∙ ap₂ (λ (n m : ℕ). check_module n m (module_of c.read.new.t)) c.fill.ensures.len c.fill-2.ensures.len) c.in_ok-check_module.was)

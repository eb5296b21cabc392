use Rattle.std.proofs.Common.{◌≡◌, get_or, take, reverse}
use Rattle.definition.specs.Module.{no_sig}
use Rattle.bytecode.specs.Meaning.{known_sigs}
use Rattle.frame.specs.Model.{stack_of}
use Rattle.apply.proofs.Calls.{args_from}
use Rattle.apply.proofs.check_args.Given as goal

abbrev pub invariant-loop-arg : goal.invariant-loop-arg
invariant-loop-arg l =
    let args = reverse (take l.n (stack_of l.s.state)) in
    let params = (get_or (known_sigs l.x.tables.now) l.callee no_sig).params in
    args_from l.ip l.callee args params 0 ≡ args_from l.ip l.callee args params l.arg

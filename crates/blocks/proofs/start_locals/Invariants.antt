use Rattle.definition.specs.Walk.{params}
use Rattle.bytecode.specs.Meaning.{chunk_of}
use Rattle.blocks.proofs.Start.{Starting}
use Rattle.blocks.proofs.start_locals.Given as goal

abbrev pub invariant-loop-i : goal.invariant-loop-i
invariant-loop-i l = Starting l.locals.count l.i (params (chunk_of l.t l.k)) l.s.state

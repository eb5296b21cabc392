-- The locals that are left to forget are those from p on, and the operands stay.
use Rattle.std.proofs.Common.{ℕ}
use Rattle.bytecode.specs.Meaning.{chunk_of}
use Rattle.frame.specs.Slots.{SameOperands}
use Rattle.blocks.specs.Visits.{SpanOf}
use Rattle.blocks.proofs.Laws.{Forgetting}
use Rattle.blocks.proofs.invalidate_written_locals.Given as goal

abbrev pub invariant-loop-p : goal.invariant-loop-p
invariant-loop-p l =
    ((k : ℕ) → SpanOf l.t k l.chunk → Forgetting (chunk_of l.t k) l.locals.count l.initial.p l.p-end l.p l.initial.s.state l.s.state)
    × SameOperands l.initial.s.state l.s.state

-- What is put, and what is left from chunk k on. Assumes nothing.
use Rattle.std.proofs.Common.{◌≤◌, ◌*◌}
use Rattle.bytecode.specs.Meaning.{count}
use Rattle.writer.specs.Say.{chunks_said}
use Rattle.writer.proofs.Putting.{Putting}
use Rattle.writer.proofs.Steps.{chunks_left}
use Rattle.writer.proofs.put_chunks.Given as goal

abbrev pub invariant-loop-k : goal.invariant-loop-k
invariant-loop-k l = record {
  put : Putting l.initial.text l.text (chunks_left l.t (count l.t 7) l.k l.constants l.instructions) (chunks_said l.t 0 0 0 (count l.t 7));
  few_constants : l.constants ≤ 1024 * l.k;
  few_instructions : l.instructions ≤ 4096 * l.k;
}

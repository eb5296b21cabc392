-- What is put, and what is left from chunk k on; `base` counts the instructions before it. Assumes nothing.
use Rattle.std.proofs.Common.{◌≡◌, ◌*◌, ◌≤◌}
use Rattle.definition.specs.Printed.{print_chunks, sizes}
use Rattle.bytecode.specs.Meaning.{module_of}
use Rattle.text_out.specs.Text.{with_text}
use Rattle.printed.specs.Texts.{checked}
use Rattle.printed.proofs.Lines.{chunks_left}
use Rattle.printed.proofs.Sheets.put_chunks.Given as goal

abbrev pub invariant-loop-k : goal.invariant-loop-k
invariant-loop-k l = record {
  put : with_text l.text (chunks_left l.t l.self.heights.now l.self.blinds.now l.k l.base) ≡ with_text l.initial.text (print_chunks (checked l.self) 0 0 (sizes (module_of l.t).chunks));
  low : l.base ≤ 4096 * l.k;
}

-- `nesting::check_chunk` meets its contract. Assumes nothing.
use Rattle.bytecode.specs.Meaning.{chunk_of}
use Rattle.nesting.proofs.Parts.{coded}
use Rattle.nesting.proofs.check_chunk.Goals as goal

pub returns-then-from-lt-SHORT : goal.returns-then-from-lt-SHORT
returns-then-from-lt-SHORT c = c.check_in.ensures (chunk_of c.args.t.now c.args.k) (coded c.args.t.now c.args.k c.of_chunk-code.result c.of_chunk-code.ensures)

pub returns-else-from-lt-SHORT : goal.returns-else-from-lt-SHORT
returns-else-from-lt-SHORT c = c.check_in-else-from-lt-SHORT.ensures (chunk_of c.args.t.now c.args.k) (coded c.args.t.now c.args.k c.of_chunk-code.result c.of_chunk-code.ensures)

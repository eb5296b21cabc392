-- Every operand is put. Assumes nothing.
use Rattle.std.proofs.Common.{rules, arith}
use Rattle.std.proofs.lemmas.Slice.Zip.{zip_end}
use Rattle.bytecode.specs.Meaning.{maxima_of}
use Rattle.listing.specs.OpRead.{maxima_short}
use Rattle.writer.proofs.Steps.{puts_operands}
use Rattle.writer.proofs.put_operands.Goals as goal

pub returns : goal.returns
returns c =
    let row = c.args.row in
    let turns = zip_end (maxima_of row.number) c.args.words.now c.loop-most.yielded _ _ c.next.new.self _ (search rules) (search rules) c.loop-most.yielded_by c.in-None.is c.next.ensures.steps in
    puts_operands _ _ _ _ _ _ _ c.loop-most.invariant (omega (arith, turns, maxima_short row.number row.low, c.requires))

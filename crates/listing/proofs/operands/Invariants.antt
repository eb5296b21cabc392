use Rattle.definition.specs.Format.{numbers_at}
use Rattle.bytecode.specs.Meaning.{maxima_of}
use Rattle.listing.specs.OpRead.{Operands}
use Rattle.listing.proofs.operands.Given as goal

abbrev pub invariant-loop-most : goal.invariant-loop-most
invariant-loop-most l = Operands (numbers_at (maxima_of l.fn.row.number) l.fn.bytes) l.fn.row.number l.most-index l.bytes l.fn.values l.values

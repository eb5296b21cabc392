use Rattle.std.proofs.Common.{length, ◌+◌}
use Rattle.listing.specs.Scan.{scan}
use Rattle.listing.specs.Rows.{Sofar}
use Rattle.listing.proofs.scan.Given as goal

abbrev pub invariant-loop-codes : goal.invariant-loop-codes
invariant-loop-codes l = Sofar (scan l.fn.codes l.fn.line) l.codes l.line l.fn.values l.values

abbrev pub decreases-loop-codes : goal.decreases-loop-codes
decreases-loop-codes l = length l.codes + length l.line

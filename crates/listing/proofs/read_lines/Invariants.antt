use Rattle.std.proofs.Common.{length}
use Rattle.listing.specs.Forms.{place_number}
use Rattle.listing.specs.Reads.{Going}
use Rattle.listing.proofs.read_lines.Given as goal

abbrev pub invariant-loop-bytes : goal.invariant-loop-bytes
invariant-loop-bytes l = Going l.fn.bytes l.t (place_number l.place) l.lines l.bytes

abbrev pub decreases-loop-bytes : goal.decreases-loop-bytes
decreases-loop-bytes l = length l.bytes

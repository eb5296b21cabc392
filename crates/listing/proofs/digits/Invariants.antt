use Rattle.std.proofs.Common.{◌≡◌, ◌<◌, length}
use Rattle.definition.specs.Format.{digits_from}
use Rattle.listing.proofs.digits.Given as goal

abbrev pub invariant-loop-bytes : goal.invariant-loop-bytes
invariant-loop-bytes l = (l.number < 4294967296) × (digits_from 0 l.fn.bytes ≡ digits_from l.number l.bytes)

abbrev pub decreases-loop-bytes : goal.decreases-loop-bytes
decreases-loop-bytes l = length l.bytes

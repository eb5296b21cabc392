use Rattle.std.proofs.Common.{rules}
use Rattle.listing.specs.Reads.{cleared, read_short, read_long}
use Rattle.listing.specs.Answer.{answered}
use Rattle.listing.proofs.read.Goals as goal

pub returns-then-bytes-gt-MOST_BYTES : goal.returns-then-bytes-gt-MOST_BYTES
returns-then-bytes-gt-MOST_BYTES c = answered _ _ _ (read_long _ c.if-bytes-gt-MOST_BYTES.true _)

pub read_lines-requires : goal.read_lines-requires
read_lines-requires c = (search rules, cleared _ _ c.told-t (search rules))

pub returns : goal.returns
returns c = answered _ _ _ (read_short _ (search rules) _ _ c.read_lines.ensures)

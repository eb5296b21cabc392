use Rattle.std.specs.Prelude.{[]}
use Rattle.std.proofs.Common.{rules}
use Rattle.listing.specs.OpRead.{op_entered}
use Rattle.listing.proofs.op_entry.Goals as goal

pub returns : goal.returns
returns c =
    let r = c.in_ok-rest.ensures in
    op_entered _ _ _ c.name_length.ensures c.split_at.ensures.front _ (search rules) _ c.split_at.ensures.back r.0 _ r.1 _ (r.2 [] c.new-values.ensures)
    _ _ _ c.then_some.ensures c.eq.ensures c.as_slice.ensures

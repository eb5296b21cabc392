-- `data_layout::count_mismatch` meets its contract. Assumes nothing.
use Rattle.std.proofs.Common.{rules}
use Rattle.answer.specs.Answer.{found_in_none, numbers, fields, with_chunk}
use Rattle.definition.specs.Basics.{first, unless}
use Rattle.definition.specs.Layout.{count_test}
use Rattle.data_layout.proofs.Laws.{entries_are}
use Rattle.data_layout.proofs.count_mismatch.Goals as goal

pub returns-else-entries-total : goal.returns-else-entries-total
unfolding found_in_none numbers fields with_chunk count_test first unless
returns-else-entries-total c =
    let e = entries_are c.args.t.now in search rules

pub returns-then-prefix_shared-total : goal.returns-then-prefix_shared-total
unfolding found_in_none numbers fields with_chunk count_test first unless
returns-then-prefix_shared-total c =
    let e = entries_are c.args.t.now in search rules

pub returns-then-entries-total : goal.returns-then-entries-total
unfolding found_in_none numbers fields with_chunk count_test first unless
returns-then-entries-total c =
    let e = entries_are c.args.t.now in search rules

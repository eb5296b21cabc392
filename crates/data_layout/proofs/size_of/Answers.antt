-- `data_layout::size_of` meets its contract. Assumes nothing.
use Rattle.std.proofs.Common.{rules, arith, sym, ◌∙◌}
use Rattle.data_layout.proofs.Laws.{size_composite, size_lacking, size_if}
use Rattle.data_layout.proofs.size_of.Goals as goal

pub returns-in-128-to-255 : goal.returns-in-128-to-255
returns-in-128-to-255 c = λ h W. rw c.from.ensures (size_composite c.args.widths c.args.entry h W (search rules))

pub returns-in_default : goal.returns-in_default
returns-in_default c = λ h W. size_lacking c.args.widths c.args.entry h W (omega arith) (sym c.is_lacking.ensures ∙ c.if-is_lacking.true)

pub returns-in_default-2 : goal.returns-in_default-2
returns-in_default-2 c = λ h W. size_if c.args.widths c.args.entry h W (omega arith) (sym c.is_lacking.ensures ∙ c.if-is_lacking.false) c.then.result (c.then.ensures.variant ∙ c.is_scalar_tag.ensures) (search rules)

use mathlib.Core.Path.{refl}
use Rattle.bytecode.proofs.Laws.{widths_of}
use Rattle.bytecode.proofs.widths.Goals as goal

pub returns : goal.returns
returns c = widths_of c.args.t.now c.header_at-word.result c.header_at-word.ensures _ refl refl c.address_bytes-address.ensures

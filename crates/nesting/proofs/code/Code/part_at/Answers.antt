-- `nesting::code::Code::part_at` meets its contract. Assumes nothing.
use Rattle.nesting.proofs.Parts.{part_inside, part_past}
use Rattle.nesting.proofs.code.Code.part_at.Goals as goal

pub returns-then-p-self : goal.returns-then-p-self
returns-then-p-self c = part_inside c.args.self.now c.args.p c.of.result c.instr_at.result c.if-p-self.true (rw c.from.ensures at c.instr_at.ensures) c.of.ensures

pub returns-else-p-self : goal.returns-else-p-self
returns-else-p-self c = part_past c.args.self.now c.args.p c.if-p-self.false

-- The numbers of the limits and reasons, as refusals carry them.
use Rattle.std.specs.Prelude.{ℕ}
use Rattle.answer.specs.declared.limit.Limit.{Limit}
use Rattle.answer.specs.declared.limit.Limit.TheVariants as L
use Rattle.answer.specs.declared.reason.PrivateReason.{PrivateReason}
use Rattle.answer.specs.declared.reason.PrivateReason.TheVariants as P
use Rattle.answer.specs.declared.reason.SharedReason.{SharedReason}
use Rattle.answer.specs.declared.reason.SharedReason.TheVariants as S

-- 01: "limits 1 to 6": bytes, a table, LOCALS, open blocks, operands, text places
abbrev pub limit_number : Limit → ℕ
limit_number L.Bytes = 1
limit_number L.Table = 2
limit_number L.Locals = 3
limit_number L.Blocks = 4
limit_number L.Operands = 5
limit_number L.Places = 6

abbrev pub private_number : PrivateReason → ℕ
private_number P.NoSlot = 1
private_number P.OutsideThePool = 2
private_number P.SlotNotAbove = 3
private_number P.OffsetNotAbove = 4

abbrev pub shared_number : SharedReason → ℕ
shared_number S.NotAPrefix = 1
shared_number S.CountsDiffer = 2

-- The answer for one chunk, as the definitions have it.
use Rattle.std.specs.Prelude.{◌≡◌, ℕ, Result, Ok, Err, Option as Maybe}
use Rattle.std.proofs.Math.Option.{Option, none, some}
use Rattle.definition.specs.Instructions.{Chunk}
use Rattle.definition.specs.Nesting.{first_broken, too_deep}
use Rattle.bytecode.specs.Lists.{maybe}

-- the place that breaks a rule
unfoldable pub broken_of : Result (Maybe ℕ) ℕ → Option ℕ
broken_of (Err p) = some p
broken_of (Ok found) = none

-- the opener that makes too many open blocks
unfoldable pub deep_of : Result (Maybe ℕ) ℕ → Option ℕ
deep_of (Err p) = none
deep_of (Ok found) = maybe found

-- The first instruction that breaks a rule; where there is none, the first opener making too many open blocks.
pub record NestingIs (c : Chunk) (r : Result (Maybe ℕ) ℕ) : Type 0 where
  pub broken : first_broken c ≡ broken_of r
  pub deep : first_broken c ≡ none → too_deep c ≡ deep_of r

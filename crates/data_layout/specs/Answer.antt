-- What the code's types mean.
use Rattle.std.specs.Prelude.{Option as Maybe, Some, None}
use Rattle.std.proofs.Math.Option.{Option, none, some}
use Rattle.definition.specs.Module.{Private}
use Rattle.bytecode.specs.Parts.{private_of}
use Rattle.bytecode.specs.declared.PrivateEntry.{PrivateEntry}

-- the entry before, if there is one
unfoldable pub before_of : Maybe PrivateEntry → Option Private
before_of None = none
before_of (Some d) = some (private_of d)

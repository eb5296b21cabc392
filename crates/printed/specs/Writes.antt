-- What a call that prints promises of its buffer.
use Rattle.std.specs.Prelude.{◌≡◌, List, ℕ, ◌≤◌, length, take}
use Rattle.definition.specs.Format.{Bytes}

-- The buffer's first n bytes are the text.
pub record Holds (buffer : List ℕ) (n : ℕ) (text : Bytes) : Type 0 where
  pub front : take n buffer ≡ text
  pub within : n ≤ length buffer

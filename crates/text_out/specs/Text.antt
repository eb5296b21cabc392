-- A text that is put into a lent buffer, byte by byte.
use Rattle.std.specs.Prelude.{List, [], ◌∷◌, ℕ, ◌+◌, min, set}
use Rattle.std.specs.Borrow.{MutBor}
use denote.Ref.{at_last}
use Rattle.definition.specs.Format.{Bytes}
use Rattle.text_out.specs.declared.Text.{Text}

-- no text yet
abbrev pub started : MutBor (List ℕ) → Text
started out = record { out = out; at = 0 }

abbrev pub text_length : Text → ℕ
text_length t = t.at

-- the place after a byte's: counting ends at the last number of 64 bits
abbrev pub after_byte : ℕ → ℕ
after_byte at = min (at + 1) 18446744073709551615

-- the place after a text's
unfoldable pub after_text : ℕ → Bytes → ℕ
after_text at [] = at
after_text at (b ∷ bs) = after_text (after_byte at) bs

-- a buffer with a text from `at` on, as far as it goes: a byte past its end is not kept
unfoldable pub laid : List ℕ → ℕ → Bytes → List ℕ
laid out at [] = out
laid out at (b ∷ bs) = laid (set out at b) (after_byte at) bs

-- The same borrow, with a text after the one before.
abbrev pub with_text : Text → Bytes → Text
with_text t x = record { out = at_last t.out (laid t.out.now t.at x); at = after_text t.at x }

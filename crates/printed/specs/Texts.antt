-- The texts that the functions of this crate put, each by the definition's words.
use Rattle.std.specs.Prelude.{List, [], ◌∷◌, ℕ, length}
use Rattle.definition.specs.Format.{Bytes, bytes, decimal}
use Rattle.definition.specs.Module.{all_ops}
use Rattle.definition.specs.Check.{Answer, accepted, refusal, Checked}
use Rattle.definition.specs.Printed.{words, height_word, blind_word, sizes, print_answer}
use Rattle.bytecode.specs.Meaning.{module_of}
use Rattle.printed.specs.declared.Sheets.{Sheets}

-- The first line for an accepted module: its chunks and its instructions.
unfoldable pub header : ℕ → ℕ → Bytes
header chunks instructions = words (bytes "accepted" ∷ decimal chunks ∷ decimal instructions ∷ [])

-- One instruction's line: its chunk, its index there, and its entries of both sheets.
unfoldable pub line : ℕ → ℕ → ℕ → ℕ → Bytes
line k i h b = words (decimal k ∷ decimal i ∷ height_word h ∷ blind_word b ∷ [])

-- The two sheets; the lines of the instructions depend on nothing else.
unfoldable pub of_sheets : List ℕ → List ℕ → Checked
of_sheets hs bs = record { answer = refusal []; heights = hs; blinds = bs }

abbrev pub checked : Sheets → Checked
checked s = of_sheets s.heights.now s.blinds.now

-- The answer for the module that the tables t mean, where it is accepted.
unfoldable pub acceptance : List ℕ → Answer
acceptance t = accepted (length (module_of t).chunks) (length (all_ops (module_of t).chunks))

-- What is printed for that module and the two sheets.
unfoldable pub accepted_text : List ℕ → List ℕ → List ℕ → Bytes
accepted_text t hs bs =
    print_answer (record { answer = acceptance t; heights = hs; blinds = bs }) (sizes (module_of t).chunks) (acceptance t)

-- The writing call on tables: they mean a module, and where they say it exactly it is written.
use Rattle.std.specs.Prelude.{◌≡◌, Bool, true, false, List, [], ◌∷◌, ◌++◌, ℕ, ◌≤◌, length, take, drop, Result as Outcome}
use Rattle.definition.specs.Basics.{Result, ok, refused}
use Rattle.definition.specs.Format.{Bytes}
use Rattle.definition.specs.Module.{Module}
use Rattle.definition.specs.Read.{read}
use Rattle.definition.specs.Write.{Written, write, put_result}
use Rattle.bytecode.specs.Meaning.{module_of}
use Rattle.bytecode.specs.Exact.{is_exact}
use Rattle.answer.specs.Answer.{written_of}
use Rattle.answer.specs.declared.Refusal.{Refusal}

-- "A module that no listing gives is 1, line 0": tables that say no module exactly say one that no listing gives.
unfoldable pub text_of : Bool → Module → Result Bytes
text_of true m = write m
text_of false m = refused (1 ∷ 0 ∷ 0 ∷ [])

-- The writing call, for any words and any buffer.
unfoldable pub write_tables : List ℕ → Bytes → Written
write_tables t buffer = put_result (text_of (is_exact t) (module_of t)) buffer

-- what the call gives: its answer, and the buffer at exit
unfoldable pub answer_written : Outcome ℕ Refusal → Bytes → Written
answer_written a buffer = record { answer = written_of a; buffer = buffer }

-- "What it writes is read as the same module".
abbrev pub ReadAgain : List ℕ → Outcome ℕ Refusal → Bytes → Type 0
ReadAgain t a after = (n : ℕ) → written_of a ≡ ok n → read (take n after) ≡ ok (module_of t)

-- "a listing that reads is written as the same bytes": one that the tables were read from stands in a buffer that is long enough, byte by byte, and what
-- lies behind it kept its values.
abbrev pub WrittenBack : List ℕ → Bytes → Outcome ℕ Refusal → Bytes → Type 0
WrittenBack t before a after =
    (bs : Bytes) → read bs ≡ ok (module_of t) → is_exact t ≡ true → length bs ≤ length before → (written_of a ≡ ok (length bs)) × (after ≡ bs ++ drop (length bs) before)

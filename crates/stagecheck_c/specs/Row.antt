-- What a caller of the library finds in the words that it lends, and in what else it lends.
use Rattle.std.specs.Prelude.{◌≡◌, true, false, List, [], ◌∷◌, ◌++◌, ℕ, ◌≤◌, length, get_or, take, drop, Result as Outcome}
use Rattle.definition.specs.Basics.{Result, ok, refused}
use Rattle.definition.specs.Format.{Bytes}
use Rattle.definition.specs.Module.{Module, all_ops}
use Rattle.definition.specs.Read.{read}
use Rattle.definition.specs.Write.{Written}
use Rattle.definition.specs.Check.{Checked, Answer, accepted, refusal}
use Rattle.bytecode.specs.Meaning.{module_of}
use Rattle.bytecode.specs.Exact.{is_exact}
use Rattle.answer.specs.declared.Accepted.{Accepted}
use Rattle.answer.specs.declared.Refused.{Refused}
use Rattle.answer.specs.Answer.{answer_of}
use Rattle.answer.specs.Numbers.{values_of, values_of_written, row_of}

-- The words are these values with zeros after them, and n says how many values there are.
pub record Numbered (values : List ℕ) (n : ℕ) (words : List ℕ) : Type 0 where
  pub count_is : n ≡ (row_of values).count
  pub words_are : words ≡ (row_of values).words

-- The answer of the check, and both sheets: the definition's.
pub record Given (c : Checked) (n : ℕ) (words heights blinds : List ℕ) : Type 0 where
  pub numbers : Numbered (values_of c.answer) n words
  pub heights_are : heights ≡ c.heights
  pub blinds_are : blinds ≡ c.blinds

-- The answer of reading alone, without any check: how many chunks and instructions there are, or the refusal.
unfoldable pub read_answer : Result Module → Answer
read_answer (ok m) = accepted (length m.chunks) (length (all_ops m.chunks))
read_answer (refused r) = refusal r

-- What reading leaves: that answer; where the listing reads, tables that say exactly its module, and where it does not, none: word 0, the header's count, is 0.
pub record ReadInto (o : Result Module) (a : Outcome Accepted Refused) (tables : List ℕ) : Type 0 where
  pub answer : answer_of a ≡ read_answer o
  pub module_is : (m : Module) → o ≡ ok m → (module_of tables ≡ m) × (is_exact tables ≡ true)
  pub no_module : (r : List ℕ) → o ≡ refused r → is_exact tables ≡ false
  pub no_header : (r : List ℕ) → o ≡ refused r → get_or tables 0 0 ≡ 0

-- That answer; where the listing reads, the tables say exactly its module, and where it does not, none: word 0, the header's count, is 0.
pub record ReadGiven (o : Result Module) (n : ℕ) (words tables : List ℕ) : Type 0 where
  pub numbers : Numbered (values_of (read_answer o)) n words
  pub module_is : (m : Module) → o ≡ ok m → (module_of tables ≡ m) × (is_exact tables ≡ true)
  pub no_module : (r : List ℕ) → o ≡ refused r → is_exact tables ≡ false
  pub no_header : (r : List ℕ) → o ≡ refused r → get_or tables 0 0 ≡ 0

-- The answer of the writing call, and the buffer.
pub record WriteGiven (w : Written) (n : ℕ) (words out : List ℕ) : Type 0 where
  pub numbers : Numbered (values_of_written w.answer) n words
  pub buffer_is : out ≡ w.buffer

-- A listing that the tables were read from stands in a buffer that is long enough, byte by byte, and what lies behind it kept its values.
abbrev pub BackGiven : List ℕ → Bytes → ℕ → List ℕ → Bytes → Type 0
BackGiven t before n words after =
    (bs : Bytes) → read bs ≡ ok (module_of t) → is_exact t ≡ true → length bs ≤ length before →
    Numbered (0 ∷ length bs ∷ []) n words × (after ≡ bs ++ drop (length bs) before)

-- What was written is read as the module that the tables mean.
abbrev pub AgainGiven : List ℕ → Written → Bytes → Type 0
AgainGiven t w after = (n : ℕ) → w.answer ≡ ok n → read (take n after) ≡ ok (module_of t)

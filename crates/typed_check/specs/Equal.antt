-- What the entry's types mean, and what it promises.
use Rattle.std.specs.Prelude.{◌≡◌, List, ℕ, length, Result as Outcome, Ok, Err}
use Rattle.std.proofs.Math.Option.{Option}
use Rattle.definition.specs.Basics.{ok, refused, first}
use Rattle.definition.specs.Read.{read}
use Rattle.definition.specs.Module.{all_ops}
use Rattle.definition.specs.Layout.{layout_test}
use Rattle.definition.specs.Check.{Answer as AnyAnswer, Checked, accepted, check, conclude, sheets_test, nesting_test}
use Rattle.bytecode.specs.Meaning.{count, module_of, table_chunks}
use Rattle.definition.specs.Demand.{Demand3}
use Rattle.definition.specs.Format.{Bytes}
use Rattle.answer.specs.declared.Accepted.{Accepted}
use Rattle.answer.specs.declared.Refused.{Refused}
use Rattle.answer.specs.Answer.{refused_numbers, answer_of}
use Rattle.listing.specs.Answer.{StandsIn}

-- an answer, and what both sheets hold
abbrev pub checked_of : Outcome Accepted Refused → List ℕ → List ℕ → Checked
checked_of a heights blinds = record { answer = answer_of a; heights = heights; blinds = blinds }

-- Where the listing is accepted, demand 3 holds of it and of both sheets.
abbrev pub Sound : AnyAnswer → Bytes → List ℕ → List ℕ → Type 0
Sound a listing heights blinds = (chunks instructions : ℕ) → a ≡ accepted chunks instructions → Demand3 listing heights blinds

-- Where the listing is accepted, the tables hold its module.
abbrev pub Tabled : Outcome Accepted Refused → Bytes → List ℕ → Type 0
Tabled a listing tables = (chunks instructions : ℕ) → answer_of a ≡ accepted chunks instructions → (read listing ≡ ok (module_of tables)) × StandsIn tables

-- how many chunks and instructions the module in the tables has
abbrev pub counted : List ℕ → Accepted
counted tables = record { chunks = count tables 7; instructions = count tables 9 }

-- The answer is the definition's; where it is an acceptance, the sheets and the module in the tables are too.
unfoldable pub CheckedIs : Bytes → ℕ → ℕ → Outcome Accepted Refused → List ℕ → List ℕ → List ℕ → Type 0
CheckedIs listing h b (Ok a) tables heights blinds = (checked_of (Ok a) heights blinds ≡ check listing h b) × Tabled (Ok a) listing tables
CheckedIs listing h b (Err r) tables heights blinds = check listing h b ≡ conclude h b (refused (refused_numbers r))

-- the tests of a module in the tables, before it is walked
unfoldable pub tests_of : ℕ → ℕ → List ℕ → Option (List ℕ)
tests_of h b t = first (sheets_test (length (all_ops (module_of t).chunks)) h b) (first (nesting_test (table_chunks t)) (layout_test (module_of t)))

-- What each case of an answer means: the number and the values of each refusal.
use Rattle.std.specs.Prelude.{Bool, true, false, List, [], ◌∷◌, ℕ, Result as Outcome, Ok, Err}
use Rattle.std.proofs.Math.Option.{Option, none, some}
use Rattle.definition.specs.Basics.{Result, ok, refused}
use Rattle.definition.specs.Check.{Answer as AnyAnswer, accepted, refusal as refusing}
use Rattle.answer.specs.declared.Refusal.{Refusal}
use Rattle.answer.specs.declared.Refusal.TheVariants as R
use Rattle.answer.specs.declared.Refused.{Refused}
use Rattle.answer.specs.declared.Accepted.{Accepted}
use Rattle.answer.specs.Codes.{limit_number, private_number, shared_number}

-- 01: "A refusal carries number, chunk (0 if none), then its Rust fields in declared order; 2 carries ip (0 if none) and limit, 3 ip."
-- 1 carries "the count of lines before it", 4 "their number, the shorter length", 20 "the length needed". The chunk is not among these.
unfoldable pub fields : Refusal → List ℕ
fields (R.CannotFollow lines) = 1 ∷ lines ∷ []
fields (R.LimitPassed ip limit) = 2 ∷ ip ∷ limit_number limit ∷ []
fields (R.NotNested ip) = 3 ∷ ip ∷ []
fields (R.SheetTooShort instructions length) = 4 ∷ instructions ∷ length ∷ []
fields (R.StackUnderflow ip) = 5 ∷ ip ∷ []
fields (R.OffsetOutOfBounds ip offset need size) = 6 ∷ ip ∷ offset ∷ need ∷ size ∷ []
fields (R.ExpectedComposite ip) = 7 ∷ ip ∷ []
fields (R.NewCompositeSizeMismatch ip baked computed) = 8 ∷ ip ∷ baked ∷ computed ∷ []
fields (R.TextFieldMismatch ip offset) = 9 ∷ ip ∷ offset ∷ []
fields (R.BranchHeightMismatch ip then else) = 10 ∷ ip ∷ then ∷ else ∷ []
fields (R.LoopNotNeutral ip entry exit) = 11 ∷ ip ∷ entry ∷ exit ∷ []
fields (R.LoopFloorBreach ip floor available required) = 12 ∷ ip ∷ floor ∷ available ∷ required ∷ []
fields (R.LocalTypeMismatch ip slot) = 13 ∷ ip ∷ slot ∷ []
fields (R.CallArgMismatch ip callee arg) = 14 ∷ ip ∷ callee ∷ arg ∷ []
fields (R.ArrayStrideMismatch ip element array) = 15 ∷ ip ∷ element ∷ array ∷ []
fields (R.SharedSlotOutOfBounds slot offset size buffer) = 16 ∷ slot ∷ offset ∷ size ∷ buffer ∷ []
fields (R.EnumBodySizeMismatch ip baked) = 17 ∷ ip ∷ baked ∷ []
fields (R.PrivateCompositeLayoutInvalid index slot reason) = 18 ∷ index ∷ slot ∷ private_number reason ∷ []
fields (R.SharedLayoutCountMismatch slots len reason) = 19 ∷ slots ∷ len ∷ shared_number reason ∷ []
fields (R.BufferTooShort needed) = 20 ∷ needed ∷ []

-- the refusal's number, the chunk's, then the values
unfoldable pub with_chunk : ℕ → List ℕ → List ℕ
with_chunk k [] = []
with_chunk k (n ∷ fields) = n ∷ k ∷ fields

unfoldable pub numbers : ℕ → Refusal → List ℕ
numbers k r = with_chunk k (fields r)

-- as the definitions have it inside one chunk
unfoldable pub refusal : {A : Type 0} → Outcome A Refusal → Option (List ℕ)
refusal (Ok _) = none
refusal (Err r) = some (fields r)

-- no refusal
abbrev pub is_none : Option (List ℕ) → Bool
is_none none = true
is_none (some r) = false

-- with its chunk
abbrev pub refused_numbers : Refused → List ℕ
refused_numbers r = numbers r.chunk r.refusal

-- as the definitions have it of a module
unfoldable pub found : Outcome Unit Refused → Option (List ℕ)
found (Ok _) = none
found (Err r) = some (refused_numbers r)

-- the same of a test that belongs to no chunk
unfoldable pub found_in_none : Outcome Unit Refusal → Option (List ℕ)
found_in_none (Ok _) = none
found_in_none (Err r) = some (numbers 0 r)

unfoldable pub answer_of : Outcome Accepted Refused → AnyAnswer
answer_of (Ok a) = accepted a.chunks a.instructions
answer_of (Err r) = refusing (refused_numbers r)

unfoldable pub written_of : Outcome ℕ Refusal → Result ℕ
written_of (Ok n) = ok n
written_of (Err r) = refused (numbers 0 r)

-- A stretch of instructions that lead straight onward, examined one after the other.
use Rattle.std.specs.Prelude.{ℕ, suc, ◌+◌, ◌-◌, ◌≤◌, ◌<◌, ◌≡◌, Bool, true, false, ◌||◌, List, [], ◌∷◌, get_or, set, eqb, ltb, Result as Outcome, Ok, Err}
use Rattle.definition.specs.Basics.{refused}
use Rattle.definition.specs.Instructions.{Control, control, onward, stops, returns, resets, end_if, end_loop, if_to, else_to, loop_to, break_to, break_if_to}
use Rattle.definition.specs.Walk.{State as AnyState, Sheets, Breaks as AnyBreaks, Walker, walk_instr, mark_blind}
use Rattle.bytecode.specs.Meaning.{op_at, table_instr_at}
use Rattle.frame.specs.declared.State.{State}
use Rattle.frame.specs.Model.{state_of}
use Rattle.rules.specs.declared.chunk.Context.{Context}
use Rattle.answer.specs.declared.Refusal.{Refusal}
use Rattle.answer.specs.Answer.{fields}
use Rattle.rules.specs.Answers.{chunk_in}

-- the number of a code that leads onward and opens nothing
unfoldable pub straight : ℕ → Bool
straight code = ltb code 64 || (eqb code 72 || eqb code 73)

-- the instruction at ip leads straight onward
abbrev pub Straight : Context → ℕ → Type 0
Straight x ip = straight (op_at x.tables.now (x.code.first + ip)).code ≡ true

-- where an instruction leads, from its code and first operand
unfoldable pub leads : ℕ → ℕ → Control
leads code a =
    elim (ltb code 64) [
      | true ↦ onward
      | false ↦ get_or (stops ∷ if_to a ∷ break_if_to a ∷ else_to a ∷ end_if ∷ loop_to a ∷ end_loop ∷ break_to a ∷ onward ∷ resets ∷ returns ∷ []) (code - 64) onward
    ]

-- both sheets
abbrev pub sheets_of : List ℕ → List ℕ → Sheets
sheets_of h b = record { heights = h; blinds = b }

-- the sheets with the marks of an instruction before which there are h operands
unfoldable pub marked : ℕ → ℕ → Bool → Sheets → Sheets
marked at h b sh = record { heights = set sh.heights at (suc h); blinds = mark_blind b at sh.blinds }

-- A walk of the instructions from start up to end that takes one instruction after the other, as the definition's does.
abbrev pub Unfolds : Context → ℕ → ℕ → ℕ → Walker → Type 0
Unfolds x start end floor w =
    (ip : ℕ) → start ≤ ip → ip < end → (s : AnyState) (b : AnyBreaks) (sh : Sheets) →
    w ip end floor s b sh ≡ walk_instr (chunk_in x) w ip end floor s b sh (table_instr_at x.tables.now (x.code.first + ip)) (control (table_instr_at x.tables.now (x.code.first + ip)))

-- Such a walk comes from start, a state and sheets to ip and others.
abbrev pub Comes : Context → ℕ → ℕ → ℕ → AnyState → Sheets → ℕ → AnyState → Sheets → Type 0
Comes x start end floor s sh ip u sh' = (w : Walker) → Unfolds x start end floor w → (b : AnyBreaks) → w start end floor s b sh ≡ w ip end floor u b sh'

-- The walk has come from start to `next`, a state and sheets. It has passed the first instruction, if that is straight.
pub record Passes (x : Context) (start end floor : ℕ) (s : State) (sh : Sheets) (next : ℕ) (u : State) (sh' : Sheets) : Type 0 where
  pub from : start ≤ next
  pub to : next ≤ end
  pub moved : start < end → Straight x start → start < next
  pub came : Comes x start end floor (state_of x.locals.count s) sh next (state_of x.locals.count u) sh'

-- The walk from start, a state and sheets is refused.
abbrev pub Stops : Context → ℕ → ℕ → ℕ → AnyState → Sheets → Refusal → Type 0
Stops x start end floor s sh r = (w : Walker) → Unfolds x start end floor w → (b : AnyBreaks) → w start end floor s b sh ≡ refused (fields r)

-- A refusal names the instruction at which the walk stopped: the ip stands behind its number.
abbrev pub StoppedIn : ℕ → ℕ → Outcome ℕ Refusal → Type 0
StoppedIn start end (Ok next) = Unit {0}
StoppedIn start end (Err r) = (start ≤ get_or (fields r) 1 0) × (get_or (fields r) 1 0 < end)

-- The walk of straight instructions from start on: it comes to where it stopped, or is refused.
abbrev pub RanIs : Context → ℕ → ℕ → ℕ → State → Sheets → Outcome ℕ Refusal → State → Sheets → Type 0
RanIs x start end floor s sh (Ok next) u sh' = Passes x start end floor s sh next u sh'
RanIs x start end floor s sh (Err r) u sh' = Stops x start end floor (state_of x.locals.count s) sh r

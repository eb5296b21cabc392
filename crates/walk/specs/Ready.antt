-- What the walkers ask of their arguments, and what they walk.
use Rattle.std.specs.Prelude.{◌≡◌, List, ℕ, suc, ◌+◌, ◌-◌, ◌≤◌, ◌<◌, length, Option as Maybe, Some, None, Result as Outcome, Ok, Err}
use Rattle.definition.specs.Basics.{Result, ok, refused}
use Rattle.definition.specs.Instructions.{Control, loop_to}
use Rattle.definition.specs.Walk.{State as AnyState, Sheets, Breaks as AnyBreaks, Walked, Left as AnyLeft, no_break, walk_arms, walk_chunk}
use Rattle.definition.specs.Nesting.{else_at}
use Rattle.theorems.specs.Fuel.{full}
use Rattle.theorems.specs.Nested.{Arm, Nested}
use Rattle.bytecode.specs.Meaning.{chunk_of, first_op, op_count, locals_at}
use Rattle.frame.specs.declared.State.{State}
use Rattle.frame.specs.Model.{state_of}
use Rattle.rules.specs.declared.chunk.Context.{Context}
use Rattle.rules.specs.Answers.{chunk_in}
use Rattle.answer.specs.declared.Refusal.{Refusal}
use Rattle.answer.specs.declared.Refused.{Refused}
use Rattle.answer.specs.Answer.{refused_numbers}
use Rattle.stretch.specs.Stretch.{sheets_of}
use Rattle.blocks.specs.declared.Flow.{Flow}
use Rattle.blocks.specs.declared.Breaks.{Breaks}
use Rattle.blocks.specs.declared.visiting.Visit.{Visit}
use Rattle.blocks.specs.Outcomes.{Standing, standing, within, walked_of, rest_of, left_of, loop_of, after_last, forgotten}
use Rattle.blocks.specs.Visits.{Placed, visit_in}
use Rattle.walk.specs.declared.ChunkEnd.{ChunkEnd}

-- A stretch of a nested chunk: from ip on to the end of an arm, over a loop's floor.
pub record Ready (x : Context) (heights blinds : List ℕ) (ip end floor : ℕ) : Type 0 where
  pub placed : Placed x heights blinds
  pub from : ℕ
  pub arm : Arm (chunk_in x) from end
  pub after : from ≤ ip
  pub before : ip ≤ end
  pub inside : end ≤ x.code.count

-- the walk of a stretch
abbrev pub Walks : Context → ℕ → ℕ → ℕ → Standing → Outcome Flow Refusal → Standing → Type 0
Walks x start end floor p r q = walked_of r q ≡ full (chunk_in x) start end floor p.state p.breaks p.sheets

-- The instruction at ip is one of an arm that ends at `end`.
pub record In (x : Context) (ip end : ℕ) : Type 0 where
  pub from : ℕ
  pub arm : Arm (chunk_in x) from end
  pub after : from ≤ ip
  pub below : ip < end

-- the walk goes on behind ip, in the same stretch, if it does
abbrev pub Goes : ℕ → ℕ → Outcome (Maybe ℕ) Refusal → Type 0
Goes ip end (Ok (Some next)) = (ip < next) × (next ≤ end)
Goes ip end (Ok None) = Unit {0}
Goes ip end (Err r) = Unit {0}

-- What is left of a stretch after the instruction at ip and its blocks.
pub record Rests (x : Context) (ip end floor : ℕ) (walk : Result Walked) (r : Outcome (Maybe ℕ) Refusal) (q : Standing) : Type 0 where
  pub walked : rest_of (chunk_in x) end floor r q ≡ walk
  pub goes : Goes ip end r

-- the visit of the instruction at ip, in whatever stretch it is
abbrev pub Visits : Context → ℕ → ℕ → Standing → Control → Outcome (Maybe ℕ) Refusal → Standing → Type 0
Visits x ip floor p k r q = (end : ℕ) → In x ip end → Rests x ip end floor (visit_in x ip end floor p k) r q

-- the same of a visit, and of that of a loop, whatever the floor and the breaks around it
abbrev pub Sees : Visit → Standing → Control → Outcome (Maybe ℕ) Refusal → Standing → Type 0
Sees v p k r q = Visits v.x.now v.ip v.floor.height p k r q

abbrev pub Loops : Visit → State → List ℕ → List ℕ → Outcome (Maybe ℕ) Refusal → State → List ℕ → List ℕ → Type 0
Loops v s h b r s' h' b' =
    (floor : ℕ) (k : AnyBreaks) → Visits v.x.now v.ip floor (within v.x.now.locals.count k s h b) (loop_to v.target) r (within v.x.now.locals.count k s' h' b')

-- the arms of the If at ip
abbrev pub Arms : Context → ℕ → ℕ → ℕ → Standing → Outcome (Maybe ℕ) Refusal → Standing → Type 0
Arms x target ip floor p r q =
    (end : ℕ) → In x ip end → Rests x ip end floor (walk_arms (full (chunk_in x)) ip target end floor p.state p.breaks p.sheets (else_at (chunk_in x) ip target)) r q

-- the last pass over the loop at ip, from a head
abbrev pub last_from : Context → ℕ → ℕ → ℕ → AnyState → Sheets → Result AnyLeft
last_from x ip exit floor head sh = after_last ip head (full (chunk_in x) (suc ip) (exit - 1) floor head no_break sh)

abbrev pub last_in : Context → ℕ → ℕ → ℕ → AnyState → Sheets → Result AnyLeft
last_in x ip exit floor head sh = last_from x ip exit floor (forgotten (chunk_in x) (suc ip) (exit - 1) head) sh

-- what the passes over the loop of a visit leave, and what they are
abbrev pub left_at : Visit → Outcome Unit Refusal → State → List ℕ → List ℕ → Result AnyLeft
left_at v r s h b = left_of r (state_of v.x.now.locals.count s) (sheets_of h b)

abbrev pub looped_at : Visit → State → List ℕ → List ℕ → Result AnyLeft
looped_at v s h b = loop_of (chunk_in v.x.now) v.ip v.target (state_of v.x.now.locals.count s) (sheets_of h b)

abbrev pub last_at : Visit → State → List ℕ → List ℕ → Result AnyLeft
last_at v head h b = last_in v.x.now v.ip v.target v.floor.height (state_of v.x.now.locals.count head) (sheets_of h b)

-- A nested chunk with room for its instructions in both sheets.
pub record Roomy (t heights blinds : List ℕ) (k : ℕ) : Type 0 where
  pub low : k < 64
  pub heights_long : first_op t k + op_count t k ≤ length heights
  pub blinds_long : first_op t k + op_count t k ≤ length blinds
  pub nested : Nested (chunk_of t k)

-- the flow of a chunk's end
abbrev pub flow_of : Outcome ChunkEnd Refusal → Outcome Flow Refusal
flow_of (Ok e) = Ok e.flow
flow_of (Err r) = Err r

-- A state and breaks are those in which a chunk ends, so far as the answer says.
abbrev pub Ends : Outcome ChunkEnd Refusal → State → Breaks → Type 0
Ends (Ok e) s b = (s.height ≡ e.height) × (b.pending ≡ e.pending) × (b.frame.state.height ≡ e.break_height)
Ends (Err r) s b = Unit {0}

-- The walk of chunk k over these sheets is the definition's, with the state and breaks in which it ends.
pub record WalkedChunk (t : List ℕ) (k : ℕ) (heights blinds : List ℕ) (r : Outcome ChunkEnd Refusal) (heights' blinds' : List ℕ) : Type 0 where
  pub state : State
  pub breaks : Breaks
  pub ends : Ends r state breaks
  pub walked : walked_of (flow_of r) (standing (locals_at t k) state breaks heights' blinds') ≡ walk_chunk (chunk_of t k) (sheets_of heights blinds)

-- the walk of all chunks, with the sheets that it leaves
unfoldable pub results_of : Outcome Unit Refused → Sheets → Result Sheets
results_of (Ok _) sh = ok sh
results_of (Err r) sh = refused (refused_numbers r)

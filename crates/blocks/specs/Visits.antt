-- The visit of one instruction, and what the code asks for it and knows of it.
use Rattle.std.specs.Prelude.{◌≡◌, List, ℕ, suc, ◌+◌, ◌≤◌, length, set, Option as Maybe, Some, None, Result as Outcome, Ok, Err}
use Rattle.definition.specs.Instructions.{Instr as AnyInstr, Control, control}
use Rattle.definition.specs.Basics.{Result, first}
use Rattle.definition.specs.Walk.{Walked, walk_instr, floor_test, need_test}
use Rattle.theorems.specs.Fuel.{full}
use Rattle.theorems.specs.Nested.{Nested}
use Rattle.bytecode.specs.Meaning.{table_instr_at, first_op, op_count}
use Rattle.bytecode.specs.declared.Span.{Span}
use Rattle.frame.specs.declared.State.{State}
use Rattle.rules.specs.declared.chunk.Context.{Context}
use Rattle.rules.specs.Answers.{chunk_in}
use Rattle.answer.specs.declared.Refusal.{Refusal}
use Rattle.answer.specs.Answer.{refusal}
use Rattle.stretch.specs.Stretch.{leads}
use Rattle.blocks.specs.declared.Flow.{Flow}
use Rattle.blocks.specs.declared.Flow.TheVariants.{Ended, Falls}
use Rattle.blocks.specs.declared.Breaks.{Breaks}
use Rattle.blocks.specs.declared.visiting.Visit.{Visit}
use Rattle.blocks.specs.Outcomes.{Standing, standing, rest_of}

-- A nested chunk, and room for it in both sheets.
pub record Placed (x : Context) (heights blinds : List ℕ) : Type 0 where
  pub heights_long : x.code.first + x.code.count ≤ length heights
  pub blinds_long : x.code.first + x.code.count ≤ length blinds
  pub nested : Nested (chunk_in x)

-- what the code holds in the chunk under check
abbrev pub stands : Context → State → Breaks → List ℕ → List ℕ → Standing
stands x s b heights blinds = standing x.locals.count s b heights blinds

-- where the instructions of chunk k stand among all
abbrev pub SpanOf : List ℕ → ℕ → Span → Type 0
SpanOf t k chunk = (chunk.first ≡ first_op t k) × (chunk.count ≡ op_count t k)

-- its instruction at ip
abbrev pub instr_in : Context → ℕ → AnyInstr
instr_in x ip = table_instr_at x.tables.now (x.code.first + ip)

-- the walk of the stretch from the instruction at ip up to `end`, which leads as k says
abbrev pub visit_in : Context → ℕ → ℕ → ℕ → Standing → Control → Result Walked
visit_in x ip end floor p k = walk_instr (chunk_in x) (full (chunk_in x)) ip end floor p.state p.breaks p.sheets (instr_in x ip) k

-- the instruction at ip leads as its code and its target say
abbrev pub Coded : Context → ℕ → ℕ → ℕ → Type 0
Coded x ip code target = control (instr_in x ip) ≡ leads code target

-- the instruction of a visit leads so
abbrev pub Leads : Visit → Control → Type 0
Leads v k = control (instr_in v.x.now v.ip) ≡ k

-- where a walk goes on that falls through to `next`
abbrev pub falling_to : Flow → ℕ → Maybe ℕ
falling_to Ended next = None
falling_to Falls next = Some next

abbrev pub next_of : ℕ → Outcome Flow Refusal → Outcome (Maybe ℕ) Refusal
next_of next (Ok flow) = Ok (falling_to flow next)
next_of next (Err r) = Err r

-- The visit of the instruction at ip, which has no blocks, whatever is in the blind sheet.
abbrev pub Visited : Context → ℕ → ℕ → (List ℕ → Standing) → Outcome Flow Refusal → (List ℕ → Standing) → Control → Type 0
Visited x ip floor before r after k = (end : ℕ) (bl : List ℕ) → visit_in x ip end floor (before bl) k ≡ rest_of (chunk_in x) end floor (next_of (ip + 1) r) (after bl)

-- The visit of an instruction of this code, which has no blocks, wherever it leads.
abbrev pub Leaf : Visit → ℕ → (List ℕ → Standing) → Outcome Flow Refusal → (List ℕ → Standing) → Type 0
Leaf v code before r after = (target : ℕ) → Coded v.x.now v.ip code target → Visited v.x.now v.ip v.floor.height before r after (leads code target)

-- What is lent to a leaf stays as it was where it is refused or its path ends; where it falls through, the words and the places stay, and the height alone may be another.
abbrev pub Kept : Outcome Flow Refusal → State → State → Type 0
Kept (Ok Falls) s s' = (s'.slots ≡ s.slots) × (s'.places ≡ s.places)
Kept (Ok Ended) s s' = s' ≡ s
Kept (Err r) s s' = s' ≡ s

-- An instruction that is examined for the height alone: the height is marked, and the tests are 12 and 5.
pub record Guarded (at need ip floor height : ℕ) (before after : List ℕ) (r : Outcome Unit Refusal) : Type 0 where
  pub marks : after ≡ set before at (suc height)
  pub tests : refusal r ≡ first (floor_test ip floor height need) (need_test ip height need)
  pub room : r ≡ Ok tt → need ≤ height

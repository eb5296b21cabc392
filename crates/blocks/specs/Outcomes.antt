-- What the walk's own values mean: the definition's results, each with the state, the breaks and the sheets that the code holds beside its answer.
use Rattle.std.proofs.Math.Option.{Option, none, some}
use Rattle.std.specs.Prelude.{List, ℕ, suc, ◌+◌, ◌-◌, Option as Maybe, Some, None, Result as Outcome, Ok, Err}
use Rattle.definition.specs.Basics.{Result, ok, refused, ◌>>=◌}
use Rattle.definition.specs.Instructions.{Chunk}
use Rattle.definition.specs.Walk.{State as AnyState, Sheets, Walked, Left as AnyLeft, Breaks as AnyBreaks, no_break, joined, unequal, height, last_end, passes, forget, with_locals}
use Rattle.theorems.specs.Fuel.{full}
use Rattle.frame.specs.declared.State.{State}
use Rattle.frame.specs.Model.{state_of}
use Rattle.answer.specs.declared.Refusal.{Refusal}
use Rattle.answer.specs.Answer.{fields}
use Rattle.stretch.specs.Stretch.{sheets_of}
use Rattle.blocks.specs.declared.Flow.{Flow}
use Rattle.blocks.specs.declared.Flow.TheVariants.{Ended, Falls}
use Rattle.blocks.specs.declared.Pending.{Pending}
use Rattle.blocks.specs.declared.Pending.TheVariants.{Nothing, Joined, Unequal}
use Rattle.blocks.specs.declared.Breaks.{Breaks}

-- ── Where a walk stands ───────────────────────────────────────────────────────────────────

-- the breaks so far, with the state where they are joined
abbrev pub pending_of : AnyState → Pending → AnyBreaks
pending_of s Nothing = no_break
pending_of s Joined = joined s
pending_of s (Unequal x y) = unequal x y

abbrev pub breaks_of : ℕ → Breaks → AnyBreaks
breaks_of locals b = pending_of (state_of locals b.frame.state) b.pending

-- a state, the breaks of the loop around it, and the sheets
pub record Standing : Type 0 where
  pub state : AnyState
  pub breaks : AnyBreaks
  pub sheets : Sheets

-- what the code holds, in a chunk of so many locals, with these breaks around
abbrev pub within : ℕ → AnyBreaks → State → List ℕ → List ℕ → Standing
within locals k s heights blinds = record { state = state_of locals s; breaks = k; sheets = sheets_of heights blinds }

abbrev pub standing : ℕ → State → Breaks → List ℕ → List ℕ → Standing
standing locals s b heights blinds = within locals (breaks_of locals b) s heights blinds

-- ── What an answer means where the walk stands ────────────────────────────────────────────

-- the state at the end of a stretch
abbrev pub fall_of : Flow → AnyState → Option AnyState
fall_of Ended s = none
fall_of Falls s = some s

-- the walk of a stretch
abbrev pub walked_of : Outcome Flow Refusal → Standing → Result Walked
walked_of (Ok flow) p = ok (record { fall = fall_of flow p.state; breaks = p.breaks; sheets = p.sheets })
walked_of (Err r) p = refused (fields r)

-- the end of two arms
abbrev pub end_of : Outcome Flow Refusal → AnyState → Result (Option AnyState)
end_of (Ok flow) s = ok (fall_of flow s)
end_of (Err r) s = refused (fields r)

-- the walk of a stretch up to `end`: it goes on at a place, or its path has ended
abbrev pub rest_of : Chunk → ℕ → ℕ → Outcome (Maybe ℕ) Refusal → Standing → Result Walked
rest_of c end floor (Ok (Some next)) p = full c next end floor p.state p.breaks p.sheets
rest_of c end floor (Ok None) p = ok (record { fall = none; breaks = p.breaks; sheets = p.sheets })
rest_of c end floor (Err r) p = refused (fields r)

-- what the passes over a loop leave
abbrev pub left_of : Outcome Unit Refusal → AnyState → Sheets → Result AnyLeft
left_of (Ok _) s sh = ok (record { state = s; sheets = sh })
left_of (Err r) s sh = refused (fields r)

-- after a walk of a loop's body that is its last pass, from a head
unfoldable pub after_last : ℕ → AnyState → Result Walked → Result AnyLeft
after_last ip head m = m >>= λ q. last_end ip head q q.fall

-- a state in which each local that an instruction from start to before end writes is unknown
abbrev pub forgotten : Chunk → ℕ → ℕ → AnyState → AnyState
forgotten c start end s = with_locals s (forget c start (end - start) s.locals)

-- the passes over the loop at ip whose target is t, from a state
unfoldable pub loop_of : Chunk → ℕ → ℕ → AnyState → Sheets → Result AnyLeft
loop_of c ip t s sh =
    passes (λ head sh'. full c (suc ip) (t - 1) (height s) head no_break sh') (forget c (suc ip) (t - 1 - suc ip)) ip (c.locals + 2) s sh

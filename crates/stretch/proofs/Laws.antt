-- Laws of a stretch: verdicts, and one instruction more.
-- Assumes nothing.
use mathlib.Core.Path.{◌≡◌, refl, sym, ap, ◌∙◌}
use mathlib.Core.Logic.{⊎_elim}
use mathlib.Core.Bool.{Bool, true, false}
use mathlib.Core.Option.{none}
use mathlib.Core.List.{List}
use Prim.Native.Nat.{ℕ, suc, ◌+◌, ◌≤◌, ◌<◌}
use native.Mathlib.Numerals.{add-one}
use native.Mathlib.Omega.{arith}
use lib.ListN.{set}
use Rattle.std.specs.Prelude.{Result as Outcome, Ok, Err}
use Rattle.definition.specs.Basics.{Result, ok, refused, ◌>>=◌, pass}
use Rattle.definition.specs.Instructions.{Instr as AnyInstr, Chunk, Control, onward, stops, returns, resets, end_if, end_loop, ends, if_to, else_to, loop_to}
use Rattle.definition.specs.Instructions.{break_to, break_if_to, control}
use Rattle.definition.specs.Nesting.{else_at}
use Rattle.definition.specs.Tests.{reading, is_blind}
use Rattle.definition.specs.Walk.{State as AnyState, Sheets, Walker, Breaks as AnyBreaks, height, mark, mark_blind, add_break, examine, walk_arms, walk_instr}
use Rattle.theorems.specs.Cover.{no_false}
use Rattle.bytecode.specs.Meaning.{op_at, table_instr_at, chunk_base}
use Rattle.bytecode.specs.Parts.{InstrIs, any_instr_of}
use Rattle.bytecode.specs.declared.Instr.{Instr}
use Rattle.frame.specs.declared.State.{State}
use Rattle.frame.specs.Model.{state_of, stack_of, value_at}
use Rattle.shapes.proofs.Lists.{down-length, lt_or_ge}
use Rattle.rules.specs.declared.chunk.Context.{Context}
use Rattle.answer.specs.declared.Refusal.{Refusal}
use Rattle.answer.specs.Answer.{refusal}
use Rattle.rules.specs.Answers.{result_of, chunk_in, Examined}
use Rattle.stretch.specs.Stretch.{straight, leads, marked, Unfolds, Comes, Passes, Stops}
use Rattle.stretch.proofs.Codes.{straight-leads, leads_here}

-- ── Where an instruction leads ────────────────────────────────────────────────────────────

-- what is examined with tests
abbrev pub Tested : Control → Type 0
Tested onward = Unit {0}
Tested stops = Unit {0}
Tested returns = ⊥
Tested resets = Unit {0}
Tested end_if = ⊥
Tested end_loop = ⊥
Tested ends = ⊥
Tested (if_to t) = Unit {0}
Tested (else_to t) = ⊥
Tested (loop_to t) = ⊥
Tested (break_to t) = ⊥
Tested (break_if_to t) = Unit {0}

module _ (c : Chunk) (w : Walker) (ip end floor : ℕ) (s : AnyState) (b : AnyBreaks) (sh : Sheets) (i : AnyInstr) where
  pub instr_refused : (k : Control) → Tested k → (r : List ℕ) → examine c ip floor i s ≡ refused r → walk_instr c w ip end floor s b sh i k ≡ refused r
  unfolding walk_instr ◌>>=◌
  instr_refused onward h r e = ap (λ (m : Result AnyState). m >>= λ (u : AnyState). w (suc ip) end floor u b (mark c ip i s sh)) e
  instr_refused stops h r e = ap (λ (m : Result AnyState). m >>= λ (u : AnyState). ok (record { fall = none; breaks = b; sheets = mark c ip i s sh })) e
  instr_refused returns h r e = absurd h
  instr_refused resets h r e = ap (λ (m : Result AnyState). m >>= λ (u : AnyState). w (suc ip) end floor u b (mark c ip i s sh)) e
  instr_refused end_if h r e = absurd h
  instr_refused end_loop h r e = absurd h
  instr_refused ends h r e = absurd h
  instr_refused (if_to t) h r e = ap (λ (m : Result AnyState). m >>= λ (u : AnyState). walk_arms w ip t end floor u b (mark c ip i s sh) (else_at c ip t)) e
  instr_refused (else_to t) h r e = absurd h
  instr_refused (loop_to t) h r e = absurd h
  instr_refused (break_to t) h r e = absurd h
  instr_refused (break_if_to t) h r e = ap (λ (m : Result AnyState). m >>= λ (u : AnyState). w (suc ip) end floor u (add_break b u) (mark c ip i s sh)) e

  module _ (u : AnyState) (e : examine c ip floor i s ≡ ok u) where
    pub instr_onward : walk_instr c w ip end floor s b sh i onward ≡ w (suc ip) end floor u b (mark c ip i s sh)
    unfolding walk_instr ◌>>=◌
    instr_onward = ap (λ (m : Result AnyState). m >>= λ (v : AnyState). w (suc ip) end floor v b (mark c ip i s sh)) e

    pub instr_resets : walk_instr c w ip end floor s b sh i resets ≡ w (suc ip) end floor u b (mark c ip i s sh)
    unfolding walk_instr ◌>>=◌
    instr_resets = ap (λ (m : Result AnyState). m >>= λ (v : AnyState). w (suc ip) end floor v b (mark c ip i s sh)) e

-- ── A stretch so far ──────────────────────────────────────────────────────────────────────

-- the walk has come from start to ip
pub record Running (x : Context) (start end floor : ℕ) (s₀ : State) (sh₀ : Sheets) (ip : ℕ) (s : State) (sh : Sheets) : Type 0 where
  pub came : Comes x start end floor (state_of x.locals.count s₀) sh₀ ip (state_of x.locals.count s) sh

pub running_start : (x : Context) (start end floor : ℕ) (s : State) (sh : Sheets) → Running x start end floor s sh start s sh
running_start x start end floor s sh = record { came = λ w W b. refl }

module _ (x : Context) (start end floor : ℕ) (s₀ : State) (sh₀ : Sheets) (ip : ℕ) (s : State) (sh : Sheets) (R : Running x start end floor s₀ sh₀ ip s sh) (from : start ≤ ip) where
  abbrev c : Chunk
  c = chunk_in x

  pub running_end : ip ≡ end → Passes x start end floor s₀ sh₀ end s sh
  running_end e =
      record {
        from = omega arith;
        to = omega arith;
        moved = λ l z. l;
        came = λ w W b. R.came w W b ∙ ap (λ (n : ℕ). w n end floor (state_of x.locals.count s) b sh) e;
      }

  module _ (below : ip < end) (i : Instr) (I : InstrIs x.tables.now (x.code.first + ip) i) where
    pub running_block : straight i.code ≡ false → Passes x start end floor s₀ sh₀ ip s sh
    running_block e =
        record {
          from = from;
          to = omega arith;
          moved = λ l z. ⊎_elim (λ (q : start < ip). q)
              (λ (q : ip ≤ start). absurd (no_false (sym e ∙ ap straight I.code_is ∙ ap (λ (n : ℕ). straight (op_at x.tables.now (x.code.first + n)).code) (let y : ip ≡ start = omega arith in y) ∙ z)))
              (lt_or_ge start ip);
          came = R.came;
        }

    module _ (e : straight i.code ≡ true) (u : State) where
      examined : (r : Outcome Unit Refusal) → Examined x i ip floor s r u → examine c ip floor (table_instr_at x.tables.now (x.code.first + ip)) (state_of x.locals.count s) ≡ result_of x.locals.count r u
      examined r E = ap (λ (z : AnyInstr). examine c ip floor z (state_of x.locals.count s)) (sym I.same) ∙ sym E.result

      leads_there : control (table_instr_at x.tables.now (x.code.first + ip)) ≡ leads i.code i.a
      leads_there = leads_here x.tables.now (x.code.first + ip) i I

      visited : (k : Control) → control (table_instr_at x.tables.now (x.code.first + ip)) ≡ k → (w : Walker) → Unfolds x start end floor w → (bs : AnyBreaks) →
          w start end floor (state_of x.locals.count s₀) bs sh₀ ≡ walk_instr c w ip end floor (state_of x.locals.count s) bs sh (table_instr_at x.tables.now (x.code.first + ip)) k
      visited k q w W bs = R.came w W bs ∙ W ip from below (state_of x.locals.count s) bs sh ∙ ap (walk_instr c w ip end floor (state_of x.locals.count s) bs sh (table_instr_at x.tables.now (x.code.first + ip))) q

      marks : (b : Bool) → b ≡ is_blind (reading c (any_instr_of i)) (stack_of s) →
          mark c ip (table_instr_at x.tables.now (x.code.first + ip)) (state_of x.locals.count s) sh ≡ marked (x.code.first + ip) s.height b sh
      unfolding mark marked
      marks b B =
          ap (λ (n : ℕ). record { heights = set sh.heights (n + ip) (suc (height (state_of x.locals.count s))); blinds = mark_blind (is_blind (reading c (table_instr_at x.tables.now (x.code.first + ip))) (stack_of s)) (n + ip) sh.blinds })
          (chunk_base x.tables.now x.chunk ∙ sym x.of.first_is)
          ∙ ap (λ (n : ℕ). record { heights = set sh.heights (x.code.first + ip) (suc n); blinds = mark_blind (is_blind (reading c (table_instr_at x.tables.now (x.code.first + ip))) (stack_of s)) (x.code.first + ip) sh.blinds })
          (down-length (value_at s) s.height)
          ∙ ap (λ (z : Bool). record { heights = set sh.heights (x.code.first + ip) (suc s.height); blinds = mark_blind z (x.code.first + ip) sh.blinds })
          (ap (λ (z : AnyInstr). is_blind (reading c z) (stack_of s)) (sym I.same) ∙ sym B)

      pub running_on : Examined x i ip floor s (Ok tt) u → (b : Bool) → ((d : Chunk) → b ≡ is_blind (reading d (any_instr_of i)) (stack_of s)) →
          (sh' : Sheets) → sh' ≡ marked (x.code.first + ip) s.height b sh → Running x start end floor s₀ sh₀ (ip + 1) u sh'
      unfolding refusal pass
      running_on E b B sh' m =
          let passed = examined (Ok tt) E in
          record {
            came = λ w W bs.
                ⊎_elim
                (λ z. visited onward (leads_there ∙ z) w W bs ∙ instr_onward c w ip end floor (state_of x.locals.count s) bs sh (table_instr_at x.tables.now (x.code.first + ip)) _ passed)
                (λ z. visited resets (leads_there ∙ z) w W bs ∙ instr_resets c w ip end floor (state_of x.locals.count s) bs sh (table_instr_at x.tables.now (x.code.first + ip)) _ passed)
                (straight-leads i.code i.a e)
                ∙ ap (w (suc ip) end floor (state_of x.locals.count u) bs) (marks b (B c) ∙ sym m)
                ∙ ap (λ (n : ℕ). w n end floor (state_of x.locals.count u) bs sh') (sym (add-one ip));
          }

      pub running_refused : (f : Refusal) → Examined x i ip floor s (Err f) u → Stops x start end floor (state_of x.locals.count s₀) sh₀ f
      unfolding refusal pass
      running_refused f E w W bs =
          let stopped = examined (Err f) E in
          ⊎_elim
          (λ z. visited onward (leads_there ∙ z) w W bs ∙ instr_refused c w ip end floor (state_of x.locals.count s) bs sh (table_instr_at x.tables.now (x.code.first + ip)) onward tt _ stopped)
          (λ z. visited resets (leads_there ∙ z) w W bs ∙ instr_refused c w ip end floor (state_of x.locals.count s) bs sh (table_instr_at x.tables.now (x.code.first + ip)) resets tt _ stopped)
          (straight-leads i.code i.a e)

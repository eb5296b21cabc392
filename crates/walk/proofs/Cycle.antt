-- What the walkers of a stretch, of arms and of a loop know at each of their steps.
use mathlib.Core.Path.{◌≡◌, refl, sym, ap, ◌∙◌, subst}
use mathlib.Core.Logic.{◌≢◌}
use mathlib.Core.Bool.{Bool, true, false}
use mathlib.Core.Option.{Option, none, some}
use mathlib.Core.List.{List, [], ◌∷◌}
use Prim.Native.Nat.{ℕ, zero, suc, ◌+◌, ◌-◌, ◌≤◌, ◌<◌}
use native.Mathlib.Omega.{arith}
use native.Mathlib.Numerals.{add-one}
use native.Mathlib.Decide.{dec_lt}
use lib.ListN.{length, set}
use Rattle.std.specs.Prelude.{Option as Maybe, Some, None, Result as Outcome, Ok, Err}
use Rattle.definition.specs.Basics.{Result, ok, refused, ◌>>=◌}
use Rattle.definition.specs.Shapes.{Shape, same_shapes, join_all}
use Rattle.definition.specs.Instructions.{Chunk, Control, if_to, loop_to, control, control_at, control_of, instr_at}
use Rattle.definition.specs.Nesting.{else_at}
use Rattle.definition.specs.Walk.{State as AnyState, Sheets, Walked, Left as AnyLeft, Breaks as AnyBreaks, no_break, height, with_locals, join_ends}
use Rattle.definition.specs.Walk.{go_on, walk_arms, leave, neutral, if_stable, pass_end, last_end, passes, forget, walk_instr}
use Rattle.theorems.specs.Nested.{Arm, whole as whole_chunk, then_arm, else_arm, only_arm, loop_arm, Nested, IfRule, LoopRule}
use Rattle.theorems.specs.Place.{rule_at, else_is}
use Rattle.theorems.specs.Clear.{in_arm}
use Rattle.theorems.specs.Facts.{is_quiet}
use Rattle.theorems.specs.Fuel.{full, full_visit, full_end}
use Rattle.frame.specs.declared.State.{State}
use Rattle.frame.specs.Model.{state_of, popped}
use Rattle.bytecode.specs.Meaning.{chunk_locals, code_length}
use Rattle.answer.specs.declared.Refusal.{Refusal}
use Rattle.answer.specs.Answer.{fields}
use Rattle.rules.specs.declared.chunk.Context.{Context}
use Rattle.rules.specs.Answers.{chunk_in}
use Rattle.stretch.specs.Stretch.{leads, sheets_of, Unfolds, Passes, Stops}
use Rattle.stretch.proofs.Codes.{instr_here, no_instr}
use Rattle.blocks.specs.declared.Flow.{Flow}
use Rattle.blocks.specs.declared.Flow.TheVariants.{Ended, Falls}
use Rattle.blocks.specs.Outcomes.{Standing, fall_of, walked_of, end_of, rest_of, after_last, loop_of, forgotten}
use Rattle.blocks.specs.Visits.{Placed, instr_in, visit_in, Coded, Guarded, falling_to, next_of}
use Rattle.blocks.proofs.Laws.{height_is}
use Rattle.blocks.proofs.Steps.{quiet_mark, if_refused, if_passed}
use Rattle.walk.specs.Ready.{Ready, Walks, In, Goes, Visits, Arms, last_from, last_in}

-- ── A stretch ─────────────────────────────────────────────────────────────────────────────

-- sheets of the same lengths will do
pub placed_by : (x : Context) (h b h' b' : List ℕ) → length h' ≡ length h → length b' ≡ length b → Placed x h b → Placed x h' b'
placed_by x h b h' b' e f p = record { heights_long = omega (arith, p.heights_long); blinds_long = omega (arith, p.blinds_long); nested = p.nested }

-- an arm ends within its chunk
pub arm_in : (x : Context) (a end : ℕ) → Nested (chunk_in x) → Arm (chunk_in x) a end → end ≤ x.code.count
arm_in x a end N arm = elim (dec_lt x.code.count end) [
  | yes l ↦ absurd (in_arm (chunk_in x) N arm x.code.count l (no_instr x.tables.now x.chunk x.code.first x.code.count x.code.count x.of.first_is x.of.count_is (omega arith)))
  | no g ↦ omega arith
]

pub instr_there : (x : Context) (ip : ℕ) → ip < x.code.count → instr_at (chunk_in x) ip ≡ some (instr_in x ip)
instr_there x ip h = instr_here x.tables.now x.chunk x.code.first x.code.count ip x.of.first_is x.of.count_is h

pub leads_at : (x : Context) (ip : ℕ) → ip < x.code.count → {k : Control} → control (instr_in x ip) ≡ k → control_at (chunk_in x) ip ≡ k
unfolding control_at control_of
leads_at x ip h e = ap control_of (instr_there x ip h) ∙ e

-- The walk has come from `start` to ip.
pub record Walking (x : Context) (start end floor : ℕ) (p₀ : Standing) (ip : ℕ) (p : Standing) : Type 0 where
  pub onward : start ≤ ip
  pub before : ip ≤ end
  pub heights_same : length p.sheets.heights ≡ length p₀.sheets.heights
  pub blinds_same : length p.sheets.blinds ≡ length p₀.sheets.blinds
  pub on : full (chunk_in x) start end floor p₀.state p₀.breaks p₀.sheets ≡ full (chunk_in x) ip end floor p.state p.breaks p.sheets

module _ (x : Context) (start end floor : ℕ) (p₀ : Standing) (ip : ℕ) (p : Standing) (W : Walking x start end floor p₀ ip p) where
  -- at the end of the stretch
  pub walking_end : end ≤ ip → Walks x start end floor p₀ (Ok Falls) p
  walking_end e = sym (W.on ∙ full_end (chunk_in x) ip end floor p.state p.breaks p.sheets e)

  module _ {h b : List ℕ} (R : Ready x h b start end floor) where
    pub placed_here : h ≡ p₀.sheets.heights → b ≡ p₀.sheets.blinds → Placed x p.sheets.heights p.sheets.blinds
    placed_here e f =
        placed_by x h b p.sheets.heights p.sheets.blinds (W.heights_same ∙ ap (λ (l : List ℕ). length l) (sym e)) (W.blinds_same ∙ ap (λ (l : List ℕ). length l) (sym f)) R.placed

    -- the definition's walk takes one instruction after the other
    unfolds : Unfolds x ip end floor (full (chunk_in x))
    unfolds q after below m bs sh =
        full_visit (chunk_in x) R.placed.nested R.from q end floor m bs sh R.arm (omega (arith, R.after, W.onward)) below (instr_in x q)
        (instr_there x q (omega (arith, R.inside)))
        (control (instr_in x q)) refl

    module _ (q : Standing) (e : length q.sheets.heights ≡ length p.sheets.heights) (f : length q.sheets.blinds ≡ length p.sheets.blinds) where
      walking_to : (next : ℕ) → ip ≤ next → next ≤ end → full (chunk_in x) ip end floor p.state p.breaks p.sheets ≡ full (chunk_in x) next end floor q.state q.breaks q.sheets →
          Walking x start end floor p₀ next q
      walking_to next l m g =
          record {
            onward = omega (arith, W.onward);
            before = m;
            heights_same = e ∙ W.heights_same;
            blinds_same = f ∙ W.blinds_same;
            on = W.on ∙ g;
          }

    -- straight instructions
    module _ (s u : State) (sh : Sheets) (here : p.state ≡ state_of x.locals.count s) where
      pub walking_ran : (next : ℕ) → Passes x ip end floor s p.sheets next u sh → length sh.heights ≡ length p.sheets.heights → length sh.blinds ≡ length p.sheets.blinds →
          Walking x start end floor p₀ next (record { state = state_of x.locals.count u; breaks = p.breaks; sheets = sh })
      walking_ran next P e f =
          walking_to (record { state = state_of x.locals.count u; breaks = p.breaks; sheets = sh }) e f next P.from P.to
          (ap (λ (z : AnyState). full (chunk_in x) ip end floor z p.breaks p.sheets) here ∙ P.came (full (chunk_in x)) unfolds p.breaks)

    pub walking_refused : (r : Refusal) (q : Standing) → Stops x ip end floor p.state p.sheets r → Walks x start end floor p₀ (Err r) q
    walking_refused r q S = sym (W.on ∙ S (full (chunk_in x)) unfolds p.breaks)

    -- an instruction with its blocks
    module _ (below : ip < end) (code a : ℕ) (there : Coded x ip code a) (r : Outcome (Maybe ℕ) Refusal) (q : Standing) (V : Visits x ip floor p (leads code a) r q) where
      pub here : In x ip end
      here = record { from = R.from; arm = R.arm; after = omega (arith, R.after, W.onward); below = below }

      whole : rest_of (chunk_in x) end floor r q ≡ full (chunk_in x) start end floor p₀.state p₀.breaks p₀.sheets
      whole =
          (V end here).walked
          ∙ sym
          (W.on
          ∙ full_visit (chunk_in x) R.placed.nested R.from ip end floor p.state p.breaks p.sheets R.arm (omega (arith, R.after, W.onward)) below (instr_in x ip)
          (instr_there x ip (omega (arith, R.inside)))
          (leads code a) there)

      pub walking_stopped : (f : Refusal) → r ≡ Err f → Walks x start end floor p₀ (Err f) q
      walking_stopped f e = ap (λ (z : Outcome (Maybe ℕ) Refusal). rest_of (chunk_in x) end floor z q) (sym e) ∙ whole

      pub walking_ended : r ≡ Ok None → Walks x start end floor p₀ (Ok Ended) q
      walking_ended e = ap (λ (z : Outcome (Maybe ℕ) Refusal). rest_of (chunk_in x) end floor z q) (sym e) ∙ whole

      pub walking_goes : (next : ℕ) → r ≡ Ok (Some next) → (ip < next) × (next ≤ end)
      walking_goes next e = subst (Goes ip end) e (V end here).goes

      pub walking_past : (next : ℕ) → r ≡ Ok (Some next) → length q.sheets.heights ≡ length p.sheets.heights → length q.sheets.blinds ≡ length p.sheets.blinds → Walking x start end floor p₀ next q
      walking_past next e f g =
          record {
            onward = omega (arith, W.onward, walking_goes next e);
            before = (walking_goes next e).1;
            heights_same = f ∙ W.heights_same;
            blinds_same = g ∙ W.blinds_same;
            on = sym (ap (λ (z : Outcome (Maybe ℕ) Refusal). rest_of (chunk_in x) end floor z q) (sym e) ∙ whole);
          }

-- the visit by the code of an instruction
pub turned : (x : Context) (ip floor : ℕ) (p : Standing) (code k a : ℕ) (r : Outcome (Maybe ℕ) Refusal) (q : Standing) → code ≡ k → Visits x ip floor p (leads k a) r q → Visits x ip floor p (leads code a) r q
turned x ip floor p code k a r q e V = subst (λ (j : ℕ). Visits x ip floor p (leads j a) r q) (sym e) V

-- ── Arms ──────────────────────────────────────────────────────────────────────────────────

-- an If's condition, then its arms
module _ (x : Context) (ip floor : ℕ) (s : State) (low : s.height ≤ 64) (b : AnyBreaks) (h h' bl : List ℕ) (a : ℕ) (there : control (instr_in x ip) ≡ if_to a) where
  pub if_stopped : (f : Refusal) (q : Standing) → Guarded (x.code.first + ip) 1 ip floor s.height h h' (Err f) →
      Visits x ip floor (record { state = state_of x.locals.count s; breaks = b; sheets = sheets_of h bl }) (if_to a) (Err f) q
  unfolding leads
  if_stopped f q G end I = record { walked = sym (if_refused x ip floor s low b h h' 65 a there end bl refl f G); goes = tt }

  pub if_went : (u : AnyState) (r : Outcome (Maybe ℕ) Refusal) (q : Standing) → Guarded (x.code.first + ip) 1 ip floor s.height h h' (Ok tt) → u ≡ popped 1 (state_of x.locals.count s) →
      Arms x a ip floor (record { state = u; breaks = b; sheets = sheets_of h' bl }) r q →
      Visits x ip floor (record { state = state_of x.locals.count s; breaks = b; sheets = sheets_of h bl }) (if_to a) r q
  unfolding leads
  if_went u r q G e A end I = let R = A end I in record { walked = R.walked ∙ sym (if_passed x ip floor s low b h h' 65 a there end bl refl G u e); goes = R.goes }

-- on from what a block left
onward_go : (c : Chunk) (e end floor : ℕ) (m : Flow) (u : AnyState) (b : AnyBreaks) (sh : Sheets) →
    rest_of c end floor (Ok (falling_to m (e + 1))) (record { state = u; breaks = b; sheets = sh }) ≡ go_on (full c) e end floor b sh (fall_of m u)
unfolding go_on
onward_go c e end floor Ended u b sh = refl
onward_go c e end floor Falls u b sh = ap (λ (n : ℕ). full c n end floor u b sh) (add-one e)

joined_go : (c : Chunk) (e end floor ip : ℕ) (A B : Option AnyState) (m : Outcome Flow Refusal) (u : AnyState) (b : AnyBreaks) (sh : Sheets) → end_of m u ≡ join_ends ip A B →
    rest_of c end floor (next_of (e + 1) m) (record { state = u; breaks = b; sheets = sh }) ≡ (join_ends ip A B >>= λ (j : Option AnyState). go_on (full c) e end floor b sh j)
unfolding ◌>>=◌
joined_go c e end floor ip A B (Ok m) u b sh h = onward_go c e end floor m u b sh ∙ ap (λ (z : Result (Option AnyState)). z >>= λ (j : Option AnyState). go_on (full c) e end floor b sh j) h
joined_go c e end floor ip A B (Err r) u b sh h = ap (λ (z : Result (Option AnyState)). z >>= λ (j : Option AnyState). go_on (full c) e end floor b sh j) h

goes_next : (ip end next : ℕ) (m : Outcome Flow Refusal) → ip < next → next ≤ end → Goes ip end (next_of next m)
goes_next ip end next (Ok Ended) l g = tt
goes_next ip end next (Ok Falls) l g = (l, g)
goes_next ip end next (Err r) l g = tt

module _ (x : Context) (target ip : ℕ) (low : ip < x.code.count) (N : Nested (chunk_in x)) (there : control (instr_in x ip) ≡ if_to target) where
  abbrev C : Chunk
  C = chunk_in x

  if_here : control_at C ip ≡ if_to target
  if_here = leads_at x ip low there

  -- one arm
  module _ (L : none ≡ else_at C ip target) where
    one_rule : IfRule C ip target none
    one_rule = subst (λ (z : Option ℕ). IfRule C ip target z) (sym L) (rule_at N ip if_here)

    pub one_arm_in : (ip < target) × (target ≤ x.code.count) × Arm C (ip + 1) target
    one_arm_in =
        let arm = subst (λ (n : ℕ). Arm C n target) (sym (add-one ip)) (only_arm ip target if_here (sym L)) in
        (one_rule.0, arm_in x (ip + 1) target N arm, arm)

    module _ (floor : ℕ) (p q : Standing) where
      abbrev after_arm : ℕ → Result Walked → Result Walked
      after_arm end m = m >>= λ (w : Walked). join_ends ip w.fall (some p.state) >>= λ (j : Option AnyState). go_on (full C) target end floor w.breaks w.sheets j

      one_is : (r : Outcome Flow Refusal) → Walks x (ip + 1) target floor p r q → (end : ℕ) → after_arm end (walked_of r q) ≡ walk_arms (full C) ip target end floor p.state p.breaks p.sheets (else_at C ip target)
      unfolding walk_arms
      one_is r A end =
          ap (after_arm end) (A ∙ ap (λ (n : ℕ). full C n target floor p.state p.breaks p.sheets) (add-one ip))
          ∙ ap (walk_arms (full C) ip target end floor p.state p.breaks p.sheets) L

      pub one_refused : (f : Refusal) → Walks x (ip + 1) target floor p (Err f) q → (z : Standing) → Arms x target ip floor p (Err f) z
      unfolding ◌>>=◌
      one_refused f A z end I = record { walked = one_is (Err f) A end; goes = tt }

      pub one_joined : (a : Flow) → Walks x (ip + 1) target floor p (Ok a) q → (m : Outcome Flow Refusal) (u : AnyState) → end_of m u ≡ join_ends ip (fall_of a q.state) (some p.state) →
          Arms x target ip floor p (next_of (target + 1) m) (record { state = u; breaks = q.breaks; sheets = q.sheets })
      unfolding ◌>>=◌
      one_joined a A m u h end I =
          let inner : target < end = one_rule.2 I.from end I.arm I.after I.below in
          record {
            walked = joined_go C target end floor ip _ _ m u q.breaks q.sheets h ∙ one_is (Ok a) A end;
            goes = goes_next ip end (target + 1) m (omega (arith, one_rule.0)) (omega arith);
          }

  -- two arms
  module _ (d : ℕ) (L : some d ≡ else_at C ip target) where
    two_rule : IfRule C ip target (some d)
    two_rule = subst (λ (z : Option ℕ). IfRule C ip target z) (sym L) (rule_at N ip if_here)

    pub two_arms_in : (ip + 1 < target) × (target ≤ d) × (d ≤ x.code.count) × Arm C (ip + 1) (target - 1) × Arm C target d
    two_arms_in =
        let two = else_is C ip target d (sym L) in
        let last = else_arm ip target d if_here (sym L) in (
          omega (arith, two.0),
          omega (arith, two_rule.0),
          arm_in x target d N last,
          subst (λ (n : ℕ). Arm C n (target - 1)) (sym (add-one ip)) (then_arm ip target d if_here (sym L)),
          last,
        )

    module _ (floor : ℕ) (p q : Standing) where
      abbrev after_first : ℕ → Result Walked → Result Walked
      after_first end m =
          m >>= λ (w : Walked).
          full C target d floor p.state w.breaks w.sheets >>= λ (v : Walked).
          join_ends ip w.fall v.fall >>= λ (j : Option AnyState).
          go_on (full C) d end floor v.breaks v.sheets j

      two_is : (r : Outcome Flow Refusal) → Walks x (ip + 1) (target - 1) floor p r q → (end : ℕ) →
          after_first end (walked_of r q) ≡ walk_arms (full C) ip target end floor p.state p.breaks p.sheets (else_at C ip target)
      unfolding walk_arms
      two_is r A end =
          ap (after_first end) (A ∙ ap (λ (n : ℕ). full C n (target - 1) floor p.state p.breaks p.sheets) (add-one ip))
          ∙ ap (walk_arms (full C) ip target end floor p.state p.breaks p.sheets) L

      pub then_refused : (f : Refusal) → Walks x (ip + 1) (target - 1) floor p (Err f) q → (z : Standing) → Arms x target ip floor p (Err f) z
      unfolding ◌>>=◌
      then_refused f A z end I = record { walked = two_is (Err f) A end; goes = tt }

      module _ (a : Flow) (A : Walks x (ip + 1) (target - 1) floor p (Ok a) q) (y : Standing) where
        abbrev after_second : ℕ → Result Walked → Result Walked
        after_second end m =
            m >>= λ (w : Walked).
            join_ends ip (fall_of a q.state) w.fall >>= λ (j : Option AnyState).
            go_on (full C) d end floor w.breaks w.sheets j

        after_then : (v : Outcome Flow Refusal) → Walks x target d floor (record { state = p.state; breaks = q.breaks; sheets = q.sheets }) v y → (end : ℕ) →
            after_second end (walked_of v y) ≡ walk_arms (full C) ip target end floor p.state p.breaks p.sheets (else_at C ip target)
        unfolding ◌>>=◌
        after_then v D end = ap (after_second end) D ∙ two_is (Ok a) A end

        pub else_refused : (f : Refusal) → Walks x target d floor (record { state = p.state; breaks = q.breaks; sheets = q.sheets }) (Err f) y → (z : Standing) → Arms x target ip floor p (Err f) z
        unfolding ◌>>=◌
        else_refused f D z end I = record { walked = after_then (Err f) D end; goes = tt }

        pub both_joined : (b : Flow) → Walks x target d floor (record { state = p.state; breaks = q.breaks; sheets = q.sheets }) (Ok b) y →
            (m : Outcome Flow Refusal) (u : AnyState) → end_of m u ≡ join_ends ip (fall_of a q.state) (fall_of b y.state) →
            Arms x target ip floor p (next_of (d + 1) m) (record { state = u; breaks = y.breaks; sheets = y.sheets })
        unfolding ◌>>=◌
        both_joined b D m u h end I =
            let inner : d < end = two_rule.2 I.from end I.arm I.after I.below in
            record {
              walked = joined_go C d end floor ip _ _ m u y.breaks y.sheets h ∙ after_then (Ok b) D end;
              goes = goes_next ip end (d + 1) m (omega (arith, two_arms_in.0, two_arms_in.1)) (omega arith);
            }

-- ── Passes over a loop ────────────────────────────────────────────────────────────────────

module _ (x : Context) (ip exit : ℕ) (s₀ : State) where
  abbrev body : AnyState → Sheets → Result Walked
  body head sh = full (chunk_in x) (suc ip) (exit - 1) (height (state_of x.locals.count s₀)) head no_break sh

  abbrev lost : List Shape → List Shape
  lost = forget (chunk_in x) (suc ip) (exit - 1 - suc ip)

  -- what comes after a pass that changed the joined locals
  again : ℕ → AnyState → List Shape → Sheets → Result AnyLeft
  again zero H ls sh = body (with_locals H (lost H.locals)) sh >>= λ (q : Walked). last_end ip (with_locals H (lost H.locals)) q q.fall
  again (suc k) H ls sh = passes body lost ip k (with_locals H ls) sh

  one_pass : (k : ℕ) (H : AnyState) (sh : Sheets) → passes body lost ip k H sh ≡ (body H sh >>= λ (r : Walked). pass_end ip H r (again k H) r.fall)
  unfolding passes again
  one_pass zero H sh = refl
  one_pass (suc k) H sh = refl

  -- The passes have come to a head, with so many widenings left.
  pub record Passing (sh₀ sh : Sheets) (head : State) (left : ℕ) : Type 0 where
    pub heights_same : length sh.heights ≡ length sh₀.heights
    pub blinds_same : length sh.blinds ≡ length sh₀.blinds
    pub head_height : head.height ≡ s₀.height
    pub few : left ≤ 34
    pub on : loop_of (chunk_in x) ip exit (state_of x.locals.count s₀) sh₀ ≡ passes body lost ip left (state_of x.locals.count head) sh

  pub passing_start : (sh : Sheets) → Passing sh sh s₀ (x.locals.count + 2)
  unfolding loop_of
  passing_start sh =
      record {
        heights_same = refl;
        blinds_same = refl;
        head_height = refl;
        few = omega (arith, x.of.locals_low);
        on = ap (λ (n : ℕ). passes body lost ip (n + 2) (state_of x.locals.count s₀) sh) (chunk_locals x.tables.now x.chunk ∙ sym x.of.locals_is);
      }

  module _ (sh₀ sh : Sheets) (head : State) (left : ℕ) (P : Passing sh₀ sh head left) (from : AnyState) (at_head : from ≡ state_of x.locals.count head)
      (e : State) (k : AnyBreaks) (sh' : Sheets) where
    abbrev H : AnyState
    H = state_of x.locals.count head

    abbrev E : AnyState
    E = state_of x.locals.count e

    abbrev the_loop : Result AnyLeft
    the_loop = loop_of (chunk_in x) ip exit (state_of x.locals.count s₀) sh₀

    -- the walk of the body from the head
    abbrev Pass : Outcome Flow Refusal → Type 0
    Pass r = Walks x (ip + 1) (exit - 1) s₀.height (record { state = from; breaks = no_break; sheets = sh }) r (record { state = E; breaks = k; sheets = sh' })

    came : (r : Outcome Flow Refusal) → Pass r → the_loop ≡ (walked_of r (record { state = E; breaks = k; sheets = sh' }) >>= λ (w : Walked). pass_end ip H w (again left H) w.fall)
    came r O =
        P.on ∙ one_pass left H sh
        ∙ ap (λ (m : Result Walked). m >>= λ (w : Walked). pass_end ip H w (again left H) w.fall)
        (ap (λ (n : ℕ). full (chunk_in x) n (exit - 1) (height (state_of x.locals.count s₀)) H no_break sh) (sym (add-one ip))
        ∙ ap (λ (n : ℕ). full (chunk_in x) (ip + 1) (exit - 1) n H no_break sh) (height_is x.locals.count s₀)
        ∙ ap (λ (z : AnyState). full (chunk_in x) (ip + 1) (exit - 1) s₀.height z no_break sh) (sym at_head)
        ∙ sym O)

    pub pass_refused : (f : Refusal) → Pass (Err f) → refused (fields f) ≡ the_loop
    unfolding ◌>>=◌
    pass_refused f O = sym (came (Err f) O)

    outcome : (a b : Flow) → a ≡ b → Pass (Ok a) → Pass (Ok b)
    outcome a b g O = subst (λ (z : Flow). Pass (Ok z)) g O

    pub pass_no_end : (a : Flow) → Pass (Ok a) → a ≡ Ended → leave ip k sh' H ≡ the_loop
    unfolding pass_end ◌>>=◌
    pass_no_end a O g = sym (came (Ok Ended) (outcome a Ended g O))

    module _ (a : Flow) (O : Pass (Ok a)) (falls : a ≡ Falls) where
      abbrev stay : Result AnyLeft
      stay = leave ip k sh' E

      abbrev go : Result AnyLeft
      go = again left H (join_all H.locals E.locals) sh'

      ended : the_loop ≡ neutral (same_shapes E.stack H.stack) ip H E (if_stable (same_shapes (join_all H.locals E.locals) H.locals) stay go)
      unfolding pass_end ◌>>=◌
      ended = came (Ok Falls) (outcome a Falls falls O)

      pub pass_not_neutral : same_shapes E.stack H.stack ≡ false → refused (11 ∷ ip ∷ s₀.height ∷ e.height ∷ []) ≡ the_loop
      unfolding neutral
      pass_not_neutral g =
          ap (λ (n : ℕ). refused (11 ∷ ip ∷ n ∷ e.height ∷ [])) (sym (height_is x.locals.count head ∙ P.head_height))
          ∙ ap (λ (n : ℕ). refused (11 ∷ ip ∷ height H ∷ n ∷ [])) (sym (height_is x.locals.count e))
          ∙ sym (ended ∙ ap (λ (z : Bool). neutral z ip H E (if_stable (same_shapes (join_all H.locals E.locals) H.locals) stay go)) g)

      module _ (same : same_shapes E.stack H.stack ≡ true) where
        settled : the_loop ≡ if_stable (same_shapes (join_all H.locals E.locals) H.locals) stay go
        unfolding neutral
        settled = ended ∙ ap (λ (z : Bool). neutral z ip H E (if_stable (same_shapes (join_all H.locals E.locals) H.locals) stay go)) same

        pub pass_stable : same_shapes (join_all H.locals E.locals) H.locals ≡ true → stay ≡ the_loop
        unfolding if_stable
        pass_stable g = sym (settled ∙ ap (λ (z : Bool). if_stable z stay go) g)

        module _ (changed : same_shapes (join_all H.locals E.locals) H.locals ≡ false) where
          goes_on : the_loop ≡ go
          unfolding if_stable
          goes_on = settled ∙ ap (λ (z : Bool). if_stable z stay go) changed

          pub pass_last : left ≡ 0 → last_in x ip exit s₀.height H sh' ≡ the_loop
          unfolding again after_last
          pass_last g =
              ap (λ (n : ℕ). after_last ip (forgotten (chunk_in x) (suc ip) (exit - 1) H) (full (chunk_in x) (suc ip) (exit - 1) n (forgotten (chunk_in x) (suc ip) (exit - 1) H) no_break sh')) (sym (height_is x.locals.count s₀))
              ∙ sym (goes_on ∙ ap (λ (n : ℕ). again n H (join_all H.locals E.locals) sh') g)

          pub pass_again : left ≢ 0 → (next : State) → next.height ≡ head.height → state_of x.locals.count next ≡ with_locals H (join_all H.locals E.locals) →
              length sh'.heights ≡ length sh.heights → length sh'.blinds ≡ length sh.blinds → Passing sh₀ sh' next (left - 1)
          unfolding again
          pass_again n next g w u v =
              record {
                heights_same = u ∙ P.heights_same;
                blinds_same = v ∙ P.blinds_same;
                head_height = g ∙ P.head_height;
                few = omega (arith, P.few);
                on =
                    goes_on
                    ∙ ap (λ (m : ℕ). again m H (join_all H.locals E.locals) sh') (let z : left ≡ suc (left - 1) = omega arith in z)
                    ∙ ap (λ (z : AnyState). passes body lost ip (left - 1) z sh') (sym w);
              }

-- the last pass, from what its body and its end gave
pub last_made : (x : Context) (ip exit floor : ℕ) (head H : AnyState) (sh : Sheets) (m : Result Walked) (l : Result AnyLeft) → H ≡ forgotten (chunk_in x) (ip + 1) (exit - 1) head →
    m ≡ full (chunk_in x) (ip + 1) (exit - 1) floor H no_break sh → l ≡ after_last ip H m → l ≡ last_in x ip exit floor head sh
last_made x ip exit floor head H sh m l e O L =
    L ∙ ap (after_last ip H) O
    ∙ ap (λ (n : ℕ). after_last ip H (full (chunk_in x) n (exit - 1) floor H no_break sh)) (add-one ip)
    ∙ ap (λ (z : AnyState). last_from x ip exit floor z sh) (e ∙ ap (λ (n : ℕ). forgotten (chunk_in x) n (exit - 1) head) (add-one ip))

pub last_refused : (x : Context) (ip exit floor : ℕ) (head H : AnyState) (sh : Sheets) (f : Refusal) → H ≡ forgotten (chunk_in x) (ip + 1) (exit - 1) head →
    refused (fields f) ≡ full (chunk_in x) (ip + 1) (exit - 1) floor H no_break sh → refused (fields f) ≡ last_in x ip exit floor head sh
unfolding after_last ◌>>=◌
last_refused x ip exit floor head H sh f e O = last_made x ip exit floor head H sh (refused (fields f)) (refused (fields f)) e O refl

-- ── After a loop ──────────────────────────────────────────────────────────────────────────

module _ (x : Context) (ip target : ℕ) (low : ip < x.code.count) (there : control (instr_in x ip) ≡ loop_to target) where
  -- the body of a loop
  pub loop_arm_in : Arm (chunk_in x) (ip + 1) (target - 1)
  loop_arm_in = subst (λ (z : ℕ). Arm (chunk_in x) z (target - 1)) (sym (add-one ip)) (loop_arm ip target (leads_at x ip low there))

  module _ (N : Nested (chunk_in x)) where
    loop_rule : LoopRule (chunk_in x) ip target
    loop_rule = rule_at N ip (leads_at x ip low there)

    pub loop_in : (ip + 1 < target) × (target ≤ x.code.count)
    loop_in =
        let n : length (chunk_in x).code ≡ x.code.count = code_length x.tables.now x.chunk ∙ sym x.of.count_is in
        let inner : target - 1 < length (chunk_in x).code = loop_rule.2 0 (length (chunk_in x).code) whole_chunk (omega arith) (omega arith) in
        (omega (arith, loop_rule.0), omega (arith, loop_rule.0))

    module _ (floor : ℕ) (s : State) (b : AnyBreaks) (h bl h₁ : List ℕ) (m : h₁ ≡ set h (x.code.first + ip) (suc s.height)) where
      abbrev p : Standing
      p = record { state = state_of x.locals.count s; breaks = b; sheets = sheets_of h bl }

      around : (end : ℕ) (l : Result AnyLeft) → l ≡ loop_of (chunk_in x) ip target (state_of x.locals.count s) (sheets_of h₁ bl) →
          (l >>= λ (y : AnyLeft). full (chunk_in x) target end floor y.state b y.sheets) ≡ visit_in x ip end floor p (loop_to target)
      unfolding walk_instr loop_of is_quiet
      around end l P =
          ap (λ (z : Result AnyLeft). z >>= λ (y : AnyLeft). full (chunk_in x) target end floor y.state b y.sheets)
          (P ∙ ap (loop_of (chunk_in x) ip target (state_of x.locals.count s)) (quiet_mark x ip s h bl h₁ there refl m))

      pub loop_left : (u : AnyState) (sh : Sheets) → ok (record { state = u; sheets = sh }) ≡ loop_of (chunk_in x) ip target (state_of x.locals.count s) (sheets_of h₁ bl) →
          Visits x ip floor p (loop_to target) (Ok (Some target)) (record { state = u; breaks = b; sheets = sh })
      unfolding ◌>>=◌
      loop_left u sh P end I =
          let inner : target - 1 < end = loop_rule.2 I.from end I.arm I.after I.below in
          record { walked = around end _ P; goes = (omega (arith, loop_rule.0), omega (arith, loop_rule.0)) }

      pub loop_refused : (f : Refusal) (q : Standing) → refused (fields f) ≡ loop_of (chunk_in x) ip target (state_of x.locals.count s) (sheets_of h₁ bl) →
          Visits x ip floor p (loop_to target) (Err f) q
      unfolding ◌>>=◌
      loop_refused f q P end I = record { walked = around end _ P; goes = tt }

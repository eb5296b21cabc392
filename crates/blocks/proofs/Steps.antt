-- One instruction of a walk, by where it leads: what the definition's walk is there, from what the code found.
use mathlib.Core.Path.{◌≡◌, refl, sym, ap, ◌∙◌, subst}
use mathlib.Core.Logic.{◌≢◌}
use mathlib.Core.Bool.{Bool, true, false, ◌||◌}
use mathlib.Core.Option.{none}
use mathlib.Core.List.{List, [], ◌∷◌}
use Prim.Native.Nat.{ℕ, zero, suc, ◌+◌, ◌-◌, ◌≤◌, ◌<◌}
use native.Mathlib.Numerals.{add-one}
use native.Mathlib.Omega.{arith}
use lib.ListN.{set}
use lib.Dec.{eqb, ltb}
use borrow.Author.Tests.{ltb-false}
use Rattle.std.specs.Prelude.{Ok, Err}
use Rattle.definition.specs.Basics.{Result, ok, refused, ◌>>=◌}
use Rattle.definition.specs.Instructions.{Instr as AnyInstr, Chunk, Control, stops, if_to}
use Rattle.definition.specs.Instructions.{break_if_to, control}
use Rattle.definition.specs.Effects.{need}
use Rattle.definition.specs.Tests.{is_blind}
use Rattle.definition.specs.Nesting.{else_at}
use Rattle.definition.specs.Walk.{State as AnyState, Sheets, Walked, Walker, Breaks as AnyBreaks, height, mark, mark_blind, add_break, examine}
use Rattle.definition.specs.Walk.{walk_arms, walk_instr}
use Rattle.theorems.specs.Facts.{is_quiet, quiet}
use Rattle.theorems.specs.Cover.{no_false}
use Rattle.theorems.specs.Fuel.{full}
use Rattle.frame.specs.declared.State.{State}
use Rattle.frame.specs.Model.{state_of, popped}
use Rattle.bytecode.specs.Meaning.{chunk_base}
use Rattle.answer.specs.declared.Refusal.{Refusal}
use Rattle.answer.specs.Answer.{fields}
use Rattle.rules.specs.declared.chunk.Context.{Context}
use Rattle.rules.specs.Answers.{chunk_in}
use Rattle.stretch.specs.Stretch.{leads, sheets_of, straight}
use Rattle.stretch.proofs.Laws.{instr_refused}
use Rattle.blocks.specs.Outcomes.{Standing}
use Rattle.blocks.specs.Visits.{instr_in, visit_in, Coded, Guarded}
use Rattle.blocks.proofs.Laws.{height_is}
use Rattle.blocks.proofs.Guards.{guard_marked, guard_passed, guard_refused, one_needed}

-- ── Where it leads ────────────────────────────────────────────────────────────────────────

module _ (c : Chunk) (w : Walker) (ip end floor : ℕ) (s : AnyState) (b : AnyBreaks) (sh : Sheets) (i : AnyInstr) (u : AnyState) (e : examine c ip floor i s ≡ ok u) where
  instr_stops : walk_instr c w ip end floor s b sh i stops ≡ ok (record { fall = none; breaks = b; sheets = mark c ip i s sh })
  unfolding walk_instr ◌>>=◌
  instr_stops = ap (λ (m : Result AnyState). m >>= λ (v : AnyState). ok (record { fall = none; breaks = b; sheets = mark c ip i s sh })) e

  instr_break_if : (t : ℕ) → walk_instr c w ip end floor s b sh i (break_if_to t) ≡ w (suc ip) end floor u (add_break b u) (mark c ip i s sh)
  unfolding walk_instr ◌>>=◌
  instr_break_if t = ap (λ (m : Result AnyState). m >>= λ (v : AnyState). w (suc ip) end floor v (add_break b v) (mark c ip i s sh)) e

  instr_if : (t : ℕ) → walk_instr c w ip end floor s b sh i (if_to t) ≡ walk_arms w ip t end floor u b (mark c ip i s sh) (else_at c ip t)
  unfolding walk_instr ◌>>=◌
  instr_if t = ap (λ (m : Result AnyState). m >>= λ (v : AnyState). walk_arms w ip t end floor v b (mark c ip i s sh) (else_at c ip t)) e

-- Loop, Break and Return mark the height, and no blind entry.
pub quiet_mark : (x : Context) (ip : ℕ) (s : State) (h bl h' : List ℕ) {k : Control} → control (instr_in x ip) ≡ k → is_quiet k ≡ true →
    h' ≡ set h (x.code.first + ip) (suc s.height) → sheets_of h' bl ≡ mark (chunk_in x) ip (instr_in x ip) (state_of x.locals.count s) (sheets_of h bl)
unfolding mark mark_blind is_blind
quiet_mark x ip s h bl h' e q m =
    let c : Chunk = chunk_in x in
    let base : c.base ≡ x.code.first = chunk_base x.tables.now x.chunk ∙ sym x.of.first_is in
    let S : AnyState = state_of x.locals.count s in
    ap (λ (l : List ℕ). sheets_of l bl)
    (m ∙ ap (λ (n : ℕ). set h (n + ip) (suc s.height)) (sym base) ∙ ap (λ (n : ℕ). set h (c.base + ip) (suc n)) (sym (height_is x.locals.count s)))
    ∙ ap (λ (z : _). sheets_of (set h (c.base + ip) (suc (height S))) (mark_blind (is_blind z S.stack) (c.base + ip) bl)) (sym (quiet c (instr_in x ip) e q).reads)

-- ── Closers ───────────────────────────────────────────────────────────────────────────────

module _ (c : Chunk) (w : Walker) (ip end floor : ℕ) (s : AnyState) (b : AnyBreaks) (sh : Sheets) (i : AnyInstr) (a : ℕ) where
  closers : (j : ℕ) → j < 11 → j ≢ 0 → j ≢ 1 → j ≢ 2 → j ≢ 5 → j ≢ 7 → j ≢ 8 → j ≢ 9 → j ≢ 10 → walk_instr c w ip end floor s b sh i (leads (64 + j) a) ≡ refused (3 ∷ ip ∷ [])
  unfolding walk_instr leads
  closers zero h n0 n1 n2 n5 n7 n8 n9 n10 = absurd (n0 refl)
  closers (suc zero) h n0 n1 n2 n5 n7 n8 n9 n10 = absurd (n1 refl)
  closers (suc (suc zero)) h n0 n1 n2 n5 n7 n8 n9 n10 = absurd (n2 refl)
  closers (suc (suc (suc zero))) h n0 n1 n2 n5 n7 n8 n9 n10 = refl
  closers (suc (suc (suc (suc zero)))) h n0 n1 n2 n5 n7 n8 n9 n10 = refl
  closers (suc (suc (suc (suc (suc zero))))) h n0 n1 n2 n5 n7 n8 n9 n10 = absurd (n5 refl)
  closers (suc (suc (suc (suc (suc (suc zero)))))) h n0 n1 n2 n5 n7 n8 n9 n10 = refl
  closers (suc (suc (suc (suc (suc (suc (suc zero))))))) h n0 n1 n2 n5 n7 n8 n9 n10 = absurd (n7 refl)
  closers (suc (suc (suc (suc (suc (suc (suc (suc zero)))))))) h n0 n1 n2 n5 n7 n8 n9 n10 = absurd (n8 refl)
  closers (suc (suc (suc (suc (suc (suc (suc (suc (suc zero))))))))) h n0 n1 n2 n5 n7 n8 n9 n10 = absurd (n9 refl)
  closers (suc (suc (suc (suc (suc (suc (suc (suc (suc (suc zero)))))))))) h n0 n1 n2 n5 n7 n8 n9 n10 = absurd (n10 refl)
  closers (suc (suc (suc (suc (suc (suc (suc (suc (suc (suc (suc m))))))))))) h n0 n1 n2 n5 n7 n8 n9 n10 = absurd (omega arith)

not_straight : (k : ℕ) → straight k ≡ false → (64 ≤ k) × (k ≢ 72) × (k ≢ 73)
unfolding straight
not_straight k e = (
  low (ltb k 64) refl e,
  (λ z. no_false (sym e ∙ subst (λ (j : ℕ). straight j ≡ true) (sym z) refl)),
  (λ z. no_false (sym e ∙ subst (λ (j : ℕ). straight j ≡ true) (sym z) refl)),
)
  where
    low : (y : Bool) → ltb k 64 ≡ y → y || (eqb k 72 || eqb k 73) ≡ false → 64 ≤ k
    low true q r = absurd (no_false (sym r))
    low false q r = ltb-false k 64 q

from_64 : (k n : ℕ) → 64 ≤ k → k - 64 ≡ n → k ≡ 64 + n
from_64 k n h e = omega arith

below_75 : (k : ℕ) → 64 ≤ k → k < 75 → k - 64 < 11
below_75 k h l = omega arith

-- ── The visit ─────────────────────────────────────────────────────────────────────────────

module _ (x : Context) (ip floor : ℕ) (s : State) (low : s.height ≤ 64) (b : AnyBreaks) (h h' : List ℕ) (code a : ℕ) (there : Coded x ip code a) (end : ℕ) (bl : List ℕ) where
  abbrev S : AnyState
  S = state_of x.locals.count s

  abbrev p : Standing
  p = record { state = S; breaks = b; sheets = sheets_of h bl }

  abbrev c : Chunk
  c = chunk_in x

  abbrev visit : Control → Result Walked
  visit k = visit_in x ip end floor p k

  -- a path that ends, with these breaks
  abbrev done : AnyBreaks → List ℕ → Result Walked
  done k l = ok (record { fall = none; breaks = k; sheets = sheets_of l bl })

  at : {k : ℕ} → code ≡ k → control (instr_in x ip) ≡ leads k a
  at e = there ∙ ap (λ (j : ℕ). leads j a) e

  led : {k : ℕ} → code ≡ k → visit (leads code a) ≡ visit (leads k a)
  led e = ap (λ (j : ℕ). visit (leads j a)) e

  module _ (n : ℕ) (needs : n ≡ need c (instr_in x ip)) (e : code ≡ 64) where
    pub trap_refused : (f : Refusal) → Guarded (x.code.first + ip) n ip floor s.height h h' (Err f) → visit (leads code a) ≡ refused (fields f)
    unfolding leads
    trap_refused f G = led e ∙ instr_refused c (full c) ip end floor S b (sheets_of h bl) (instr_in x ip) stops tt _ (guard_refused x ip s (at e) tt n floor h h' needs f G)

    pub trap_passed : Guarded (x.code.first + ip) n ip floor s.height h h' (Ok tt) → visit (leads code a) ≡ done b h'
    unfolding leads
    trap_passed G =
        led e ∙ instr_stops c (full c) ip end floor S b (sheets_of h bl) (instr_in x ip) _ (guard_passed x ip s (at e) tt n floor h h' needs low G)
        ∙ ap (λ (z : Sheets). ok (record { fall = none; breaks = b; sheets = z })) (sym (guard_marked x ip s (at e) tt n floor h h' G bl))

  module _ (e : code ≡ 66) where
    pub break_if_refused : (f : Refusal) → Guarded (x.code.first + ip) 1 ip floor s.height h h' (Err f) → visit (leads code a) ≡ refused (fields f)
    unfolding leads
    break_if_refused f G =
        led e ∙ instr_refused c (full c) ip end floor S b (sheets_of h bl) (instr_in x ip) (break_if_to a) tt _ (guard_refused x ip s (at e) tt 1 floor h h' (one_needed c (instr_in x ip) (at e) refl tt) f G)

    pub break_if_passed : Guarded (x.code.first + ip) 1 ip floor s.height h h' (Ok tt) → (u : AnyState) (k : AnyBreaks) → u ≡ popped 1 S → k ≡ add_break b u →
        visit (leads code a) ≡ full c (ip + 1) end floor u k (sheets_of h' bl)
    unfolding leads
    break_if_passed G u k f g =
        led e ∙ instr_break_if c (full c) ip end floor S b (sheets_of h bl) (instr_in x ip) _ (guard_passed x ip s (at e) tt 1 floor h h' (one_needed c (instr_in x ip) (at e) refl tt) low G) a
        ∙ ap (λ (z : AnyState). full c (suc ip) end floor z (add_break b z) (mark c ip (instr_in x ip) S (sheets_of h bl))) (sym f)
        ∙ ap (λ (z : AnyBreaks). full c (suc ip) end floor u z (mark c ip (instr_in x ip) S (sheets_of h bl))) (sym g)
        ∙ ap (full c (suc ip) end floor u k) (sym (guard_marked x ip s (at e) tt 1 floor h h' G bl))
        ∙ ap (λ (j : ℕ). full c j end floor u k (sheets_of h' bl)) (sym (add-one ip))

  module _ (e : code ≡ 65) where
    pub if_refused : (f : Refusal) → Guarded (x.code.first + ip) 1 ip floor s.height h h' (Err f) → visit (leads code a) ≡ refused (fields f)
    unfolding leads
    if_refused f G =
        led e ∙ instr_refused c (full c) ip end floor S b (sheets_of h bl) (instr_in x ip) (if_to a) tt _ (guard_refused x ip s (at e) tt 1 floor h h' (one_needed c (instr_in x ip) (at e) refl tt) f G)

    pub if_passed : Guarded (x.code.first + ip) 1 ip floor s.height h h' (Ok tt) → (u : AnyState) → u ≡ popped 1 S →
        visit (leads code a) ≡ walk_arms (full c) ip a end floor u b (sheets_of h' bl) (else_at c ip a)
    unfolding leads
    if_passed G u f =
        led e ∙ instr_if c (full c) ip end floor S b (sheets_of h bl) (instr_in x ip) _ (guard_passed x ip s (at e) tt 1 floor h h' (one_needed c (instr_in x ip) (at e) refl tt) low G) a
        ∙ ap (λ (z : AnyState). walk_arms (full c) ip a end floor z b (mark c ip (instr_in x ip) S (sheets_of h bl)) (else_at c ip a)) (sym f)
        ∙ ap (λ (z : Sheets). walk_arms (full c) ip a end floor u b z (else_at c ip a)) (sym (guard_marked x ip s (at e) tt 1 floor h h' G bl))

  module _ (m : h' ≡ set h (x.code.first + ip) (suc s.height)) where
    pub break_passed : code ≡ 71 → (k : AnyBreaks) → k ≡ add_break b S → visit (leads code a) ≡ done k h'
    unfolding leads walk_instr is_quiet
    break_passed e k g =
        led e ∙ ap (λ (z : AnyBreaks). ok (record { fall = none; breaks = z; sheets = mark c ip (instr_in x ip) S (sheets_of h bl) })) (sym g)
        ∙ ap (λ (z : Sheets). ok (record { fall = none; breaks = k; sheets = z })) (sym (quiet_mark x ip s h bl h' (at e) refl m))

    pub returns_passed : code ≡ 74 → visit (leads code a) ≡ done b h'
    unfolding leads walk_instr is_quiet
    returns_passed e = led e ∙ ap (λ (z : Sheets). ok (record { fall = none; breaks = b; sheets = z })) (sym (quiet_mark x ip s h bl h' (at e) refl m))

  -- Else, EndIf and EndLoop
  pub closer_refused : code < 75 → straight code ≡ false → code ≢ 64 → code ≢ 65 → code ≢ 66 → code ≢ 69 → code ≢ 71 → code ≢ 74 → visit (leads code a) ≡ refused (3 ∷ ip ∷ [])
  closer_refused l e n64 n65 n66 n69 n71 n74 =
      let q = not_straight code e in
      led (from_64 code (code - 64) q.0 refl)
      ∙ closers c (full c) ip end floor S b (sheets_of h bl) (instr_in x ip) a (code - 64) (below_75 code q.0 l)
      (λ z. n64 (from_64 code 0 q.0 z)) (λ z. n65 (from_64 code 1 q.0 z)) (λ z. n66 (from_64 code 2 q.0 z)) (λ z. n69 (from_64 code 5 q.0 z))
      (λ z. n71 (from_64 code 7 q.0 z)) (λ z. q.1 (from_64 code 8 q.0 z)) (λ z. q.2 (from_64 code 9 q.0 z)) (λ z. n74 (from_64 code 10 q.0 z))

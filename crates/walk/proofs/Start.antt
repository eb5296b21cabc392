-- The walk of a chunk, and of all.
use mathlib.Core.Path.{◌≡◌, refl, sym, ap, ◌∙◌, subst}
use mathlib.Core.List.{List, [], ◌∷◌}
use Prim.Native.Nat.{ℕ, suc, ◌+◌, ◌-◌, ◌≤◌, ◌<◌}
use native.Mathlib.Omega.{arith}
use native.Mathlib.Numerals.{add-one}
use lib.ListN.{length}
use Rattle.std.specs.Prelude.{Result as Outcome, Ok, Err, MatchResult, IsErrAnd}
use Rattle.definition.specs.Basics.{Result, ok, refused, ◌>>=◌}
use Rattle.definition.specs.Instructions.{Chunk}
use Rattle.definition.specs.Walk.{State as AnyState, Walked, no_break, params, start_locals, start, walk_chunk}
use Rattle.definition.specs.Check.{in_chunk, walk_all}
use Rattle.theorems.specs.Nested.{Arm, Nested, whole}
use Rattle.theorems.specs.Fuel.{full, chunk_full}
use Rattle.bytecode.specs.Lists.{tabulate}
use Rattle.bytecode.specs.Meaning.{chunk_of, table_chunks, count, first_op, op_count, locals_at, code_length, chunk_locals}
use Rattle.rules.specs.declared.chunk.Context.{Context}
use Rattle.rules.specs.Answers.{chunk_in}
use Rattle.answer.specs.declared.Refusal.{Refusal}
use Rattle.answer.specs.declared.Refused.{Refused}
use Rattle.answer.specs.Answer.{fields, with_chunk, numbers, refused_numbers}
use Rattle.stretch.specs.Stretch.{sheets_of}
use Rattle.blocks.specs.Outcomes.{Standing, walked_of}
use Rattle.walk.specs.declared.ChunkEnd.{ChunkEnd}
use Rattle.walk.specs.Ready.{Ready, Roomy, flow_of}

-- ── A chunk ───────────────────────────────────────────────────────────────────────────────

module _ (t h b : List ℕ) (k : ℕ) (R : Roomy t h b k) (x : Context) (T : x.tables.now ≡ t) (K : x.chunk ≡ k) where
  of_chunk : {A : Type 0} (f : List ℕ → ℕ → A) → f x.tables.now x.chunk ≡ f t k
  of_chunk f = ap (λ (l : List ℕ). f l x.chunk) T ∙ ap (f t) K

  pub chunk_ready : Ready x h b 0 x.code.count 0
  chunk_ready =
      let first : x.code.first ≡ first_op t k = x.of.first_is ∙ of_chunk first_op in
      let count : x.code.count ≡ op_count t k = x.of.count_is ∙ of_chunk op_count in
      record {
        placed =
            record {
              heights_long = omega (arith, R.heights_long);
              blinds_long = omega (arith, R.blinds_long);
              nested = subst Nested (sym (of_chunk chunk_of)) R.nested;
            };
        from = 0;
        arm = subst (Arm (chunk_in x) 0) (code_length x.tables.now x.chunk ∙ sym x.of.count_is) whole;
        after = omega arith;
        before = omega arith;
        inside = omega arith;
      }

  pub chunk_walked : (m : Result Walked) (S : AnyState) → S ≡ record { stack = []; locals = start_locals x.locals.count (params (chunk_of t k)) } →
      m ≡ full (chunk_in x) 0 x.code.count 0 S no_break (sheets_of h b) → m ≡ walk_chunk (chunk_of t k) (sheets_of h b)
  unfolding start
  chunk_walked m S e w =
      let c : Chunk = chunk_of t k in
      w
      ∙ ap (λ (z : AnyState). full (chunk_in x) 0 x.code.count 0 z no_break (sheets_of h b)) e
      ∙ ap (λ (d : Chunk). full d 0 x.code.count 0 (record { stack = []; locals = start_locals x.locals.count (params c) }) no_break (sheets_of h b)) (of_chunk chunk_of)
      ∙ ap (λ (m : ℕ). full c 0 x.code.count 0 (record { stack = []; locals = start_locals m (params c) }) no_break (sheets_of h b)) (x.of.locals_is ∙ of_chunk locals_at ∙ sym (chunk_locals t k))
      ∙ ap (λ (m : ℕ). full c 0 m 0 (record { stack = []; locals = start_locals c.locals (params c) }) no_break (sheets_of h b)) (x.of.count_is ∙ of_chunk op_count ∙ sym (code_length t k))
      ∙ sym (chunk_full c (sheets_of h b))

  pub locals_are : x.locals.count ≡ locals_at t k
  locals_are = x.of.locals_is ∙ of_chunk locals_at

-- ── All chunks ────────────────────────────────────────────────────────────────────────────

-- the chunks before k are walked
pub record WalkedTo (t h₀ b₀ h b : List ℕ) (k : ℕ) : Type 0 where
  pub heights_same : length h ≡ length h₀
  pub blinds_same : length b ≡ length b₀
  pub on : walk_all 0 (table_chunks t) (sheets_of h₀ b₀) ≡ walk_all k (tabulate k (count t 7 - k) (chunk_of t)) (sheets_of h b)

pub walked_none : (t h b : List ℕ) → WalkedTo t h b h b 0
unfolding table_chunks
walked_none t h b =
    record {
      heights_same = refl;
      blinds_same = refl;
      on = ap (λ (n : ℕ). walk_all 0 (tabulate 0 n (chunk_of t)) (sheets_of h b)) (let q : count t 7 ≡ count t 7 - 0 = omega arith in q);
    }

-- a refusal gets the number of its chunk
abbrev pub Told : ℕ → Outcome ChunkEnd Refusal → Outcome ChunkEnd Refused → Type 0
Told k r m = MatchResult r (λ x. m ≡ Ok x) (λ f. IsErrAnd m (λ d. d ≡ record { chunk = k; refusal = f }))

told_ok : (k : ℕ) (r : Outcome ChunkEnd Refusal) (m : Outcome ChunkEnd Refused) (a : ChunkEnd) → Told k r m → m ≡ Ok a → r ≡ Ok a
told_ok k (Ok x) m a w e = cc
told_ok k (Err f) (Ok x) a w e = absurd w
told_ok k (Err f) (Err d) a w e = absurd (cc)

told_err : (k : ℕ) (r : Outcome ChunkEnd Refusal) (m : Outcome ChunkEnd Refused) (d : Refused) → Told k r m → m ≡ Err d → (f : Refusal) × (r ≡ Err f) × (d ≡ record { chunk = k; refusal = f })
told_err k (Ok x) m d w e = absurd (cc)
told_err k (Err f) (Ok x) d w e = absurd w
told_err k (Err f) (Err c) d w e = (f, refl, cc)

module _ (t h₀ b₀ h b : List ℕ) (k : ℕ) (W : WalkedTo t h₀ b₀ h b k) (below : k < count t 7) (r : Outcome ChunkEnd Refusal) (q : Standing)
    (C : walked_of (flow_of r) q ≡ walk_chunk (chunk_of t k) (sheets_of h b)) where
  next_chunk :
      walk_all 0 (table_chunks t) (sheets_of h₀ b₀)
      ≡ (in_chunk k (walked_of (flow_of r) q) >>= λ (w : Walked). walk_all (suc k) (tabulate (suc k) (count t 7 - (k + 1)) (chunk_of t)) w.sheets)
  unfolding walk_all tabulate
  next_chunk =
      W.on
      ∙ ap (λ (n : ℕ). walk_all k (tabulate k n (chunk_of t)) (sheets_of h b)) (let q : count t 7 - k ≡ suc (count t 7 - (k + 1)) = omega arith in q)
      ∙ ap (λ (m : Result Walked). in_chunk k m >>= λ (w : Walked). walk_all (suc k) (tabulate (suc k) (count t 7 - (k + 1)) (chunk_of t)) w.sheets) (sym C)

  pub walked_refused : (f : Refusal) → r ≡ Err f → refused (numbers k f) ≡ walk_all 0 (table_chunks t) (sheets_of h₀ b₀)
  unfolding in_chunk numbers with_chunk ◌>>=◌
  walked_refused f e =
      sym
      (next_chunk
      ∙ ap (λ (z : Outcome ChunkEnd Refusal). in_chunk k (walked_of (flow_of z) q) >>= λ (w : Walked). walk_all (suc k) (tabulate (suc k) (count t 7 - (k + 1)) (chunk_of t)) w.sheets) e
      ∙ go (fields f))
    where
      go : (ns : List ℕ) → (in_chunk k (refused ns) >>= λ (w : Walked). walk_all (suc k) (tabulate (suc k) (count t 7 - (k + 1)) (chunk_of t)) w.sheets) ≡ refused (with_chunk k ns)
      go [] = refl
      go (n ∷ ns) = refl

  pub walked_more : (a : ChunkEnd) → r ≡ Ok a → length q.sheets.heights ≡ length h → length q.sheets.blinds ≡ length b → WalkedTo t h₀ b₀ q.sheets.heights q.sheets.blinds (k + 1)
  unfolding in_chunk ◌>>=◌
  walked_more a z e f =
      record {
        heights_same = e ∙ W.heights_same;
        blinds_same = f ∙ W.blinds_same;
        on =
            next_chunk
            ∙ ap (λ (z : Outcome ChunkEnd Refusal). in_chunk k (walked_of (flow_of z) q) >>= λ (w : Walked). walk_all (suc k) (tabulate (suc k) (count t 7 - (k + 1)) (chunk_of t)) w.sheets) z
            ∙ ap (λ (n : ℕ). walk_all n (tabulate n (count t 7 - (k + 1)) (chunk_of t)) q.sheets) (sym (add-one k));
      }

  -- and so with the number of the chunk
  module _ (m : Outcome ChunkEnd Refused) (w : Told k r m) where
    pub told_refused : (d : Refused) → m ≡ Err d → refused (refused_numbers d) ≡ walk_all 0 (table_chunks t) (sheets_of h₀ b₀)
    told_refused d e = let z = told_err k r m d w e in rw z.2 (walked_refused z.0 z.1)

    pub told_more : (a : ChunkEnd) → m ≡ Ok a → length q.sheets.heights ≡ length h → length q.sheets.blinds ≡ length b → WalkedTo t h₀ b₀ q.sheets.heights q.sheets.blinds (k + 1)
    told_more a e = walked_more a (told_ok k r m a w e)

pub walked_all : (t h₀ b₀ h b : List ℕ) (k : ℕ) → count t 7 ≤ k → WalkedTo t h₀ b₀ h b k → ok (sheets_of h b) ≡ walk_all 0 (table_chunks t) (sheets_of h₀ b₀)
unfolding walk_all tabulate
walked_all t h₀ b₀ h b k e W = sym (W.on ∙ ap (λ (n : ℕ). walk_all k (tabulate k n (chunk_of t)) (sheets_of h b)) (let q : count t 7 - k ≡ 0 = omega arith in q))

-- The walk over the chunks. Assumes nothing.
use Rattle.std.proofs.Common.{◌≡◌, refl, sym, ap, ◌∙◌, subst, List, [], ◌∷◌, ℕ, suc, ◌+◌, ◌-◌, ◌≤◌, ◌<◌, arith, add-one, Result as Outcome, Ok, Err, Option as Maybe, Some, None}
use Rattle.std.proofs.Math.Option.{Option, none, some}
use Rattle.definition.specs.Basics.{first}
use Rattle.definition.specs.Instructions.{Chunk}
use Rattle.definition.specs.Nesting.{first_broken, too_deep, find_chunk, refuse_broken, refuse_deep}
use Rattle.definition.specs.Check.{nesting_test}
use Rattle.bytecode.specs.Lists.{tabulate}
use Rattle.bytecode.specs.Meaning.{count, chunk_of, table_chunks}
use Rattle.nesting.specs.Answer.{NestingIs, broken_of, deep_of}
use Rattle.std.specs.Result.{MatchResult, IsErrAnd}
use Rattle.std.specs.Option.{MatchOption, IsSomeAnd, option_or}
use Rattle.answer.specs.declared.limit.Limit.TheVariants.{Blocks}
use Rattle.answer.specs.declared.Refusal.TheVariants.{NotNested, LimitPassed}
use Rattle.answer.specs.declared.Refused.{Refused}
use Rattle.answer.specs.Answer.{found, numbers, fields, with_chunk}

-- the chunks from number k on
unfoldable pub rest : List ℕ → ℕ → List Chunk
rest t k = tabulate k (count t 7 - k) (chunk_of t)

next : (t : List ℕ) (k : ℕ) → k < count t 7 → rest t k ≡ chunk_of t k ∷ rest t (suc k)
unfolding rest tabulate
next t k l = let z : count t 7 - k ≡ suc (count t 7 - suc k) = omega arith in rw (z, tabulate)

none_left : (t : List ℕ) (k : ℕ) → count t 7 ≤ k → rest t k ≡ []
unfolding rest tabulate
none_left t k l = let z : count t 7 - k ≡ 0 = omega arith in rw (z, tabulate)

all_left : (t : List ℕ) → table_chunks t ≡ rest t 0
unfolding rest table_chunks
all_left t = ap (λ (n : ℕ). tabulate 0 n (chunk_of t)) (let z : count t 7 ≡ count t 7 - 0 = omega arith in z)

find_is : (f : Chunk → Option ℕ) (k : ℕ) (c : Chunk) (cs : List Chunk) (o : Option ℕ) → f c ≡ o
    → find_chunk f k (c ∷ cs) ≡ elim o as (λ _. Option (ℕ × ℕ)) [ some p ↦ some (k, p) | none ↦ find_chunk f (suc k) cs ]
unfolding find_chunk
find_is f k c cs o e = rw (e, find_chunk)

module _ (t : List ℕ) where
  abbrev found_in : (Chunk → Option ℕ) → ℕ → Option (ℕ × ℕ)
  found_in f k = find_chunk f k (rest t k)

  at_none : (f : Chunk → Option ℕ) (k : ℕ) → k < count t 7 → f (chunk_of t k) ≡ none → found_in f k ≡ found_in f (suc k)
  at_none f k l e = ap (find_chunk f k) (next t k l) ∙ find_is f k (chunk_of t k) (rest t (suc k)) none e

  at_some : (f : Chunk → Option ℕ) (k p : ℕ) → k < count t 7 → f (chunk_of t k) ≡ some p → found_in f k ≡ some (k, p)
  at_some f k p l e = ap (find_chunk f k) (next t k l) ∙ find_is f k (chunk_of t k) (rest t (suc k)) (some p) e

  at_end : (f : Chunk → Option ℕ) (k : ℕ) → count t 7 ≤ k → found_in f k ≡ none
  unfolding find_chunk
  at_end f k l = ap (find_chunk f k) (none_left t k l)

  -- what was found before chunk k
  abbrev Deepest : ℕ → Maybe Refused → Type 0
  Deepest k (Some r) = (q : ℕ) × (r.refusal ≡ LimitPassed q Blocks) × (found_in too_deep 0 ≡ some (r.chunk, q))
  Deepest k None = found_in too_deep 0 ≡ found_in too_deep k

  pub record State (k : ℕ) (deepest : Maybe Refused) : Type 0 where
    pub broken : found_in first_broken 0 ≡ found_in first_broken k
    pub deep : Deepest k deepest

  pub start : State 0 None
  start = record { broken = refl; deep = refl }

  answer : (r : Outcome Unit Refused) (a b : Option (ℕ × ℕ)) → found_in first_broken 0 ≡ a → found_in too_deep 0 ≡ b
      → found r ≡ first (refuse_broken a) (refuse_deep b) → found r ≡ nesting_test (table_chunks t)
  unfolding nesting_test
  answer r a b x y e = e ∙ rw (all_left t, x, y)

  module _ (k : ℕ) (deepest : Maybe Refused) (S : State k deepest) where
    -- the place that breaks a rule, with its chunk
    abbrev pub Told : Outcome (Maybe ℕ) ℕ → Outcome (Maybe ℕ) Refused → Type 0
    Told r m = MatchResult r (λ x. m ≡ Ok x) (λ p. IsErrAnd m (λ d. d ≡ record { chunk = k; refusal = NotNested p }))

    -- the place where too many blocks are open, with its chunk
    abbrev pub Placed : Maybe ℕ → Maybe Refused → Type 0
    Placed d n = MatchOption d (n ≡ None) (λ p. IsSomeAnd n (λ x. x ≡ record { chunk = k; refusal = LimitPassed p Blocks }))

    module _ (l : k < count t 7) where
      pub is_broken : (r : Outcome (Maybe ℕ) ℕ) (m : Outcome (Maybe ℕ) Refused) → NestingIs (chunk_of t k) r → Told r m → (d : Refused) → m ≡ Err d
          → found (Err d) ≡ nesting_test (table_chunks t)
      unfolding broken_of found numbers fields with_chunk first refuse_broken
      is_broken (Ok f) m v w d e = cc
      is_broken (Err p) (Ok f) v w d e = absurd w
      is_broken (Err p) (Err x) v w d e =
          let z : d ≡ record { chunk = k; refusal = NotNested p } = cc in
          rw z
          (answer (Err (record { chunk = k; refusal = NotNested p })) (some (k, p)) (found_in too_deep 0) (S.broken ∙ at_some first_broken k p l v.broken) refl refl)

      pub goes_on : (r : Outcome (Maybe ℕ) ℕ) (m : Outcome (Maybe ℕ) Refused) → NestingIs (chunk_of t k) r → Told r m → (deep : Maybe ℕ) → m ≡ Ok deep
          → (n : Maybe Refused) → Placed deep n → State (k + 1) (option_or deepest n)
      unfolding broken_of deep_of
      goes_on (Err p) (Ok f) v w deep e n z = absurd w
      goes_on (Err p) (Err x) v w deep e n z = cc
      goes_on (Ok f) m v w deep e n z =
          let g : f ≡ deep = cc in
          rw add-one
          record {
            broken = S.broken ∙ at_none first_broken k l v.broken;
            deep = go deepest deep n z (v.deep v.broken ∙ ap (λ (x : Maybe ℕ). deep_of (Ok x)) g) S.deep;
          }
        where
          go : (f : Maybe Refused) (d : Maybe ℕ) (n : Maybe Refused) → Placed d n → too_deep (chunk_of t k) ≡ deep_of (Ok d) → Deepest k f → Deepest (suc k) (option_or f n)
          go (Some a) d n w y z = z
          go None None n w y z = subst (Deepest (suc k)) (sym w) (z ∙ at_none too_deep k l y)
          go None (Some p) (Some a) w y z = subst (λ (x : Refused). Deepest (suc k) (Some x)) (sym w) (p, refl, z ∙ at_some too_deep k p l y)
          go None (Some p) None w y z = absurd w

    pub ends_well : count t 7 ≤ k → (r : Outcome Unit Refused) → MatchOption deepest (r ≡ Ok tt) (λ d. r ≡ Err d) → found r ≡ nesting_test (table_chunks t)
    unfolding found numbers fields with_chunk first refuse_broken refuse_deep
    ends_well l r w = go deepest w S.deep
      where
        clear : found_in first_broken 0 ≡ none
        clear = S.broken ∙ at_end first_broken k l

        go : (f : Maybe Refused) → MatchOption f (r ≡ Ok tt) (λ d. r ≡ Err d) → Deepest k f → found r ≡ nesting_test (table_chunks t)
        go (Some d) w (q, y, z) = rw w (answer (Err d) none (some (d.chunk, q)) clear z (rw y))
        go None w z = rw w (answer (Ok tt) none none clear (z ∙ at_end too_deep k l) refl)

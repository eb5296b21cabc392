-- What it means for each chunk that nothing is refused: the walk needs its rules and its number of open blocks.
use Rattle.std.specs.Prelude.{◌≡◌, refl, List, ℕ, zero, suc, ◌+◌, ◌<◌}
use Rattle.std.proofs.Common.{sym, ap, ◌∙◌, arith, zero-add}
use Rattle.std.proofs.Math.Option.{Option, none, some}
use Rattle.definition.specs.Basics.{first}
use Rattle.definition.specs.Instructions.{Chunk}
use Rattle.definition.specs.Nesting.{first_broken, too_deep, find_chunk, refuse_broken, refuse_deep}
use Rattle.definition.specs.Check.{nesting_test}
use Rattle.theorems.specs.Nested.{Nested}
use Rattle.theorems.specs.Agree.{agrees, no_some}
use Rattle.bytecode.specs.Lists.{tabulate}
use Rattle.bytecode.specs.Meaning.{count, chunk_of, table_chunks}

-- Chunk number k keeps every rule and has at most eight open blocks.
pub record Fine (t : List ℕ) (k : ℕ) : Type 0 where
  pub nested : Nested (chunk_of t k)
  pub shallow : too_deep (chunk_of t k) ≡ none

found_none : (f : Chunk → Option ℕ) (n k j : ℕ) (g : ℕ → Chunk) → find_chunk f j (tabulate k n g) ≡ none → (i : ℕ) → i < n → f (g (k + i)) ≡ none
unfolding find_chunk tabulate
found_none f zero k j g e i l = absurd (omega arith)
found_none f (suc n) k j g e i l = go (f (g k)) refl e (λ h m u. found_none f n (suc k) (suc j) g h m u) i l
  where
    go : (o : Option ℕ) → f (g k) ≡ o
        → ◌≡◌ {A = Option (ℕ × ℕ)} (elim o [ some p ↦ some (j, p) | none ↦ find_chunk f (suc j) (tabulate (suc k) n g) ]) none
        → (find_chunk f (suc j) (tabulate (suc k) n g) ≡ none → (m : ℕ) → m < n → f (g (suc k + m)) ≡ none)
        → (i : ℕ) → i < suc n → f (g (k + i)) ≡ none
    go (some p) x h r i l = absurd (no_some (sym h))
    go none x h r zero l = ap (λ (m : ℕ). f (g m)) (let z : k + 0 ≡ k = omega arith in z) ∙ x
    go none x h r (suc i) l = ap (λ (m : ℕ). f (g m)) (let z : k + suc i ≡ suc k + i = omega arith in z) ∙ r h i (omega arith)

first_none : (a b : Option (List ℕ)) → first a b ≡ none → (a ≡ none) × (b ≡ none)
unfolding first
first_none none b e = (refl, e)
first_none (some r) b e = absurd (no_some (sym e))

broken_none : (o : Option (ℕ × ℕ)) → refuse_broken o ≡ none → o ≡ none
unfolding refuse_broken
broken_none none e = refl
broken_none (some r) e = absurd (no_some (sym e))

deep_none : (o : Option (ℕ × ℕ)) → refuse_deep o ≡ none → o ≡ none
unfolding refuse_deep
deep_none none e = refl
deep_none (some r) e = absurd (no_some (sym e))

pub fine : (t : List ℕ) → nesting_test (table_chunks t) ≡ none → (k : ℕ) → k < count t 7 → Fine t k
unfolding nesting_test table_chunks
fine t e k l =
    let h = first_none (refuse_broken (find_chunk first_broken 0 (table_chunks t))) (refuse_deep (find_chunk too_deep 0 (table_chunks t))) e in
    let a : first_broken (chunk_of t (0 + k)) ≡ none =
    found_none first_broken (count t 7) 0 0 (chunk_of t) (broken_none (find_chunk first_broken 0 (table_chunks t)) h.0) k l in
    let b : too_deep (chunk_of t (0 + k)) ≡ none =
    found_none too_deep (count t 7) 0 0 (chunk_of t) (deep_none (find_chunk too_deep 0 (table_chunks t)) h.1) k l in
    record { nested = (agrees (chunk_of t k)).0 (rw zero-add at a); shallow = rw zero-add at b }

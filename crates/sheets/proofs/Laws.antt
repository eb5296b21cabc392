-- Laws for the proofs of the code, on plain variables. Assumes nothing.
use Rattle.std.proofs.Common.{◌≡◌, refl, ap, ◌∙◌, List, ◌∷◌, ℕ, zero, suc, ◌+◌, ◌-◌, ◌<◌, arith, add-one, length, length-append}
use Rattle.std.specs.List.{sum_by, range_with_len}
use Rattle.std.proofs.lemmas.List.Sums.{sum_by-cons}
use Rattle.definition.specs.Module.{Code, all_ops}
use Rattle.bytecode.specs.Lists.{tabulate, tabulate-length}
use Rattle.bytecode.specs.Meaning.{count, op_at, code_of, module_of, first_op, op_count}

module _ (t : List ℕ) where
  -- the chunks from number k on
  pub chunks_left : ℕ → List Code
  chunks_left k = tabulate k (count t 7 - k) (code_of t)

  -- the chunks before k have n instructions; the loop of `printed::put_chunks` keeps it
  abbrev pub Sum : ℕ → ℕ → Type 0
  Sum n k = length (all_ops (module_of t).chunks) ≡ n + length (all_ops (chunks_left k))

  pub sum_start : Sum 0 0
  unfolding module_of chunks_left
  sum_start =
      ap (λ (m : ℕ). length (all_ops (tabulate 0 m (code_of t)))) (let z : count t 7 ≡ count t 7 - 0 = omega arith in z) ∙ omega arith

  pub sum_more : (n k s : ℕ) → k < count t 7 → s ≡ op_count t k → Sum n k → Sum (n + s) (k + 1)
  unfolding chunks_left tabulate all_ops code_of
  sum_more n k s l e S =
      let z : count t 7 - k ≡ suc (count t 7 - suc k) = omega arith in
      let a : chunks_left k ≡ code_of t k ∷ chunks_left (suc k) = rw (z, tabulate) in
      let b : length (all_ops (chunks_left k)) ≡ length (code_of t k).ops + length (all_ops (chunks_left (suc k))) =
      ap (λ (cs : List Code). length (all_ops cs)) a ∙ length-append (code_of t k).ops (all_ops (chunks_left (suc k))) in
      let c : length (code_of t k).ops ≡ op_count t k = tabulate-length (first_op t k) (op_count t k) (op_at t) in
      rw (add-one k) (omega (arith, b, c))

  -- The instructions of n chunks from number k on, each chunk counted.
  counted_from : (k n : ℕ) → sum_by (op_count t) (range_with_len k n) ≡ length (all_ops (tabulate k n (code_of t)))
  unfolding tabulate all_ops code_of
  counted_from k zero = refl
  counted_from k (suc n) =
      let a = sum_by-cons (op_count t) k (range_with_len (k + 1) n) in
      let b = length-append (code_of t k).ops (all_ops (tabulate (suc k) n (code_of t))) in
      let c = tabulate-length (first_op t k) (op_count t k) (op_at t) in
      let d : sum_by (op_count t) (range_with_len (k + 1) n) ≡ length (all_ops (tabulate (suc k) n (code_of t))) =
      rw add-one (counted_from (suc k) n) in
      a ∙ omega arith

  pub counted : (n : ℕ) → n ≡ count t 7 → sum_by (op_count t) (range_with_len 0 n) ≡ length (all_ops (module_of t).chunks)
  unfolding module_of
  counted n e = rw e (counted_from 0 (count t 7))

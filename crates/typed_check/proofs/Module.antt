-- The tests of a module in the tables, in order, and its walk.
use mathlib.Core.Path.{◌≡◌, sym, ap, ◌∙◌}
use mathlib.Core.Option.{Option, none, some}
use mathlib.Core.List.{List}
use Prim.Native.Nat.{ℕ, min, ◌+◌, ◌≤◌, ◌<◌}
use native.Mathlib.Omega.{arith}
use lib.Dec.{leb, leb→le}
use lib.ListN.{length, replicate}
use Rattle.definition.specs.Basics.{Result, ok, refused, ◌>>=◌, first, pass}
use Rattle.definition.specs.Instructions.{Chunk}
use Rattle.definition.specs.Module.{Module, all_ops}
use Rattle.definition.specs.Layout.{layout_test}
use Rattle.definition.specs.Walk.{Sheets}
use Rattle.definition.specs.Check.{sheets_test, nesting_test, walk_all, zeros, check_module}
use Rattle.theorems.specs.Cover.{no_some, T_of, first_none, unless_none}
use Rattle.bytecode.specs.Tables.{cap}
use Rattle.bytecode.specs.Meaning.{count, count_low, first_op, op_count, module_of, table_chunks}
use Rattle.listing.specs.Answer.{StandsIn}
use Rattle.sheets.specs.Totals.{chunk_within}
use Rattle.nesting.specs.Chunks.{fine}
use Rattle.answer.specs.Answer.{refused_numbers, found}
use Rattle.std.specs.Prelude.{Result as Outcome, Ok, Err}
use Rattle.answer.specs.declared.Refused.{Refused}
use Rattle.walk.specs.Ready.{Roomy, results_of}
use Rattle.stretch.specs.Stretch.{sheets_of}
use Rattle.typed_check.specs.Equal.{tests_of}

-- ── The tests before the walk ─────────────────────────────────────────────────────────────

run : Option (List ℕ) → Option (List ℕ) → List Chunk → Sheets → Result Sheets
run s l cs z = pass s cs >>= λ cs. pass (first (nesting_test cs) l) z >>= λ sh. walk_all 0 cs sh

then_bad : (n : Option (List ℕ)) (f : Sheets → Result Sheets) (z : Sheets) (r : List ℕ) → n ≡ some r → pass n z >>= f ≡ refused r
unfolding pass ◌>>=◌
then_bad n f z r e = rw e

then_good : (n : Option (List ℕ)) (f : Sheets → Result Sheets) (z : Sheets) → n ≡ none → pass n z >>= f ≡ f z
unfolding pass ◌>>=◌
then_good n f z e = rw e

run_bad : (s l : Option (List ℕ)) (cs : List Chunk) (z : Sheets) (r : List ℕ) → first s (first (nesting_test cs) l) ≡ some r → run s l cs z ≡ refused r
unfolding run first pass ◌>>=◌
run_bad (some q) l cs z r e = then_bad (some q) ok z r e
run_bad none l cs z r e = then_bad (first (nesting_test cs) l) (walk_all 0 cs) z r e

run_good : (s l : Option (List ℕ)) (cs : List Chunk) (z : Sheets) → first s (first (nesting_test cs) l) ≡ none → run s l cs z ≡ walk_all 0 cs z
unfolding run first pass ◌>>=◌
run_good none l cs z e = then_good (first (nesting_test cs) l) (walk_all 0 cs) z e
run_good (some q) l cs z e = absurd (no_some e)

-- ── The walk ──────────────────────────────────────────────────────────────────────────────

passed : (w : Outcome Unit Refused) (sh : Sheets) (x : Result Sheets) → results_of w sh ≡ x → pass (found w) sh ≡ x
unfolding results_of found pass
passed (Ok done) sh x e = e
passed (Err r) sh x e = e

-- sheets of zeros
pub zeros_by : (t heights blinds : List ℕ) → heights ≡ replicate (length heights) 0 → blinds ≡ replicate (length blinds) 0 →
    walk_all 0 (table_chunks t) (sheets_of heights blinds) ≡ walk_all 0 (table_chunks t) (zeros (length heights) (length blinds))
unfolding zeros
zeros_by t heights blinds p q =
    ap (λ (z : List ℕ). walk_all 0 (table_chunks t) (sheets_of z blinds)) p
    ∙ ap (λ (z : List ℕ). walk_all 0 (table_chunks t) (sheets_of (replicate (length heights) 0) z)) q

-- ── A module in the tables ────────────────────────────────────────────────────────────────

module _ (t : List ℕ) (h b : ℕ) (stands : StandsIn t) where
  m : Module
  m = module_of t

  S : Option (List ℕ)
  S = sheets_test (length (all_ops m.chunks)) h b

  N : Option (List ℕ)
  N = nesting_test (table_chunks t)

  whole : check_module h b m ≡ run S (layout_test m) (table_chunks t) (zeros h b)
  unfolding check_module run S m
  whole = ap (λ (cs : List Chunk). run S (layout_test m) cs (zeros h b)) (sym stands.chunks)

  -- what a test finds is the answer
  pub tested_bad : (f : Outcome Unit Refused) {x : Refused} (sh : Sheets) → f ≡ Err x → found f ≡ tests_of h b t → pass (found f) sh ≡ check_module h b (module_of t)
  unfolding tests_of found pass m S N
  tested_bad f {x} sh e g =
      let z : first S (first N (layout_test m)) ≡ some (refused_numbers x) = sym g ∙ ap found e in
      ap (λ (o : Outcome Unit Refused). pass (found o) sh) e ∙ sym (whole ∙ run_bad S (layout_test m) (table_chunks t) (zeros h b) (refused_numbers x) z)

  module _ (f : Outcome Unit Refused) (e : f ≡ Ok tt) (g : found f ≡ tests_of h b t) where
    none_found : first S (first N (layout_test m)) ≡ none
    unfolding tests_of found m S N
    none_found = sym g ∙ ap found e

    nested : N ≡ none
    nested = (first_none N (layout_test m) (first_none S (first N (layout_test m)) none_found).1).0

    room : length (all_ops m.chunks) ≤ min h b
    unfolding S sheets_test
    room =
        leb→le (length (all_ops m.chunks)) (min h b)
        (T_of (unless_none (leb (length (all_ops m.chunks)) (min h b)) _ (first_none S (first N (layout_test m)) none_found).0))

    -- there is room for each chunk, and it is nested
    pub roomy : (heights blinds : List ℕ) → length heights ≡ h → length blinds ≡ b → (k : ℕ) → k < count t 7 → Roomy t heights blinds k
    unfolding N m cap
    roomy heights blinds p q k l =
        let w : first_op t k + op_count t k ≤ length (all_ops stands.reader.so_far.chunks) = chunk_within t stands.reader stands.held k in
        let v : length (all_ops stands.reader.so_far.chunks) ≡ length (all_ops m.chunks) =
        ap (λ (z : Module). length (all_ops z.chunks)) (sym stands.module_held) in
        let u : length (all_ops m.chunks) ≤ min h b = room in
        let c : count t 7 ≤ 64 = count_low t 7 in
        record {
          low = omega arith;
          heights_long = omega arith;
          blinds_long = omega arith;
          nested = (fine t nested k l).nested;
        }

    -- the walk's answer is the answer
    pub tested_good : (w : Outcome Unit Refused) (sh : Sheets) → results_of w sh ≡ walk_all 0 (table_chunks t) (zeros h b) →
        pass (found w) sh ≡ check_module h b (module_of t)
    unfolding N m
    tested_good w sh c = passed w sh (walk_all 0 (table_chunks t) (zeros h b)) c ∙ sym (whole ∙ run_good S (layout_test m) (table_chunks t) (zeros h b) none_found)

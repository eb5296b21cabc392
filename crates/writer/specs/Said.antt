-- What is written for tables is there exactly where they say a module that passes, table by table; and it is that module's listing.
use Rattle.std.specs.Prelude.{◌≡◌, refl, Bool, ◌&&◌, ℕ, zero, suc, ◌+◌, ◌≤◌, ◌<◌, leb, eqb, length}
use Rattle.std.proofs.Math.Path.{sym, ap}
use Rattle.std.proofs.Common.{◌∙◌, subst, arith}
use Rattle.std.proofs.Math.Bool.{true, not}
use Rattle.std.proofs.Math.Option.{Option}
use mathlib.Core.List.{List, [], ◌∷◌, ◌++◌, map, append_assoc}
use Rattle.std.proofs.Math.Decide.{dec_lt}
use Rattle.std.proofs.Math.ListN.{get_or}
use borrow.Author.Tests.{le-leb, leb-true, eqb-true, eq-eqb}
use Rattle.definition.specs.Format.{Bytes}
use Rattle.definition.specs.Module.{Slot, shared, private, Code, all_consts, all_ops}
use Rattle.definition.specs.Read.{Line, first_line, slot_line, shared_line, private_line, enum_line, native_line, sig_line}
use Rattle.definition.specs.Write.{admits, all_pass, at_line, at_slot, line_text, is_line, chunks_lines, lines_of, lines_text, listing_of}
use Rattle.theorems.specs.Cover.{and_true}
use Rattle.theorems.specs.Direct.{table_passes, header_passes, sig_passes, code_passes, totals_pass, module_passes}
use Rattle.bytecode.specs.Lists.{limited-same, tabulate, tabulate-length}
use Rattle.bytecode.specs.Tables.{cap}
use Rattle.bytecode.specs.Held.{header_words, slot_words, shared_words, private_words, one_word, native_words, sig_words, op_words, chunk_rows, header_rows}
use Rattle.bytecode.specs.Held.{lists, length-map}
use Rattle.bytecode.specs.Meaning.{cell, count, count_low, table_header, slot_at, shared_at, private_at, enum_at, native_at, sig_at, code_of, slots_of, shareds_of}
use Rattle.bytecode.specs.Meaning.{privates_of, enums_of, natives_of, sigs_of, module_of}
use Rattle.bytecode.specs.Exact.{row_says, rows_say, table_says, tables_say, is_exact}
use Rattle.writer.specs.Put.{joined, joined_nothing, joined-joined}
use Rattle.writer.specs.Say.{line_said, entry_said, rows_said, tables_said, chunks_said, counts_fit, is_headed, module_said}
use Rattle.writer.specs.Texts.{Says, says_as, says_by, says_both, says_if}
use Rattle.writer.specs.Lines.{and_of, head_same, rest-same}
use Rattle.writer.specs.Entries.{by_row, row_told, header_says, slot_says, shared_says, private_says, enum_says, native_says, sig_says}
use Rattle.writer.specs.Chunks.{rows_told, lines_both, Chunks, chunks_told}

-- ── Counts ────────────────────────────────────────────────────────────────────────────────

module _ (t : List ℕ) (k : ℕ) where
  abbrev Fits : Type 0
  Fits = leb (get_or t k 0) (cap k) ≡ true

  fit_count : Fits → get_or t k 0 ≡ count t k
  unfolding count
  fit_count e = sym (limited-same (cap k) (get_or t k 0) (leb-true (get_or t k 0) (cap k) e))

  count_fit : get_or t k 0 ≤ cap k → Fits
  count_fit l = le-leb (get_or t k 0) (cap k) l

  -- a table that has as many rows as it means entries
  module _ {A : Type 0} (words : A → List ℕ) (at : ℕ → A) where
    abbrev xs : List A
    xs = tabulate 0 (count t k) at

    long : length (map words xs) ≡ count t k
    long = length-map words xs ∙ tabulate-length 0 (count t k) at

    said : Fits → rows_say t k 0 (map words xs) ≡ true → table_says t k (map words xs) ≡ true
    unfolding table_says
    said e r = and_of (eq-eqb (get_or t k 0) (length (map words xs)) (fit_count e ∙ sym long)) r

    fits_of : table_says t k (map words xs) ≡ true → Fits
    unfolding table_says
    fits_of e =
        let p = and_true (eqb (get_or t k 0) (length (map words xs))) _ e in
        count_fit (omega (arith, eqb-true (get_or t k 0) (length (map words xs)) p.0, long, count_low t k))

    rows_of : table_says t k (map words xs) ≡ true → rows_say t k 0 (map words xs) ≡ true
    unfolding table_says
    rows_of e = (and_true (eqb (get_or t k 0) (length (map words xs))) _ e).1

  -- it has no more than it holds
  module _ {A : Type 0} (test : A → Bool) (at : ℕ → A) where
    few : leb (length (tabulate 0 (count t k) at)) (cap k) ≡ true
    few = le-leb (length (tabulate 0 (count t k) at)) (cap k) (omega (arith, tabulate-length 0 (count t k) at, count_low t k))

    passes : all_pass test (tabulate 0 (count t k) at) ≡ true → table_passes test (cap k) (tabulate 0 (count t k) at) ≡ true
    unfolding table_passes
    passes e = and_of few e

    pass_of : table_passes test (cap k) (tabulate 0 (count t k) at) ≡ true → all_pass test (tabulate 0 (count t k) at) ≡ true
    unfolding table_passes
    pass_of e = (and_true (leb (length (tabulate 0 (count t k) at)) (cap k)) _ e).1

-- every table's count fits
counts-told : (t : List ℕ) (k n j : ℕ) → counts_fit t k n ≡ true → k ≤ j → j < k + n → Fits t j
unfolding counts_fit
counts-told t k zero j e a b = absurd (omega arith)
counts-told t k (suc n) j e a b =
    let p = and_true (leb (get_or t k 0) (cap k)) (counts_fit t (suc k) n) e in
    elim (dec_lt k j) [
      | yes l ↦ counts-told t (suc k) n j p.1 (omega arith) (omega arith)
      | no l ↦ subst (Fits t) (let z : k ≡ j = omega arith in z) p.0
    ]

rows_long : (a b : ℕ) (cs : List Code) → length (chunk_rows a b cs) ≡ length cs
unfolding chunk_rows
rows_long a b [] = refl
rows_long a b (c ∷ cs) = ap suc (rows_long (a + length c.consts) (b + length c.ops) cs)

-- ── Tables after one another ──────────────────────────────────────────────────────────────

module _ (t : List ℕ) {P Q : Type 0} {x y : Bytes} (c : Option Bytes) where
  then_tables : (k n : ℕ) → Says (rows_said t k 0 (count t k)) P x → Says (joined (tables_said t (suc k) n) c) Q y →
      Says (joined (tables_said t k (suc n)) c) (P × Q) (x ++ y)
  unfolding tables_said
  then_tables k n s r = says_by (joined-joined (rows_said t k 0 (count t k)) (tables_said t (suc k) n) c) (says_both s r)

no_tables : (t : List ℕ) (k : ℕ) {P : Type 0} {x : Bytes} (c : Option Bytes) → Says c P x → Says (joined (tables_said t k zero) c) P x
unfolding tables_said
no_tables t k c s = says_by (joined_nothing c) s

then_lines : (xs ys : List Line) (y : Bytes) → y ≡ lines_text ys → lines_text xs ++ y ≡ lines_text (xs ++ ys)
then_lines xs ys y e = ap (λ (l : Bytes). lines_text xs ++ l) e ∙ sym (lines_both xs ys)

-- each slot is one that a line says
slots_pass : (ss : List Slot) → all_pass (λ s. is_line (slot_line s)) ss ≡ true
unfolding all_pass is_line at_line at_slot admits
slots_pass [] = refl
slots_pass (shared ∷ ss) = slots_pass ss
slots_pass (private ∷ ss) = slots_pass ss

-- ── The module ────────────────────────────────────────────────────────────────────────────

-- what computes the module that tables mean, table by table
by_table : Unit {0}
unfolding module_of slots_of shareds_of privates_of enums_of natives_of sigs_of
by_table = tt

-- what the header, the tables 1 to 6 and the chunks have to say
module _ (t : List ℕ) where
  -- n rows say the entries that they mean, and each entry passes
  abbrev Rows : {A : Type 0} → ℕ → (A → List ℕ) → (A → Bool) → (ℕ → A) → Type 0
  Rows k words test at =
      (rows_say t k 0 (map words (tabulate 0 (count t k) at)) ≡ true) × (all_pass test (tabulate 0 (count t k) at) ≡ true)

  abbrev Parts : Type 0
  Parts =
      ((row_says t 0 0 (header_words (table_header t)) ≡ true) × (is_line (first_line (table_header t)) ≡ true))
      × (Rows 1 slot_words (λ s. is_line (slot_line s)) (slot_at t)
      × (Rows 2 shared_words (λ s. is_line (shared_line s)) (shared_at t)
      × (Rows 3 private_words (λ s. is_line (private_line s)) (private_at t)
      × (Rows 4 one_word (λ n. is_line (enum_line n)) (enum_at t)
      × (Rows 5 native_words (λ w. is_line (native_line w)) (native_at t)
      × (Rows 6 sig_words sig_passes (sig_at t)
      × Chunks t 0 0 0 (tabulate 0 (count t 7) (code_of t))))))))

  parts_text : Bytes
  parts_text =
      (line_text (first_line (table_header t)) ++ (10 ∷ []))
      ++ (lines_text (map slot_line (slots_of t))
      ++ (lines_text (map shared_line (shareds_of t))
      ++ (lines_text (map private_line (privates_of t))
      ++ (lines_text (map enum_line (enums_of t))
      ++ (lines_text (map native_line (natives_of t))
      ++ (lines_text (map sig_line (sigs_of t))
      ++ lines_text (chunks_lines (tabulate 0 (count t 7) (code_of t)))))))))

  parts_said : Option Bytes
  parts_said = joined (line_said t 0 0) (joined (tables_said t 1 6) (chunks_said t 0 0 0 (count t 7)))

  parts_told : Says parts_said Parts parts_text
  unfolding parts_said parts_text by_table entry_said
  parts_told =
      let c = chunks_said t 0 0 0 (count t 7) in
      says_both (header_says t)
      (then_tables t c 1 5 (rows_told t 1 slot_line slot_words (λ s. is_line (slot_line s)) (slot_at t) (slot_says t) 0 (count t 1))
      (then_tables t c 2 4 (rows_told t 2 shared_line shared_words (λ s. is_line (shared_line s)) (shared_at t) (shared_says t) 0 (count t 2))
      (then_tables t c 3 3 (rows_told t 3 private_line private_words (λ s. is_line (private_line s)) (private_at t) (private_says t) 0 (count t 3))
      (then_tables t c 4 2 (rows_told t 4 enum_line one_word (λ n. is_line (enum_line n)) (enum_at t) (enum_says t) 0 (count t 4))
      (then_tables t c 5 1 (rows_told t 5 native_line native_words (λ w. is_line (native_line w)) (native_at t) (native_says t) 0 (count t 5))
      (then_tables t c 6 0 (rows_told t 6 sig_line sig_words sig_passes (sig_at t) (sig_says t) 0 (count t 6))
      (no_tables t 7 c (chunks_told t 0 0 0 (count t 7) (omega arith) (omega arith)))))))))

  listing_is : parts_text ≡ listing_of (module_of t)
  unfolding parts_text listing_of lines_of lines_text module_of
  listing_is =
      append_assoc (line_text (first_line (table_header t))) (10 ∷ []) _
      ∙ ap (λ (l : Bytes). line_text (first_line (table_header t)) ++ (10 ∷ l))
      (then_lines (map slot_line (slots_of t)) _ _
      (then_lines (map shared_line (shareds_of t)) _ _
      (then_lines (map private_line (privates_of t)) _ _
      (then_lines (map enum_line (enums_of t)) _ _
      (then_lines (map native_line (natives_of t)) _ _ (then_lines (map sig_line (sigs_of t)) (chunks_lines (tabulate 0 (count t 7) (code_of t))) _ refl))))))

  header_told : row_says t 0 0 (header_words (table_header t)) ≡ true → (cell t 0 0 6 ≡ (table_header t).index_trap) × (cell t 0 0 7 ≡ (table_header t).host_trap)
  unfolding by_row header_words
  header_told e =
      let r = row_told t 0 0 (header_words (table_header t)) e in
      let s = rest-same (rest-same (rest-same (rest-same (rest-same r)))) in
      (head_same s, head_same (rest-same s))

  cs : List Code
  cs = tabulate 0 (count t 7) (code_of t)

  chunks_long : length (chunk_rows 0 0 cs) ≡ count t 7
  unfolding cs
  chunks_long = rows_long 0 0 cs ∙ tabulate-length 0 (count t 7) (code_of t)

  module _ (e : is_headed t && counts_fit t 1 9 ≡ true) (p : Parts) where
    headed : is_headed t ≡ true
    headed = (and_true (is_headed t) (counts_fit t 1 9) e).0

    fits : (k : ℕ) → 1 ≤ k → k < 10 → Fits t k
    fits k a b = counts-told t 1 9 k (and_true (is_headed t) (counts_fit t 1 9) e).1 a (omega arith)

    chunks : Chunks t 0 0 0 cs
    unfolding cs
    chunks = p.1.1.1.1.1.1.1

    exact_told : is_exact t ≡ true
    unfolding is_exact tables_say table_says rows_say lists header_rows by_table is_headed cs
    exact_told =
        and_of (and_of (and_true (eqb (get_or t 0 0) 1) _ headed).0 (and_of p.0.0 refl))
        (and_of (said t 1 slot_words (slot_at t) (fits 1 (omega arith) (omega arith)) p.1.0.0)
        (and_of (said t 2 shared_words (shared_at t) (fits 2 (omega arith) (omega arith)) p.1.1.0.0)
        (and_of (said t 3 private_words (private_at t) (fits 3 (omega arith) (omega arith)) p.1.1.1.0.0)
        (and_of (said t 4 one_word (enum_at t) (fits 4 (omega arith) (omega arith)) p.1.1.1.1.0.0)
        (and_of (said t 5 native_words (native_at t) (fits 5 (omega arith) (omega arith)) p.1.1.1.1.1.0.0)
        (and_of (said t 6 sig_words (sig_at t) (fits 6 (omega arith) (omega arith)) p.1.1.1.1.1.1.0.0)
        (and_of (and_of (eq-eqb (get_or t 7 0) (length (chunk_rows 0 0 cs)) (fit_count t 7 (fits 7 (omega arith) (omega arith)) ∙ sym chunks_long)) chunks.rows)
        (and_of (and_of (eq-eqb (get_or t 8 0) (length (map one_word (all_consts cs))) (omega (arith, chunks.consts_end, length-map one_word (all_consts cs)))) chunks.consts)
        (and_of (and_of (eq-eqb (get_or t 9 0) (length (map op_words (all_ops cs))) (omega (arith, chunks.ops_end, length-map op_words (all_ops cs)))) chunks.ops) refl)))))))))

    traps_differ : not (eqb (table_header t).index_trap (table_header t).host_trap) ≡ true
    unfolding is_headed
    traps_differ =
        let h = header_told p.0.0 in
        ap (λ (n : ℕ). not (eqb n (table_header t).host_trap)) (sym h.0) ∙ ap (λ (n : ℕ). not (eqb (cell t 0 0 6) n)) (sym h.1)
        ∙ (and_true (eqb (get_or t 0 0) 1) _ headed).1

    totals : totals_pass cs ≡ true
    unfolding totals_pass cap
    totals =
        let a : get_or t 8 0 ≤ 1024 = leb-true (get_or t 8 0) 1024 (fits 8 (omega arith) (omega arith)) in
        let b : get_or t 9 0 ≤ 4096 = leb-true (get_or t 9 0) 4096 (fits 9 (omega arith) (omega arith)) in
        and_of (le-leb (length (all_consts cs)) 1024 (omega (arith, chunks.consts_end))) (le-leb (length (all_ops cs)) 4096 (omega (arith, chunks.ops_end)))

    passes_told : module_passes (module_of t) ≡ true
    unfolding module_passes header_passes by_table cap cs
    passes_told =
        and_of (and_of p.0.1 traps_differ)
        (and_of (few t 1 (λ s. is_line (slot_line s)) (slot_at t))
        (and_of (passes t 2 (λ s. is_line (shared_line s)) (shared_at t) p.1.1.0.1)
        (and_of (passes t 3 (λ s. is_line (private_line s)) (private_at t) p.1.1.1.0.1)
        (and_of (passes t 4 (λ n. is_line (enum_line n)) (enum_at t) p.1.1.1.1.0.1)
        (and_of (passes t 5 (λ w. is_line (native_line w)) (native_at t) p.1.1.1.1.1.0.1)
        (and_of (passes t 6 sig_passes (sig_at t) p.1.1.1.1.1.1.0.1)
        (and_of (passes t 7 (code_passes (table_header t)) (code_of t) chunks.pass) totals)))))))

  -- the ten tables
  record Exact : Type 0 where
    header : table_says t 0 (header_words (table_header t) ∷ []) ≡ true
    slots : table_says t 1 (map slot_words (tabulate 0 (count t 1) (slot_at t))) ≡ true
    shareds : table_says t 2 (map shared_words (tabulate 0 (count t 2) (shared_at t))) ≡ true
    privates : table_says t 3 (map private_words (tabulate 0 (count t 3) (private_at t))) ≡ true
    enums : table_says t 4 (map one_word (tabulate 0 (count t 4) (enum_at t))) ≡ true
    natives : table_says t 5 (map native_words (tabulate 0 (count t 5) (native_at t))) ≡ true
    sigs : table_says t 6 (map sig_words (tabulate 0 (count t 6) (sig_at t))) ≡ true
    chunks : table_says t 7 (chunk_rows 0 0 cs) ≡ true
    consts : table_says t 8 (map one_word (all_consts cs)) ≡ true
    ops : table_says t 9 (map op_words (all_ops cs)) ≡ true

  exact : is_exact t ≡ true → Exact
  unfolding is_exact tables_say lists header_rows by_table cs
  exact e =
      let a = and_true (table_says t 0 (header_words (table_header t) ∷ [])) _ e in
      let b = and_true (table_says t 1 (map slot_words (tabulate 0 (count t 1) (slot_at t)))) _ a.1 in
      let c = and_true (table_says t 2 (map shared_words (tabulate 0 (count t 2) (shared_at t)))) _ b.1 in
      let d = and_true (table_says t 3 (map private_words (tabulate 0 (count t 3) (private_at t)))) _ c.1 in
      let f = and_true (table_says t 4 (map one_word (tabulate 0 (count t 4) (enum_at t)))) _ d.1 in
      let g = and_true (table_says t 5 (map native_words (tabulate 0 (count t 5) (native_at t)))) _ f.1 in
      let h = and_true (table_says t 6 (map sig_words (tabulate 0 (count t 6) (sig_at t)))) _ g.1 in
      let i = and_true (table_says t 7 (chunk_rows 0 0 cs)) _ h.1 in
      let j = and_true (table_says t 8 (map one_word (all_consts cs))) _ i.1 in
      let k = and_true (table_says t 9 (map op_words (all_ops cs))) true j.1 in
      record {
        header = a.0;
        slots = b.0;
        shareds = c.0;
        privates = d.0;
        enums = f.0;
        natives = g.0;
        sigs = h.0;
        chunks = i.0;
        consts = j.0;
        ops = k.0;
      }

  -- the tests of its entries
  record Tested : Type 0 where
    header : is_line (first_line (table_header t)) ≡ true
    traps : not (eqb (table_header t).index_trap (table_header t).host_trap) ≡ true
    shareds : all_pass (λ s. is_line (shared_line s)) (tabulate 0 (count t 2) (shared_at t)) ≡ true
    privates : all_pass (λ s. is_line (private_line s)) (tabulate 0 (count t 3) (private_at t)) ≡ true
    enums : all_pass (λ n. is_line (enum_line n)) (tabulate 0 (count t 4) (enum_at t)) ≡ true
    natives : all_pass (λ w. is_line (native_line w)) (tabulate 0 (count t 5) (native_at t)) ≡ true
    sigs : all_pass sig_passes (tabulate 0 (count t 6) (sig_at t)) ≡ true
    chunks : all_pass (code_passes (table_header t)) cs ≡ true
    consts : length (all_consts cs) ≤ 1024
    ops : length (all_ops cs) ≤ 4096

  tested : module_passes (module_of t) ≡ true → Tested
  unfolding module_passes header_passes totals_pass by_table cap cs
  tested e =
      let a = and_true (header_passes (table_header t)) _ e in
      let z = and_true (is_line (first_line (table_header t))) _ a.0 in
      let b = and_true (leb (length (slots_of t)) 256) _ a.1 in
      let c = and_true (table_passes (λ s. is_line (shared_line s)) 256 (shareds_of t)) _ b.1 in
      let d = and_true (table_passes (λ s. is_line (private_line s)) 256 (privates_of t)) _ c.1 in
      let f = and_true (table_passes (λ n. is_line (enum_line n)) 64 (enums_of t)) _ d.1 in
      let g = and_true (table_passes (λ w. is_line (native_line w)) 64 (natives_of t)) _ f.1 in
      let h = and_true (table_passes sig_passes 64 (sigs_of t)) _ g.1 in
      let i = and_true (table_passes (code_passes (table_header t)) 64 cs) _ h.1 in
      let j = and_true (leb (length (all_consts cs)) 1024) _ i.1 in
      record {
        header = z.0;
        traps = z.1;
        shareds = pass_of t 2 (λ s. is_line (shared_line s)) (shared_at t) c.0;
        privates = pass_of t 3 (λ s. is_line (private_line s)) (private_at t) d.0;
        enums = pass_of t 4 (λ n. is_line (enum_line n)) (enum_at t) f.0;
        natives = pass_of t 5 (λ w. is_line (native_line w)) (native_at t) g.0;
        sigs = pass_of t 6 sig_passes (sig_at t) h.0;
        chunks = pass_of t 7 (code_passes (table_header t)) (code_of t) i.0;
        consts = leb-true (length (all_consts cs)) 1024 j.0;
        ops = leb-true (length (all_ops cs)) 4096 j.1;
      }

  counted : (k : ℕ) (rs : List (List ℕ)) → table_says t k rs ≡ true → (get_or t k 0 ≡ length rs) × (rows_say t k 0 rs ≡ true)
  unfolding table_says
  counted k rs e = let p = and_true (eqb (get_or t k 0) (length rs)) _ e in (eqb-true (get_or t k 0) (length rs) p.0, p.1)

  module _ (x : Exact) (y : Tested) where
    consts_counted : 0 + length (all_consts cs) ≡ get_or t 8 0
    consts_counted = omega (arith, (counted 8 (map one_word (all_consts cs)) x.consts).0, length-map one_word (all_consts cs))

    ops_counted : 0 + length (all_ops cs) ≡ get_or t 9 0
    ops_counted = omega (arith, (counted 9 (map op_words (all_ops cs)) x.ops).0, length-map op_words (all_ops cs))

    header_row : row_says t 0 0 (header_words (table_header t)) ≡ true
    unfolding rows_say
    header_row = (and_true (row_says t 0 0 (header_words (table_header t))) true (counted 0 (header_words (table_header t) ∷ []) x.header).1).0

    header_back : is_headed t ≡ true
    unfolding is_headed
    header_back =
        let h = header_told header_row in
        and_of (eq-eqb (get_or t 0 0) 1 (counted 0 (header_words (table_header t) ∷ []) x.header).0)
        (ap (λ (n : ℕ). not (eqb n (cell t 0 0 7))) h.0 ∙ ap (λ (n : ℕ). not (eqb (table_header t).index_trap n)) h.1 ∙ y.traps)

    counts_back : counts_fit t 1 9 ≡ true
    unfolding counts_fit cap
    counts_back =
        and_of (fits_of t 1 slot_words (slot_at t) x.slots)
        (and_of (fits_of t 2 shared_words (shared_at t) x.shareds)
        (and_of (fits_of t 3 private_words (private_at t) x.privates)
        (and_of (fits_of t 4 one_word (enum_at t) x.enums)
        (and_of (fits_of t 5 native_words (native_at t) x.natives)
        (and_of (fits_of t 6 sig_words (sig_at t) x.sigs)
        (and_of (le-leb (get_or t 7 0) 64 (omega (arith, (counted 7 (chunk_rows 0 0 cs) x.chunks).0, chunks_long, count_low t 7)))
        (and_of (le-leb (get_or t 8 0) 1024 (omega (arith, consts_counted, y.consts)))
        (and_of (le-leb (get_or t 9 0) 4096 (omega (arith, ops_counted, y.ops))) refl))))))))

    parts_back : Parts
    unfolding cs
    parts_back = (
      (header_row, y.header),
      (
        (rows_of t 1 slot_words (slot_at t) x.slots, slots_pass (tabulate 0 (count t 1) (slot_at t))),
        (
          (rows_of t 2 shared_words (shared_at t) x.shareds, y.shareds),
          (
            (rows_of t 3 private_words (private_at t) x.privates, y.privates),
            (
              (rows_of t 4 one_word (enum_at t) x.enums, y.enums),
              (
                (rows_of t 5 native_words (native_at t) x.natives, y.natives),
                (
                  (rows_of t 6 sig_words (sig_at t) x.sigs, y.sigs),
                  record {
                    rows = (counted 7 (chunk_rows 0 0 cs) x.chunks).1;
                    consts = (counted 8 (map one_word (all_consts cs)) x.consts).1;
                    ops = (counted 9 (map op_words (all_ops cs)) x.ops).1;
                    pass = y.chunks;
                    consts_end = consts_counted;
                    ops_end = ops_counted;
                  },
                ),
              ),
            ),
          ),
        ),
      ),
    )

-- The tables are written exactly where they say a module, word by word, that passes; and then as that module's listing.
pub module_says : (t : List ℕ) →
    Says (module_said t) ((is_exact t ≡ true) × (module_passes (module_of t) ≡ true)) (listing_of (module_of t))
unfolding module_said parts_said
module_says t =
    says_as (says_if (is_headed t && counts_fit t 1 9) (parts_said t) (λ e. parts_told t))
    (λ h. ((exact_told t h.0 h.1, passes_told t h.0 h.1), listing_is t))
    (λ h.
    let x = exact t h.0 in
    let y = tested t h.1 in
    (and_of (header_back t x y) (counts_back t x y), parts_back t x y))

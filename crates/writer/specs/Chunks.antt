-- The rows of a table, and the chunks: their lines are there exactly where the rows say what they mean, and each entry passes.
use Rattle.std.specs.Prelude.{◌≡◌, Bool, true, false, ◌&&◌, leb, eqb, get_or}
use Rattle.std.proofs.Math.Path.{refl, sym, ap}
use Rattle.std.proofs.Common.{◌∙◌, arith, add-zero}
use mathlib.Core.List.{List, [], ◌∷◌, ◌++◌, map, append_assoc}
use Prim.Native.Nat.{ℕ, zero, suc, ◌+◌, ◌≤◌}
use Rattle.std.proofs.Math.ListN.{length, length-append}
use borrow.Author.Tests.{le-leb, leb-true, eqb-true, eq-eqb}
use Rattle.definition.specs.Format.{Bytes, form}
use Rattle.definition.specs.Module.{Code, all_consts, all_ops}
use Rattle.definition.specs.Read.{Line, chunk_line, const_line, op_line, close_line, close_items, line_forms}
use Rattle.definition.specs.Write.{admits, all_pass, at_line, line_text, is_line, chunk_lines, chunks_lines, lines_text}
use Rattle.theorems.specs.Cover.{and_true}
use Rattle.theorems.specs.Direct.{op_passes, code_passes}
use Rattle.bytecode.specs.Lists.{limited, limited-same, limited_le, tabulate, tabulate-length}
use Rattle.bytecode.specs.Held.{one_word, op_words, chunk_words, chunk_rows}
use Rattle.bytecode.specs.Meaning.{cell, count, table_header, const_at, op_at, locals_at, locals_low, first_at, end_low, first_const, const_count, first_op}
use Rattle.bytecode.specs.Meaning.{op_count, code_of}
use Rattle.bytecode.specs.Exact.{row_says, rows_say}
use Rattle.listing.specs.Scan.{form_codes}
use Rattle.listing.specs.Agree.{as_words}
use Rattle.listing.specs.Forms.{line_fits}
use Rattle.writer.specs.Say.{entry_said, rows_said, close_said, chunk_said, chunk_follows, all_used, chunks_said}
use Rattle.writer.specs.Texts.{Says, says_as, says_some, says_both, says_if}
use Rattle.writer.specs.Lines.{and_of, both_same, head_same, rest-same, meant, form_says}
use Rattle.writer.specs.Entries.{by_row, row_told, row_tells, Told, const_says, chunk_says}
use Rattle.writer.specs.Instructions.{op_says}

-- ── Rows ──────────────────────────────────────────────────────────────────────────────────

module _ {A : Type 0} (t : List ℕ) (k : ℕ) (to : A → Line) (words : A → List ℕ) (test : A → Bool) (at : ℕ → A)
    (entry : (i : ℕ) → Told (entry_said t k i) t k i words test to (at i)) where
  -- n rows from number i on
  pub rows_told : (i n : ℕ) → Says (rows_said t k i n)
      ((rows_say t k i (map words (tabulate i n at)) ≡ true) × (all_pass test (tabulate i n at) ≡ true)) (lines_text (map to (tabulate i n at)))
  unfolding rows_said rows_say all_pass lines_text tabulate
  rows_told i zero = says_as (says_some []) (λ u. ((refl, refl), refl)) (λ u. tt)
  rows_told i (suc n) =
      says_as (says_both (entry i) (rows_told (suc i) n))
      (λ h. (
        (and_of h.0.0 h.1.0, and_of h.0.1 h.1.1),
        append_assoc (line_text (to (at i))) (10 ∷ []) (lines_text (map to (tabulate (suc i) n at))),
      ))
      (λ h.
      let p = and_true (row_says t k i (words (at i))) _ h.0 in
      let q = and_true (test (at i)) _ h.1 in
      ((p.0, q.0), (p.1, q.1)))

and_assoc : (a b c : Bool) → a && (b && c) ≡ (a && b) && c
and_assoc true b c = refl
and_assoc false b c = refl

rows_both : {A : Type 0} (words : A → List ℕ) (t : List ℕ) (k i : ℕ) (xs ys : List A) →
    rows_say t k i (map words (xs ++ ys)) ≡ rows_say t k i (map words xs) && rows_say t k (i + length xs) (map words ys)
unfolding rows_say
rows_both words t k i [] ys = ap (λ (n : ℕ). rows_say t k n (map words ys)) (sym (add-zero i))
rows_both words t k i (x ∷ xs) ys =
    ap (λ (b : Bool). row_says t k i (words x) && b)
    (rows_both words t k (suc i) xs ys
    ∙ ap (λ (n : ℕ). rows_say t k (suc i) (map words xs) && rows_say t k n (map words ys)) (let z : suc i + length xs ≡ i + suc (length xs) = omega arith in z))
    ∙ and_assoc (row_says t k i (words x)) (rows_say t k (suc i) (map words xs)) (rows_say t k (i + suc (length xs)) (map words ys))

-- ── Lines after one another ───────────────────────────────────────────────────────────────

pub lines_both : (xs ys : List Line) → lines_text (xs ++ ys) ≡ lines_text xs ++ lines_text ys
unfolding lines_text
lines_both [] ys = refl
lines_both (x ∷ xs) ys =
    ap (λ (l : Bytes). line_text x ++ (10 ∷ l)) (lines_both xs ys) ∙ sym (append_assoc (line_text x) (10 ∷ lines_text xs) (lines_text ys))

close_says : Says close_said (Unit {0}) (line_text close_line ++ (10 ∷ []))
unfolding close_said form_codes line_forms form meant as_words line_text is_line at_line admits
close_says =
    says_as (form_says 10 close_items [] close_line refl line_fits.1.1.1.1.1.1.1.1.1.1.0.known tt refl refl) (λ h. (tt, refl)) (λ u. (refl, refl))

-- a chunk's lines
chunk_text : Code → Bytes
chunk_text c =
    (line_text (chunk_line c.locals) ++ (10 ∷ []))
    ++ (lines_text (map const_line c.consts) ++ (lines_text (map op_line c.ops) ++ (line_text close_line ++ (10 ∷ []))))

chunk_written : (c : Code) (ls : List Line) → chunk_text c ++ lines_text ls ≡ lines_text (chunk_lines c ls)
unfolding chunk_text chunk_lines lines_text
chunk_written c ls =
    let h : Bytes = line_text (chunk_line c.locals) in
    let ks : List Line = map const_line c.consts in
    let os : List Line = map op_line c.ops in
    let z : Bytes = line_text close_line in
    append_assoc (h ++ (10 ∷ [])) (lines_text ks ++ (lines_text os ++ (z ++ (10 ∷ [])))) (lines_text ls)
    ∙ append_assoc h (10 ∷ []) ((lines_text ks ++ (lines_text os ++ (z ++ (10 ∷ [])))) ++ lines_text ls)
    ∙ ap (λ (l : Bytes). h ++ (10 ∷ l))
    (append_assoc (lines_text ks) (lines_text os ++ (z ++ (10 ∷ []))) (lines_text ls)
    ∙ ap (λ (l : Bytes). lines_text ks ++ l)
    (append_assoc (lines_text os) (z ++ (10 ∷ [])) (lines_text ls) ∙ ap (λ (l : Bytes). lines_text os ++ l) (append_assoc z (10 ∷ []) (lines_text ls))
    ∙ sym (lines_both os (close_line ∷ ls)))
    ∙ sym (lines_both ks (os ++ (close_line ∷ ls))))

-- ── A chunk ───────────────────────────────────────────────────────────────────────────────

module _ (t : List ℕ) (k a b : ℕ) where
  -- its row says where it begins
  record Follows : Type 0 where
    locals : leb (cell t 7 k 1) 32 ≡ true
    consts : cell t 7 k 2 ≡ a
    ops : cell t 7 k 3 ≡ b

  follows : chunk_follows t k a b ≡ true → Follows
  unfolding chunk_follows
  follows e =
      let p = and_true (leb (cell t 7 k 1) 32) _ e in
      let q = and_true (eqb (cell t 7 k 2) a) _ p.1 in
      record { locals = p.0; consts = eqb-true (cell t 7 k 2) a q.0; ops = eqb-true (cell t 7 k 3) b q.1 }

  row_follows : row_says t 7 k (chunk_words (locals_at t k) a b) ≡ true → chunk_follows t k a b ≡ true
  unfolding chunk_follows by_row chunk_words locals_at
  row_follows e =
      let r = row_told t 7 k (chunk_words (locals_at t k) a b) e in
      and_of (le-leb (cell t 7 k 1) 32 (omega (arith, head_same r, limited_le 32 (cell t 7 k 1))))
      (and_of (eq-eqb (cell t 7 k 2) a (head_same (rest-same r))) (eq-eqb (cell t 7 k 3) b (head_same (rest-same (rest-same r)))))

  follows_row : Follows → row_says t 7 k (chunk_words (locals_at t k) a b) ≡ true
  unfolding by_row chunk_words locals_at
  follows_row f =
      row_tells t 7 k (chunk_words (locals_at t k) a b)
      (both_same (sym (limited-same 32 (cell t 7 k 1) (leb-true (cell t 7 k 1) 32 f.locals))) (both_same f.consts (both_same f.ops refl)))

  module _ (low_consts : a ≤ count t 8) (low_ops : b ≤ count t 9) (f : Follows) where
    first_const_is : first_const t k ≡ a
    unfolding first_at
    first_const_is = ap (limited (count t 8)) f.consts ∙ limited-same (count t 8) a low_consts

    first_op_is : first_op t k ≡ b
    unfolding first_at
    first_op_is = ap (limited (count t 9)) f.ops ∙ limited-same (count t 9) b low_ops

    next_const : a + const_count t k ≤ count t 8
    next_const = omega (arith, first_const_is, end_low t 8 2 k)

    next_op : b + op_count t k ≤ count t 9
    next_op = omega (arith, first_op_is, end_low t 9 3 k)

    chunk_told : Says (chunk_said t k)
        ((rows_say t 8 a (map one_word (code_of t k).consts) ≡ true) × (rows_say t 9 b (map op_words (code_of t k).ops) ≡ true) × (code_passes (table_header t) (code_of t k) ≡ true))
        (chunk_text (code_of t k))
    unfolding chunk_said code_of code_passes chunk_text entry_said
    chunk_told =
        says_as
        (says_both (chunk_says t k f.locals)
        (says_both (rows_told t 8 const_line one_word (λ c. is_line (const_line c)) (const_at t) (const_says t) (first_const t k) (const_count t k))
        (says_both (rows_told t 9 op_line op_words (op_passes (table_header t)) (op_at t) (op_says t) (first_op t k) (op_count t k)) close_says)))
        (λ h. (
          (
            ap (λ (n : ℕ). rows_say t 8 n (map one_word (code_of t k).consts)) (sym first_const_is) ∙ h.1.0.0,
            ap (λ (n : ℕ). rows_say t 9 n (map op_words (code_of t k).ops)) (sym first_op_is) ∙ h.1.1.0.0,
            and_of (le-leb (locals_at t k) 32 (locals_low t k)) (and_of h.1.0.1 h.1.1.0.1),
          ),
          refl,
        ))
        (λ h.
        let p = and_true (leb (locals_at t k) 32) _ h.2 in
        let q = and_true (all_pass (λ c. is_line (const_line c)) (code_of t k).consts) _ p.1 in (
          tt,
          (
            (ap (λ (n : ℕ). rows_say t 8 n (map one_word (code_of t k).consts)) first_const_is ∙ h.0, q.0),
            ((ap (λ (n : ℕ). rows_say t 9 n (map op_words (code_of t k).ops)) first_op_is ∙ h.1, q.1), tt),
          ),
        ))

-- ── All chunks ────────────────────────────────────────────────────────────────────────────

-- Chunks from number k on, whose constants and instructions begin at a and b: the rows of all three tables say them, and end with them.
pub record Chunks (t : List ℕ) (k a b : ℕ) (cs : List Code) : Type 0 where
  pub rows : rows_say t 7 k (chunk_rows a b cs) ≡ true
  pub consts : rows_say t 8 a (map one_word (all_consts cs)) ≡ true
  pub ops : rows_say t 9 b (map op_words (all_ops cs)) ≡ true
  pub pass : all_pass (code_passes (table_header t)) cs ≡ true
  pub consts_end : a + length (all_consts cs) ≡ get_or t 8 0
  pub ops_end : b + length (all_ops cs) ≡ get_or t 9 0

-- one chunk, and those after it
module _ (t : List ℕ) (k a b : ℕ) (cs : List Code) where
  consts_long : length (code_of t k).consts ≡ const_count t k
  unfolding code_of
  consts_long = tabulate-length (first_const t k) (const_count t k) (const_at t)

  ops_long : length (code_of t k).ops ≡ op_count t k
  unfolding code_of
  ops_long = tabulate-length (first_op t k) (op_count t k) (op_at t)

  abbrev One : Type 0
  One =
      (rows_say t 8 a (map one_word (code_of t k).consts) ≡ true) × (rows_say t 9 b (map op_words (code_of t k).ops) ≡ true)
      × (code_passes (table_header t) (code_of t k) ≡ true)

  same_rows : rows_say t 7 (suc k) (chunk_rows (a + length (code_of t k).consts) (b + length (code_of t k).ops) cs)
      ≡ rows_say t 7 (suc k) (chunk_rows (a + const_count t k) (b + op_count t k) cs)
  same_rows = rw (consts_long, ops_long)

  same_consts : rows_say t 8 a (map one_word (all_consts (code_of t k ∷ cs)))
      ≡ rows_say t 8 a (map one_word (code_of t k).consts) && rows_say t 8 (a + const_count t k) (map one_word (all_consts cs))
  unfolding all_consts
  same_consts =
      rows_both one_word t 8 a (code_of t k).consts (all_consts cs)
      ∙ ap (λ (n : ℕ). rows_say t 8 a (map one_word (code_of t k).consts) && rows_say t 8 (a + n) (map one_word (all_consts cs))) consts_long

  same_ops : rows_say t 9 b (map op_words (all_ops (code_of t k ∷ cs)))
      ≡ rows_say t 9 b (map op_words (code_of t k).ops) && rows_say t 9 (b + op_count t k) (map op_words (all_ops cs))
  unfolding all_ops
  same_ops =
      rows_both op_words t 9 b (code_of t k).ops (all_ops cs)
      ∙ ap (λ (n : ℕ). rows_say t 9 b (map op_words (code_of t k).ops) && rows_say t 9 (b + n) (map op_words (all_ops cs))) ops_long

  all_consts_long : length (all_consts (code_of t k ∷ cs)) ≡ const_count t k + length (all_consts cs)
  unfolding all_consts
  all_consts_long = length-append (code_of t k).consts (all_consts cs) ∙ ap (λ (n : ℕ). n + length (all_consts cs)) consts_long

  all_ops_long : length (all_ops (code_of t k ∷ cs)) ≡ op_count t k + length (all_ops cs)
  unfolding all_ops
  all_ops_long = length-append (code_of t k).ops (all_ops cs) ∙ ap (λ (n : ℕ). n + length (all_ops cs)) ops_long

  more_chunks : chunk_follows t k a b ≡ true → One → Chunks t (suc k) (a + const_count t k) (b + op_count t k) cs → Chunks t k a b (code_of t k ∷ cs)
  unfolding rows_say chunk_rows all_pass code_of
  more_chunks e o r =
      record {
        rows = and_of (follows_row t k a b (follows t k a b e)) (same_rows ∙ r.rows);
        consts = same_consts ∙ and_of o.0 r.consts;
        ops = same_ops ∙ and_of o.1 r.ops;
        pass = and_of o.2 r.pass;
        consts_end = omega (arith, all_consts_long, r.consts_end);
        ops_end = omega (arith, all_ops_long, r.ops_end);
      }

  first_follows : Chunks t k a b (code_of t k ∷ cs) → chunk_follows t k a b ≡ true
  unfolding rows_say chunk_rows code_of
  first_follows r = row_follows t k a b (and_true (row_says t 7 k (chunk_words (locals_at t k) a b)) _ r.rows).0

  first_chunk : Chunks t k a b (code_of t k ∷ cs) → One
  unfolding all_pass
  first_chunk r = (
    (and_true (rows_say t 8 a (map one_word (code_of t k).consts)) _ (sym same_consts ∙ r.consts)).0,
    (and_true (rows_say t 9 b (map op_words (code_of t k).ops)) _ (sym same_ops ∙ r.ops)).0,
    (and_true (code_passes (table_header t) (code_of t k)) _ r.pass).0,
  )

  next_chunks : Chunks t k a b (code_of t k ∷ cs) → Chunks t (suc k) (a + const_count t k) (b + op_count t k) cs
  unfolding rows_say chunk_rows all_pass code_of
  next_chunks r =
      record {
        rows = sym same_rows ∙ (and_true (row_says t 7 k (chunk_words (locals_at t k) a b)) _ r.rows).1;
        consts = (and_true (rows_say t 8 a (map one_word (code_of t k).consts)) _ (sym same_consts ∙ r.consts)).1;
        ops = (and_true (rows_say t 9 b (map op_words (code_of t k).ops)) _ (sym same_ops ∙ r.ops)).1;
        pass = (and_true (code_passes (table_header t) (code_of t k)) _ r.pass).1;
        consts_end = omega (arith, all_consts_long, r.consts_end);
        ops_end = omega (arith, all_ops_long, r.ops_end);
      }

no_chunks : (t : List ℕ) (k a b : ℕ) → all_used t a b ≡ true → Chunks t k a b []
unfolding all_used rows_say chunk_rows all_consts all_ops all_pass
no_chunks t k a b e =
    let p = and_true (eqb (get_or t 8 0) a) _ e in
    record {
      rows = refl;
      consts = refl;
      ops = refl;
      pass = refl;
      consts_end = omega (arith, eqb-true (get_or t 8 0) a p.0);
      ops_end = omega (arith, eqb-true (get_or t 9 0) b p.1);
    }

chunks_end : (t : List ℕ) (k a b : ℕ) → Chunks t k a b [] → all_used t a b ≡ true
unfolding all_used all_consts all_ops
chunks_end t k a b r = and_of (eq-eqb (get_or t 8 0) a (omega (arith, r.consts_end))) (eq-eqb (get_or t 9 0) b (omega (arith, r.ops_end)))

pub chunks_told : (t : List ℕ) (k a b n : ℕ) → a ≤ count t 8 → b ≤ count t 9 →
    Says (chunks_said t k a b n) (Chunks t k a b (tabulate k n (code_of t))) (lines_text (chunks_lines (tabulate k n (code_of t))))
unfolding chunks_said tabulate chunks_lines lines_text
chunks_told t k a b zero p q =
    says_as (says_if (all_used t a b) close_said (λ e. close_says)) (λ h. (no_chunks t k a b h.0, refl)) (λ h. (chunks_end t k a b h, tt))
chunks_told t k a b (suc n) p q =
    let cs : List Code = tabulate (suc k) n (code_of t) in
    says_as
    (says_if (chunk_follows t k a b) _
    (λ e.
    let f = follows t k a b e in
    says_both (chunk_told t k a b p q f)
    (chunks_told t (suc k) (a + const_count t k) (b + op_count t k) n (next_const t k a b p q f) (next_op t k a b p q f))))
    (λ h. (more_chunks t k a b cs h.0 h.1.0 h.1.1, chunk_written (code_of t k) (chunks_lines cs)))
    (λ h. (first_follows t k a b cs h, (first_chunk t k a b cs h, next_chunks t k a b cs h)))

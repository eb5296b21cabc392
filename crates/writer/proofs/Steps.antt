-- What each function puts of the tables, and what is left after each turn of its loop. Assumes nothing.
use Rattle.std.proofs.Common.{◌≡◌, ◌≢◌, refl, sym, ap, ◌∙◌, Bool, true, false, ◌&&◌, List, [], ◌∷◌, ◌++◌, Some, None, ℕ, zero, suc, ◌+◌, ◌-◌, ◌≤◌, ◌<◌, leb, eqb, get_or, length, take, drop, arith, add-one, drop-cons}
use Rattle.std.proofs.Math.Dec.{T, leb→le}
use borrow.Author.Tests.{lt-ltb, le-ltb, ne_eqb}
use Rattle.std.proofs.Math.ListN.{drop_of_length-le}
use Rattle.std.proofs.Math.Seq.{take-length}
use Rattle.std.specs.Prelude.{Option as CodeOption}
use Rattle.std.specs.List.{list_all, range_with_len}
use Rattle.std.proofs.Math.Option.{Option, none, some}
use Rattle.definition.specs.Shapes.{is_lacking}
use Rattle.definition.specs.Format.{Bytes, bytes}
use Rattle.definition.specs.Read.{line_forms}
use Rattle.bytecode.specs.Tables.{tables, cap, cells, row_at, all_below, at_each, part-cells}
use Rattle.bytecode.specs.Meaning.{cell, count, table_header, maxima_of, const_count, op_count, first_const, first_op}
use Rattle.bytecode.specs.Names.{name_at}
use Rattle.listing.specs.declared.form.Form.{Form}
use Rattle.listing.specs.Forms.{form_number}
use Rattle.listing.specs.Scan.{form_codes, max_code}
use Rattle.text_out.specs.declared.Text.{Text}
use Rattle.text_out.specs.Text.{with_text}
use Rattle.text_out.proofs.Laws.{with_both}
use Rattle.writer.specs.Put.{joined, Puts}
use Rattle.writer.specs.Say.{say, form_said, Formed, line_said, close_said, number_said, operand_said, operands_said, op_said, entry_said, rows_said, tables_said}
use Rattle.writer.specs.Say.{chunk_said, chunk_follows, all_used, chunks_said, counts_fit, is_headed, module_said}
use Rattle.writer.proofs.Putting.{puts_all, puts_missing, puts_same, puts_both, puts_lost, Putting, putting_start, putting_more, putting_lost, putting_last, putting_done, putting_missing}

-- ── Words of a row ────────────────────────────────────────────────────────────────────────

-- a part of the tables
pub part_of : (t : List ℕ) (first end a n : ℕ) → first ≡ a → end ≡ a + n → a + n ≤ length t → take (end - first) (drop first t) ≡ cells t a n
part_of t first end a n e f h =
    ap (λ (m : ℕ). take m (drop first t)) (let z : end - first ≡ n = omega arith in z) ∙ ap (λ (x : ℕ). take n (drop x t)) e ∙ part-cells t a n h

low_cap : ℕ → Bool
low_cap k = leb (cap k) 4096

all_low : T (all_below tables low_cap)
unfolding all_below low_cap cap
all_low = tt

pub cap_most : (k : ℕ) → k < tables → cap k ≤ 4096
unfolding low_cap
cap_most k h = leb→le (cap k) 4096 (at_each tables low_cap all_low k h)

-- ── Lines ─────────────────────────────────────────────────────────────────────────────────

module _ (t : List ℕ) (k i head : ℕ) (e : head ≡ cell t k i 0) where
  pub puts_no_line : (a : Text) → Formed k head None → Puts a (line_said t k i) None a
  unfolding line_said form_said
  puts_no_line a g = rw (← e, g) (puts_missing a)

  module _ (r : Form × ℕ) (f : Formed k head (Some r)) (first end : ℕ) (s : first ≡ row_at k i + 1) (z : end ≡ first + r.1) (l : end ≤ length t) (a b : Text) where
    said : line_said t k i ≡ joined (say (get_or (form_codes line_forms) (form_number r.0) []) (take (end - first) (drop first t))) (some (10 ∷ []))
    unfolding line_said form_said
    said = rw (← e, f.0, f.1, ← (part_of t first end (row_at k i + 1) r.1 s (omega arith) (omega arith)))

    pub puts_line : (c : Text) → Puts a (say (get_or (form_codes line_forms) (form_number r.0) []) (take (end - first) (drop first t))) (Some tt) b → c ≡ with_text b (10 ∷ []) →
        Puts a (line_said t k i) (Some tt) c
    puts_line c v w = puts_same a c (sym said) (puts_both v (puts_all b c (10 ∷ []) w))

    pub puts_lost_line : Puts a (say (get_or (form_codes line_forms) (form_number r.0) []) (take (end - first) (drop first t))) None b → Puts a (line_said t k i) None b
    puts_lost_line v = puts_same a b (sym said) (puts_lost (some (10 ∷ [])) v)

module _ (a b : Text) where
  pub puts_close : (c : Text) → Puts a (say (get_or (form_codes line_forms) 10 []) []) (Some tt) b → c ≡ with_text b (10 ∷ []) → Puts a close_said (Some tt) c
  unfolding close_said form_said
  puts_close c v w = puts_both v (puts_all b c (10 ∷ []) w)

  pub puts_lost_close : Puts a (say (get_or (form_codes line_forms) 10 []) []) None b → Puts a close_said None b
  unfolding close_said form_said
  puts_lost_close v = puts_lost (some (10 ∷ [])) v

-- ── Instructions ──────────────────────────────────────────────────────────────────────────

-- all letters of a name
pub with_name : (t : Text) (row n : ℕ) → n ≡ length (name_at row) → with_text t (take n (name_at row)) ≡ with_text t (name_at row)
with_name t row n e = ap (with_text t) (rw e (take-length (name_at row)))

first-left : (ws : List ℕ) (j : ℕ) → get_or (drop j ws) 0 0 ≡ get_or ws j 0
first-left [] zero = refl
first-left [] (suc j) = refl
first-left (w ∷ ws) zero = refl
first-left (w ∷ ws) (suc j) = first-left ws j

one_fewer : (ws : List ℕ) (j : ℕ) → drop 1 (drop j ws) ≡ drop (suc j) ws
one_fewer [] zero = refl
one_fewer [] (suc j) = refl
one_fewer (w ∷ ws) zero = refl
one_fewer (w ∷ ws) (suc j) = one_fewer ws j

-- the operands from number j on
module _ (float row : ℕ) (ws : List ℕ) where
  unfoldable pub operands_left : ℕ → Option Bytes
  operands_left j = operands_said float (drop j (maxima_of row)) (drop j ws)

  pub operands_more : (j m w : ℕ) → j < length (maxima_of row) → m ≡ get_or (maxima_of row) j 0 → w ≡ get_or ws j 0 → operands_left j ≡ joined (operand_said float m w) (operands_left (j + 1))
  unfolding operands_left operands_said
  operands_more j m w l e f =
      ap (λ (ms : List ℕ). operands_said float ms (drop j ws)) (drop-cons (maxima_of row) j 0 l)
      ∙ ap (λ (l : List ℕ). joined (operand_said float (get_or (maxima_of row) j 0) (get_or (drop j ws) 0 0)) (operands_said float (drop (suc j) (maxima_of row)) l)) (one_fewer ws j)
      ∙ ap (λ (x : ℕ). joined (operand_said float (get_or (maxima_of row) j 0) x) (operands_said float (drop (suc j) (maxima_of row)) (drop (suc j) ws))) (first-left ws j ∙ sym f)
      ∙ ap (λ (x : ℕ). joined (operand_said float x w) (operands_said float (drop (suc j) (maxima_of row)) (drop (suc j) ws))) (sym e)
      ∙ ap (λ (i : ℕ). joined (operand_said float m w) (operands_said float (drop i (maxima_of row)) (drop i ws))) (sym (add-one j))

  pub operands_end : (j : ℕ) → length (maxima_of row) ≤ j → operands_left j ≡ some []
  unfolding operands_left operands_said
  operands_end j l = ap (λ (ms : List ℕ). operands_said float ms (drop j ws)) (drop_of_length-le (maxima_of row) {i = j} l)

module _ (a t : Text) (float row : ℕ) (ws : List ℕ) (j : ℕ) (whole : Option Bytes) (p : Putting a t (operands_left float row ws j) whole) where
  pub puts_operands : length (maxima_of row) ≤ j → Puts a whole (Some tt) t
  puts_operands l = putting_done p (operands_end float row ws j l)

  module _ (m w : ℕ) (l : j < length (maxima_of row)) (e : m ≡ get_or (maxima_of row) j 0) (f : w ≡ get_or ws j 0) where
    pub puts_lacking : true ≡ (eqb m 7 && is_lacking float w) → Puts a whole None t
    unfolding operand_said joined
    puts_lacking y = putting_missing p (operands_more float row ws j m w l e f ∙ (rw (operand_said, sym y)))

    module _ (c : ℕ) (y : false ≡ (eqb m 7 && is_lacking float w)) (d : c ≡ max_code m) (b : Text) where
      known : operand_said float m w ≡ number_said c w
      unfolding operand_said
      known = rw (operand_said, ← y, d)

      pub puts_operand : Puts t (number_said c w) (Some tt) b → Putting a b (operands_left float row ws (j + 1)) whole
      puts_operand z = putting_more p (operands_more float row ws j m w l e f) (puts_same t b (sym known) z)

      pub puts_lost_operand : Puts t (number_said c w) None b → Puts a whole None b
      puts_lost_operand z = putting_lost p _ (operands_more float row ws j m w l e f) (puts_same t b (sym known) z)

pub puts_operands_start : (a : Text) (float row j : ℕ) (ws : List ℕ) → j ≡ 0 → Putting a a (operands_left float row ws j) (operands_said float (maxima_of row) ws)
unfolding operands_left
puts_operands_start a float row j ws e = rw e (putting_start a (operands_left float row ws 0))

module _ (t : List ℕ) (i c : ℕ) (d : c ≡ cell t 9 i 0) (a : Text) where
  pub puts_no_op : 75 ≤ c → Puts a (entry_said t 9 i) None a
  unfolding entry_said op_said
  puts_no_op h = rw (← d, op_said, le-ltb c 75 h) (puts_missing a)

  module _ (h : c < 75) (float first end : ℕ) (f : float ≡ (table_header t).float) (s : first ≡ row_at 9 i + 1) (z : end ≡ first + 3) (l : end ≤ length t) (b₁ b₂ b₃ : Text)
      (u : b₁ ≡ with_text a (bytes "(op ")) (v : b₂ ≡ with_text b₁ (name_at c)) where
    entry_is : op_said float c (take (end - first) (drop first t)) ≡ entry_said t 9 i
    unfolding entry_said
    entry_is = rw (f, d, part_of t first end (row_at 9 i + 1) 3 s (omega arith) (omega arith))

    op_is : joined (some (bytes "(op " ++ name_at c)) (joined (operands_said float (maxima_of c) (take (end - first) (drop first t))) (some (bytes ")" ++ (10 ∷ [])))) ≡ entry_said t 9 i
    unfolding op_said
    op_is = (rw (op_said, lt-ltb c 75 h)) ∙ entry_is

    pub puts_op : (b₄ b₅ : Text) → Puts b₂ (operands_said float (maxima_of c) (take (end - first) (drop first t))) (Some tt) b₃ → b₄ ≡ with_text b₃ (bytes ")") → b₅ ≡ with_text b₄ (10 ∷ []) →
        Puts a (entry_said t 9 i) (Some tt) b₅
    puts_op b₄ b₅ w x y = puts_same a b₅ op_is (puts_both (puts_all a b₂ _ (with_both _ _ _ _ _ u v)) (puts_both w (puts_all b₃ b₅ _ (with_both _ _ _ _ _ x y))))

    pub puts_lost_op : Puts b₂ (operands_said float (maxima_of c) (take (end - first) (drop first t))) None b₃ → Puts a (entry_said t 9 i) None b₃
    puts_lost_op w = puts_same a b₃ op_is (puts_both (puts_all a b₂ _ (with_both _ _ _ _ _ u v)) (puts_lost _ w))

-- ── Tables ────────────────────────────────────────────────────────────────────────────────

pub puts_entry : (t : List ℕ) (k i : ℕ) (a b : Text) (r : CodeOption (Unit {0})) → k ≢ 9 → Puts a (line_said t k i) r b → Puts a (entry_said t k i) r b
unfolding entry_said
puts_entry t k i a b r n w = rw (entry_said, ne_eqb k 9 n) w

module _ (t : List ℕ) (k first n : ℕ) where
  unfoldable pub rows_left : ℕ → Option Bytes
  rows_left i = rows_said t k i (first + n - i)

  pub rows_whole : rows_said t k first n ≡ rows_left first
  unfolding rows_left
  rows_whole = ap (rows_said t k first) (let z : n ≡ first + n - first = omega arith in z)

  pub rows_more : (i : ℕ) → i < first + n → rows_left i ≡ joined (entry_said t k i) (rows_left (i + 1))
  unfolding rows_left rows_said
  rows_more i h =
      ap (rows_said t k i) (let z : first + n - i ≡ suc (first + n - (i + 1)) = omega arith in z)
      ∙ ap (λ (x : ℕ). joined (entry_said t k i) (rows_said t k x (first + n - (i + 1)))) (sym (add-one i))

  pub rows_end : (i : ℕ) → first + n ≤ i → rows_left i ≡ some []
  unfolding rows_left rows_said
  rows_end i h = ap (rows_said t k i) (let z : first + n - i ≡ 0 = omega arith in z)

module _ (t : List ℕ) where
  unfoldable pub tables_left : ℕ → Option Bytes
  tables_left k = tables_said t k (7 - k)

  pub tables_whole : tables_said t 1 6 ≡ tables_left 1
  unfolding tables_left
  tables_whole = refl

  pub tables_more : (k n : ℕ) → k < 7 → n ≡ count t k → tables_left k ≡ joined (rows_said t k 0 n) (tables_left (k + 1))
  unfolding tables_left tables_said
  tables_more k n h e =
      ap (tables_said t k) (let z : 7 - k ≡ suc (7 - (k + 1)) = omega arith in z)
      ∙ ap (λ (x : ℕ). joined (rows_said t k 0 (count t k)) (tables_said t x (7 - (k + 1)))) (sym (add-one k))
      ∙ ap (λ (x : ℕ). joined (rows_said t k 0 x) (tables_said t (k + 1) (7 - (k + 1)))) (sym e)

  pub tables_end : (k : ℕ) → 7 ≤ k → tables_left k ≡ some []
  unfolding tables_left tables_said
  tables_end k h = ap (tables_said t k) (let z : 7 - k ≡ 0 = omega arith in z)

module _ (a t : Text) (ts : List ℕ) (whole : Option Bytes) where
  module _ (k first n i : ℕ) where
    pub puts_rows_start : i ≡ first → Putting a a (rows_left ts k first n i) (rows_said ts k first n)
    puts_rows_start e = rw (e, ← (rows_whole ts k first n)) (putting_start a (rows_said ts k first n))

    module _ (p : Putting a t (rows_left ts k first n i) whole) where
      pub puts_row : (b : Text) → i < first + n → Puts t (entry_said ts k i) (Some tt) b → Putting a b (rows_left ts k first n (i + 1)) whole
      puts_row b h w = putting_more p (rows_more ts k first n i h) w

      pub puts_lost_row : (b : Text) → i < first + n → Puts t (entry_said ts k i) None b → Puts a whole None b
      puts_lost_row b h w = putting_lost p _ (rows_more ts k first n i h) w

      pub puts_rows : first + n ≤ i → Puts a whole (Some tt) t
      puts_rows h = putting_done p (rows_end ts k first n i h)

  module _ (k : ℕ) where
    pub puts_tables_start : k ≡ 1 → Putting a a (tables_left ts k) (tables_said ts 1 6)
    puts_tables_start e = rw (e, ← (tables_whole ts)) (putting_start a (tables_said ts 1 6))

    module _ (p : Putting a t (tables_left ts k) whole) where
      pub puts_table : (n : ℕ) (b : Text) → k < 7 → n ≡ count ts k → Puts t (rows_said ts k 0 n) (Some tt) b → Putting a b (tables_left ts (k + 1)) whole
      puts_table n b h e w = putting_more p (tables_more ts k n h e) w

      pub puts_lost_table : (n : ℕ) (b : Text) → k < 7 → n ≡ count ts k → Puts t (rows_said ts k 0 n) None b → Puts a whole None b
      puts_lost_table n b h e w = putting_lost p _ (tables_more ts k n h e) w

      pub puts_tables : 7 ≤ k → Puts a whole (Some tt) t
      puts_tables h = putting_done p (tables_end ts k h)

-- ── Chunks ────────────────────────────────────────────────────────────────────────────────

module _ (ts : List ℕ) (k m n c o : ℕ) (e : m ≡ first_const ts k) (f : n ≡ const_count ts k) (g : c ≡ first_op ts k) (h : o ≡ op_count ts k) (a b : Text) where
  chunk_is : joined (line_said ts 7 k) (joined (rows_said ts 8 m n) (joined (rows_said ts 9 c o) close_said)) ≡ chunk_said ts k
  unfolding chunk_said
  chunk_is = rw (e, f, g, h)

  module _ (u : Puts a (line_said ts 7 k) (Some tt) b) (d : Text) where
    pub puts_lost_constants : Puts b (rows_said ts 8 m n) None d → Puts a (chunk_said ts k) None d
    puts_lost_constants v = puts_same a d chunk_is (puts_both u (puts_lost _ v))

    module _ (v : Puts b (rows_said ts 8 m n) (Some tt) d) (x : Text) where
      pub puts_lost_instructions : Puts d (rows_said ts 9 c o) None x → Puts a (chunk_said ts k) None x
      puts_lost_instructions w = puts_same a x chunk_is (puts_both u (puts_both v (puts_lost _ w)))

      pub puts_chunk : (y : Text) (r : CodeOption (Unit {0})) → Puts d (rows_said ts 9 c o) (Some tt) x → Puts x close_said r y → Puts a (chunk_said ts k) r y
      puts_chunk y r w z = puts_same a y chunk_is (puts_both u (puts_both v (puts_both w z)))

pub puts_lost_chunk_line : (ts : List ℕ) (k : ℕ) (a b : Text) → Puts a (line_said ts 7 k) None b → Puts a (chunk_said ts k) None b
unfolding chunk_said
puts_lost_chunk_line ts k a b u = puts_lost _ u

module _ (t : List ℕ) (n : ℕ) where
  unfoldable pub chunks_left : ℕ → ℕ → ℕ → Option Bytes
  chunks_left k a b = chunks_said t k a b (n - k)

  chunks_one : (k a b : ℕ) → k < n → chunks_left k a b ≡ chunks_said t k a b (suc (n - (k + 1)))
  unfolding chunks_left
  chunks_one k a b h = ap (chunks_said t k a b) (let z : n - k ≡ suc (n - (k + 1)) = omega arith in z)

  chunk_on : (k a b m : ℕ) → true ≡ chunk_follows t k a b →
      chunks_said t k a b (suc m) ≡ joined (chunk_said t k) (chunks_said t (suc k) (a + const_count t k) (b + op_count t k) m)
  unfolding chunks_said
  chunk_on k a b m e = rw (chunks_said, sym e)

  chunk_off : (k a b m : ℕ) → false ≡ chunk_follows t k a b → chunks_said t k a b (suc m) ≡ none
  unfolding chunks_said
  chunk_off k a b m e = rw (chunks_said, sym e)

  pub chunks_more : (k a b x y : ℕ) → k < n → true ≡ chunk_follows t k a b → x ≡ a + const_count t k → y ≡ b + op_count t k →
      chunks_left k a b ≡ joined (chunk_said t k) (chunks_left (k + 1) x y)
  unfolding chunks_left
  chunks_more k a b x y h e f g =
      chunks_one k a b h
      ∙ chunk_on k a b (n - (k + 1)) e
      ∙ ap (λ (i : ℕ). joined (chunk_said t k) (chunks_said t i (a + const_count t k) (b + op_count t k) (n - (k + 1)))) (sym (add-one k))
      ∙ (rw (f, g))

  pub chunks_lost : (k a b : ℕ) → k < n → false ≡ chunk_follows t k a b → chunks_left k a b ≡ none
  chunks_lost k a b h e = chunks_one k a b h ∙ chunk_off k a b (n - (k + 1)) e

  chunks_zero : (k a b : ℕ) → n ≤ k → chunks_left k a b ≡ chunks_said t k a b 0
  unfolding chunks_left
  chunks_zero k a b h = ap (chunks_said t k a b) (let z : n - k ≡ 0 = omega arith in z)

  pub chunks_end : (k a b : ℕ) → n ≤ k → true ≡ all_used t a b → chunks_left k a b ≡ close_said
  unfolding chunks_said
  chunks_end k a b h e = chunks_zero k a b h ∙ (rw (chunks_said, sym e))

  pub chunks_over : (k a b : ℕ) → n ≤ k → false ≡ all_used t a b → chunks_left k a b ≡ none
  unfolding chunks_said
  chunks_over k a b h e = chunks_zero k a b h ∙ (rw (chunks_said, sym e))

  pub chunks_whole : (m : ℕ) → m ≡ n → chunks_said t 0 0 0 m ≡ chunks_left 0 0 0
  unfolding chunks_left
  chunks_whole m e = ap (chunks_said t 0 0 0) (let z : m ≡ n - 0 = omega arith in z)

pub puts_chunks_start : (a : Text) (ts : List ℕ) (n k : ℕ) → k ≡ 0 → Putting a a (chunks_left ts n k 0 0) (chunks_said ts 0 0 0 n)
puts_chunks_start a ts n k e = rw (e, ← (chunks_whole ts n n refl)) (putting_start a (chunks_said ts 0 0 0 n))

module _ (a t : Text) (ts : List ℕ) (n k c o : ℕ) (whole : Option Bytes) (p : Putting a t (chunks_left ts n k c o) whole) where
  module _ (h : k < n) where
    pub puts_no_chunk : false ≡ chunk_follows ts k c o → Puts a whole None t
    puts_no_chunk e = putting_missing p (chunks_lost ts n k c o h e)

    module _ (e : true ≡ chunk_follows ts k c o) (b : Text) where
      pub puts_lost_chunk : Puts t (chunk_said ts k) None b → Puts a whole None b
      puts_lost_chunk w = putting_lost p _ (chunks_more ts n k c o _ _ h e refl refl) w

      pub puts_next_chunk : (x y : ℕ) → x ≡ const_count ts k → y ≡ op_count ts k → Puts t (chunk_said ts k) (Some tt) b → Putting a b (chunks_left ts n (k + 1) (c + x) (o + y)) whole
      puts_next_chunk x y f g w = putting_more p (chunks_more ts n k c o _ _ h e (rw f) (rw g)) w

  module _ (h : n ≤ k) where
    pub puts_unused : false ≡ all_used ts c o → Puts a whole None t
    puts_unused e = putting_missing p (chunks_over ts n k c o h e)

    pub puts_chunks : true ≡ all_used ts c o → (b : Text) (r : CodeOption (Unit {0})) → Puts t close_said r b → Puts a whole r b
    puts_chunks e b r w = putting_last p (puts_same t b (sym (chunks_end ts n k c o h e)) w)

-- ── The module ────────────────────────────────────────────────────────────────────────────

-- no more rows in a table than it holds
abbrev pub fits_table : List ℕ → ℕ → Bool
fits_table t k = leb (get_or t k 0) (cap k)

pub counts_all : (t : List ℕ) (k n : ℕ) → list_all (fits_table t) (range_with_len k n) ≡ counts_fit t k n
unfolding counts_fit
counts_all t k zero = refl
counts_all t k (suc n) = ap (λ (b : Bool). fits_table t k && b) (rw (add-one k) (counts_all t (suc k) n))

module _ (ts : List ℕ) (a : Text) where
  pub puts_no_module : is_headed ts && counts_fit ts 1 9 ≡ false → Puts a (module_said ts) None a
  unfolding module_said
  puts_no_module e = rw (module_said, e) (puts_missing a)

  module _ (e : is_headed ts && counts_fit ts 1 9 ≡ true) (b : Text) where
    module_is : module_said ts ≡ joined (line_said ts 0 0) (joined (tables_said ts 1 6) (chunks_said ts 0 0 0 (count ts 7)))
    unfolding module_said
    module_is = rw (module_said, e)

    pub puts_lost_header : Puts a (line_said ts 0 0) None b → Puts a (module_said ts) None b
    puts_lost_header u = puts_same a b (sym module_is) (puts_lost _ u)

    module _ (u : Puts a (line_said ts 0 0) (Some tt) b) (c : Text) where
      pub puts_lost_tables : Puts b (tables_said ts 1 6) None c → Puts a (module_said ts) None c
      puts_lost_tables v = puts_same a c (sym module_is) (puts_both u (puts_lost _ v))

      pub puts_module : (d : Text) (r : CodeOption (Unit {0})) → Puts b (tables_said ts 1 6) (Some tt) c → Puts c (chunks_said ts 0 0 0 (count ts 7)) r d → Puts a (module_said ts) r d
      puts_module d r v w = puts_same a d (sym module_is) (puts_both u (puts_both v w))

-- ── For each function of the code ─────────────────────────────────────────────────────────

pub ruleset line = (puts_no_line, puts_line, puts_lost_line)

pub ruleset close = (puts_close, puts_lost_close)

pub ruleset operands = (puts_operands_start, puts_operands, puts_operand, puts_lost_operand, puts_lacking)

pub ruleset op = (puts_op, puts_lost_op, puts_no_op)

pub ruleset rows = (puts_rows_start, puts_row, puts_lost_row, puts_rows, cap_most)

pub ruleset all_tables = (puts_tables_start, puts_table, puts_lost_table, puts_tables)

pub ruleset chunk = (puts_chunk, puts_lost_chunk_line, puts_lost_constants, puts_lost_instructions)

pub ruleset chunks = (puts_chunks_start, puts_next_chunk, puts_lost_chunk, puts_no_chunk, puts_chunks, puts_unused)

pub ruleset module_parts = (puts_no_module, puts_lost_header, puts_lost_tables, puts_module)

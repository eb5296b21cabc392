-- Lines: their words, those of a chunk or of all chunks one after another, and their length. Assumes nothing.
use Rattle.std.proofs.Common.{◌≡◌, refl, sym, ap, ◌∙◌, ℕ, zero, suc, ◌+◌, ◌-◌, ◌*◌, ◌^◌, ◌≤◌, ◌<◌, List, [], ◌∷◌, ◌++◌, map, take, length, get_or, arith, append_assoc, append-nil, length-append, add-zero, zero-add, add-one}
use Rattle.std.proofs.Math.Nat.{sub-zero}
use Rattle.std.specs.List.{flat_map}
use Rattle.std.proofs.lemmas.List.{take_more, flat_map_more}
use Rattle.definition.specs.Format.{Bytes, bytes, decimal}
use Rattle.definition.specs.Module.{Code, all_ops}
use Rattle.definition.specs.Check.{Answer, Checked}
use Rattle.definition.specs.Printed.{words, height_word, blind_word, print_ops, print_chunks, sizes, print_answer}
use Rattle.definition.specs.Write.{spaced}
use Rattle.theorems.specs.Decimal.{decimal_short}
use Rattle.bytecode.specs.Tables.{cap}
use Rattle.bytecode.specs.Lists.{tabulate, tabulate-length}
use Rattle.bytecode.specs.Meaning.{count, op_at, code_of, module_of, first_op, op_count, count_low}
use Rattle.sheets.specs.Totals.{chunks_counted}
use Rattle.text_out.specs.declared.Text.{Text}
use Rattle.text_out.specs.Text.{with_text}
use Rattle.text_out.proofs.Laws.{with_text_append}
use Rattle.printed.specs.Texts.{header, line, of_sheets, acceptance, accepted_text}

-- ── Words ─────────────────────────────────────────────────────────────────────────────────

pub words_spaced : (w : Bytes) (ns : List ℕ) → words (w ∷ map decimal ns) ≡ w ++ (flat_map spaced ns ++ 10 ∷ [])
unfolding words spaced
words_spaced w [] = refl
words_spaced w (n ∷ ns) =
    ap (λ (l : Bytes). w ++ (32 ∷ l)) (words_spaced (decimal n) ns ∙ sym (append_assoc (decimal n) (flat_map spaced ns) (10 ∷ [])))

pub with_more_numbers : (t : Text) (ns : List ℕ) (i : ℕ) → i < length ns → with_text t (flat_map spaced (take (i + 1) ns)) ≡ with_text (with_text t (flat_map spaced (take i ns))) (spaced (get_or ns i 0))
with_more_numbers t ns i h =
    ap (λ (l : List ℕ). with_text t (flat_map spaced l)) (take_more ns i 0 h)
    ∙ ap (with_text t) (sym (flat_map_more spaced [] (take i ns) (get_or ns i 0)))
    ∙ with_text_append t (flat_map spaced (take i ns)) (spaced (get_or ns i 0))

-- a number of 64 bits has at most 20 digits
pub numbers_short : (ns : List ℕ) → ((i : ℕ) → get_or ns i 0 < 2 ^ 64) → length (flat_map spaced ns) ≤ 21 * length ns
unfolding spaced
numbers_short [] f = omega arith
numbers_short (n ∷ ns) f =
    omega (arith, length-append (decimal n) (flat_map spaced ns), decimal_short 19 n (omega (arith, f 0)), numbers_short ns (λ i. f (suc i)))

pub refused_short : (ns : List ℕ) → length ns ≤ 8 → ((i : ℕ) → get_or ns i 0 < 2 ^ 64) → length (words (bytes "refused" ∷ map decimal ns)) ≤ 73746
unfolding bytes
refused_short ns l f =
    omega (arith, ap length (words_spaced (bytes "refused") ns), length-append (flat_map spaced ns) (10 ∷ []), numbers_short ns f)

pub height_none : (e : ℕ) → e < 1 → height_word e ≡ 45 ∷ []
unfolding height_word bytes
height_none zero h = refl
height_none (suc e) h = absurd (omega arith)

pub height_some : (e : ℕ) → 1 ≤ e → height_word e ≡ decimal (e - 1)
unfolding height_word
height_some zero h = absurd (omega arith)
height_some (suc e) h = ap decimal (let z : e ≡ suc e - 1 = omega arith in z)

pub blind_none : (e : ℕ) → e ≡ 0 → blind_word e ≡ bytes "plain"
unfolding blind_word
blind_none zero h = refl
blind_none (suc e) h = absurd (omega arith)

pub blind_some : (e : ℕ) → (e ≡ 0 → ⊥) → blind_word e ≡ bytes "blind"
unfolding blind_word
blind_some zero h = absurd (h refl)
blind_some (suc e) h = refl

-- ── One after another ─────────────────────────────────────────────────────────────────────

module _ (hs bs : List ℕ) where
  abbrev op_line : ℕ → ℕ → ℕ → Bytes
  op_line k base i = line k i (get_or hs (base + i) 0) (get_or bs (base + i) 0)

  abbrev ops_lines : ℕ → ℕ → ℕ → ℕ → Bytes
  ops_lines = print_ops (of_sheets hs bs)

  ops_from : (k base i n : ℕ) → ops_lines k base i (suc n) ≡ ops_lines k base i n ++ op_line k base (i + n)
  unfolding print_ops of_sheets line
  ops_from k base i zero = rw (add-zero i, append-nil)
  ops_from k base i (suc n) =
      let e : suc i + n ≡ i + suc n = omega arith in
      ap (λ (l : Bytes). op_line k base i ++ l) (ops_from k base (suc i) n ∙ ap (λ (m : ℕ). ops_lines k base (suc i) n ++ op_line k base m) e)
      ∙ sym (append_assoc (op_line k base i) (ops_lines k base (suc i) n) (op_line k base (i + suc n)))

  pub with_more_ops : (t : Text) (k base i : ℕ) → with_text t (print_ops (of_sheets hs bs) k base 0 (i + 1))
      ≡ with_text (with_text t (print_ops (of_sheets hs bs) k base 0 i)) (line k i (get_or hs (base + i) 0) (get_or bs (base + i) 0))
  with_more_ops t k base i =
      ap (λ (n : ℕ). with_text t (ops_lines k base 0 n)) (add-one i)
      ∙ ap (with_text t) (ops_from k base 0 i ∙ ap (λ (m : ℕ). ops_lines k base 0 i ++ op_line k base m) (zero-add i))
      ∙ with_text_append t (ops_lines k base 0 i) (op_line k base i)

-- The lines of the chunks from number k on, whose entries begin at `base`.
module _ (t hs bs : List ℕ) where
  unfoldable pub chunks_left : ℕ → ℕ → Bytes
  chunks_left k base = print_chunks (of_sheets hs bs) k base (sizes (tabulate k (count t 7 - k) (code_of t)))

  pub chunks_all : print_chunks (of_sheets hs bs) 0 0 (sizes (module_of t).chunks) ≡ chunks_left 0 0
  unfolding chunks_left module_of
  chunks_all = ap (λ (n : ℕ). print_chunks (of_sheets hs bs) 0 0 (sizes (tabulate 0 n (code_of t)))) (sym (sub-zero (count t 7)))

  module _ (k base : ℕ) where
    pub chunks_more : (n : ℕ) → n ≡ op_count t k → k < count t 7 → chunks_left k base ≡ print_ops (of_sheets hs bs) k base 0 n ++ chunks_left (k + 1) (base + n)
    unfolding chunks_left tabulate sizes print_chunks code_of
    chunks_more n e l =
        let z : count t 7 - k ≡ suc (count t 7 - (k + 1)) = omega arith in
        rw (z, tabulate-length (first_op t k) (op_count t k) (op_at t), e, add-one k)

    pub chunks_none : count t 7 ≤ k → chunks_left k base ≡ []
    unfolding chunks_left tabulate sizes print_chunks
    chunks_none l = let z : count t 7 - k ≡ 0 = omega arith in rw (z, tabulate)

-- ── Lengths ───────────────────────────────────────────────────────────────────────────────

height_short : (e : ℕ) → e < 256 → length (height_word e) ≤ 3
unfolding height_word bytes
height_short zero l = omega arith
height_short (suc e) l = decimal_short 2 e (omega arith)

blind_long : (e : ℕ) → length (blind_word e) ≡ 5
unfolding blind_word bytes
blind_long zero = refl
blind_long (suc e) = refl

line_short : (k i h b : ℕ) → k < 64 → i < 4096 → h < 256 → length (line k i h b) ≤ 18
unfolding line words
line_short k i h b p q r =
    simp (length-append, blind_long)
    (omega (arith, decimal_short 1 k (omega arith), decimal_short 3 i (omega arith), height_short h r))

header_short : (c n : ℕ) → c ≤ 64 → n ≤ 4096 → length (header c n) ≤ 18
unfolding header words bytes
header_short c n p q = simp length-append (omega (arith, decimal_short 1 c (omega arith), decimal_short 3 n (omega arith)))

module _ (hs bs : List ℕ) (low : (j : ℕ) → get_or hs j 0 < 256) where
  ops_short : (k base i n : ℕ) → k < 64 → i + n ≤ 4096 → length (print_ops (of_sheets hs bs) k base i n) ≤ 18 * n
  unfolding print_ops of_sheets line
  ops_short k base i zero p q = omega arith
  ops_short k base i (suc n) p q =
      let h = get_or hs (base + i) 0 in
      let b = get_or bs (base + i) 0 in
      omega (arith, length-append (line k i h b) (print_ops (of_sheets hs bs) k base (suc i) n), line_short k i h b p (omega arith) (low (base + i)), ops_short k base (suc i) n p (omega arith))

  chunks_short : (k base : ℕ) (cs : List Code) → k + length cs ≤ 64 → length (all_ops cs) ≤ 4096 → length (print_chunks (of_sheets hs bs) k base (sizes cs)) ≤ 18 * length (all_ops cs)
  unfolding print_chunks sizes all_ops
  chunks_short k base [] p q = omega arith
  chunks_short k base (c ∷ cs) p q =
      let n = length c.ops in
      let s = length-append c.ops (all_ops cs) in
      omega (arith, s, length-append (print_ops (of_sheets hs bs) k base 0 n) (print_chunks (of_sheets hs bs) (suc k) (base + n) (sizes cs)), ops_short k base 0 n (omega arith) (omega (arith, s)), chunks_short (suc k) (base + n) cs (omega arith) (omega (arith, s)))

-- ── The whole text ────────────────────────────────────────────────────────────────────────

-- The lines depend on the sheets alone.
module _ (a : Answer) (hs bs : List ℕ) where
  abbrev answered : Checked
  answered = record { answer = a; heights = hs; blinds = bs }

  ops_alone : (k base i n : ℕ) → print_ops answered k base i n ≡ print_ops (of_sheets hs bs) k base i n
  unfolding print_ops of_sheets line
  ops_alone k base i zero = refl
  ops_alone k base i (suc n) = ap (λ (t : Bytes). line k i (get_or hs (base + i) 0) (get_or bs (base + i) 0) ++ t) (ops_alone k base (suc i) n)

  chunks_alone : (k base : ℕ) (ns : List ℕ) → print_chunks answered k base ns ≡ print_chunks (of_sheets hs bs) k base ns
  unfolding print_chunks
  chunks_alone k base [] = refl
  chunks_alone k base (n ∷ ns) = rw (ops_alone k base 0 n, chunks_alone (suc k) (base + n) ns)

module _ (t hs bs : List ℕ) (c n : ℕ) (e : c ≡ count t 7) (f : n ≡ length (all_ops (module_of t).chunks)) where
  pub accepted_parts : header c n ++ print_chunks (of_sheets hs bs) 0 0 (sizes (module_of t).chunks) ≡ accepted_text t hs bs
  unfolding accepted_text acceptance print_answer header
  accepted_parts = rw (e, f, ← (chunks_counted t), ← (chunks_alone (acceptance t) hs bs 0 0 (sizes (module_of t).chunks)))

  pub accepted_short : n ≤ 4096 → ((j : ℕ) → get_or hs j 0 < 256) → length (accepted_text t hs bs) ≤ 73746
  unfolding cap
  accepted_short l low =
      omega (
        arith,
        ap length accepted_parts,
        length-append (header c n) (print_chunks (of_sheets hs bs) 0 0 (sizes (module_of t).chunks)),
        header_short c n (omega (arith, count_low t 7)) l,
        chunks_counted t,
        count_low t 7,
        chunks_short hs bs low 0 0 (module_of t).chunks (omega (arith, chunks_counted t, count_low t 7)) (omega arith),
      )

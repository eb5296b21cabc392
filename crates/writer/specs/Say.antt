-- The bytes that the words of tables are written as, by the reader's own codes of each line's form; none where a word says what no listing says there.
use Rattle.std.specs.Prelude.{◌≡◌, ◌≤◌, Bool, true, false, not, ◌&&◌, List, [], ◌∷◌, ◌++◌, ℕ, zero, suc, ◌+◌, leb, ltb, eqb, cond, get_or, drop, Option as CodeOption, Some, None}
use Rattle.std.proofs.Math.Option.{Option, none, some}
use Rattle.definition.specs.Basics.{choose}
use Rattle.definition.specs.Shapes.{is_lacking}
use Rattle.definition.specs.Format.{Bytes, bytes, provided}
use Rattle.definition.specs.Read.{line_forms}
use Rattle.definition.specs.Write.{spaced, shape_text}
use Rattle.bytecode.specs.Tables.{cap, cells, row_at, stride}
use Rattle.bytecode.specs.Held.{wire_word}
use Rattle.bytecode.specs.Meaning.{cell, count, table_header, word_wire, maxima_of, first_const, const_count, first_op, op_count}
use Rattle.bytecode.specs.Names.{name_at}
use Rattle.listing.specs.declared.form.Form.{Form}
use Rattle.listing.specs.Forms.{form_number}
use Rattle.listing.specs.Scan.{max_code, admitted, form_codes}
use Rattle.writer.specs.Put.{joined}

-- codes of the formats that are no number: a shape, and any number of shapes
abbrev pub shape_code : ℕ
shape_code = 140

abbrev pub shapes_code : ℕ
shapes_code = 141

-- ── Values ────────────────────────────────────────────────────────────────────────────────

-- a number that its code admits
unfoldable pub number_said : ℕ → ℕ → Option Bytes
number_said c w = provided (admitted c w) (spaced w)

-- a shape's word; another word means a shape too, and is not written as that
unfoldable pub shape_said : ℕ → Option Bytes
shape_said w = provided (eqb w (wire_word (word_wire w))) (shape_text (word_wire w))

unfoldable pub value_said : ℕ → ℕ → Option Bytes
value_said c w = elim (eqb c shape_code) [ true ↦ shape_said w | false ↦ elim (eqb c shapes_code) [ true ↦ shape_said w | false ↦ number_said c w ] ]

unfoldable pub first_said : ℕ → List ℕ → Option Bytes
first_said c [] = none
first_said c (w ∷ ws) = value_said c w

unfoldable pub shapes_said : List ℕ → Option Bytes
shapes_said [] = some []
shapes_said (w ∷ ws) = joined (shape_said w) (shapes_said ws)

-- ── Lines ─────────────────────────────────────────────────────────────────────────────────

-- the words by codes: one below 128 stands for itself, one of shapes takes all words that are left, any other takes one
unfoldable pub say : List ℕ → List ℕ → Option Bytes
say [] ws = some []
say (c ∷ cs) ws =
    elim (ltb c 128) [
      | true ↦ joined (some (c ∷ [])) (say cs ws)
      | false ↦ elim (eqb c shapes_code) [ true ↦ joined (shapes_said ws) (say cs []) | false ↦ joined (first_said c ws) (say cs (drop 1 ws)) ]
    ]

-- a line by its form, and its LF
unfoldable pub form_said : Option ℕ → List ℕ → Option Bytes
form_said none ws = none
form_said (some f) ws = joined (say (get_or (form_codes line_forms) f []) ws) (some (10 ∷ []))

-- a slot's form, by its word; that of a signature, by the number of its shapes
unfoldable pub slot_form : ℕ → Option ℕ
slot_form head = cond (eqb head 0) (some 1) (cond (eqb head 1) (some 2) none)

unfoldable pub sig_form : ℕ → Option ℕ
sig_form head = cond (leb 2 head && leb head 18) (some 7) none

-- the form of the line that a row of table k says, and how many values it has, by the row's first word
unfoldable pub row_form : ℕ → ℕ → Option ℕ
row_form k head =
    cond (eqb k 1) (slot_form head) (cond (eqb k 6) (sig_form head) (get_or (some 0 ∷ none ∷ some 3 ∷ some 4 ∷ some 5 ∷ some 6 ∷ none ∷ some 8 ∷ some 9 ∷ []) k none))

unfoldable pub row_values : ℕ → ℕ → ℕ
row_values k head = choose (eqb k 6) head (get_or (7 ∷ 0 ∷ 3 ∷ 2 ∷ 1 ∷ 1 ∷ 0 ∷ 1 ∷ 1 ∷ []) k 0)

-- A form and a number of values are those of the row's line, or it has none. The row has a word for each value.
abbrev pub Formed : ℕ → ℕ → CodeOption (Form × ℕ) → Type 0
Formed k head None = row_form k head ≡ none
Formed k head (Some r) = (row_form k head ≡ some (form_number r.0)) × (row_values k head ≡ r.1) × (r.1 + 1 ≤ stride k)

unfoldable pub line_said : List ℕ → ℕ → ℕ → Option Bytes
line_said t k i = let head = cell t k i 0 in form_said (row_form k head) (cells t (row_at k i + 1) (row_values k head))

-- ── Instructions ──────────────────────────────────────────────────────────────────────────

-- an operand up to its maximum, that names no kind that the module lacks
unfoldable pub operand_said : ℕ → ℕ → ℕ → Option Bytes
operand_said float m w = elim (eqb m 7 && is_lacking float w) [ true ↦ none | false ↦ number_said (max_code m) w ]

unfoldable pub operands_said : ℕ → List ℕ → List ℕ → Option Bytes
operands_said float [] ws = some []
operands_said float (m ∷ ms) ws = joined (operand_said float m (get_or ws 0 0)) (operands_said float ms (drop 1 ws))

unfoldable pub op_said : ℕ → ℕ → List ℕ → Option Bytes
op_said float c ws =
    elim (ltb c 75) [
      | true ↦ joined (some (bytes "(op " ++ name_at c)) (joined (operands_said float (maxima_of c) ws) (some (bytes ")" ++ (10 ∷ []))))
      | false ↦ none
    ]

-- ── Tables ────────────────────────────────────────────────────────────────────────────────

unfoldable pub entry_said : List ℕ → ℕ → ℕ → Option Bytes
entry_said t k i =
    elim (eqb k 9) [ true ↦ op_said (table_header t).float (cell t 9 i 0) (cells t (row_at 9 i + 1) 3) | false ↦ line_said t k i ]

-- n rows of table k from number i on
unfoldable pub rows_said : List ℕ → ℕ → ℕ → ℕ → Option Bytes
rows_said t k i zero = some []
rows_said t k i (suc n) = joined (entry_said t k i) (rows_said t k (suc i) n)

-- n tables from number k on
unfoldable pub tables_said : List ℕ → ℕ → ℕ → Option Bytes
tables_said t k zero = some []
tables_said t k (suc n) = joined (rows_said t k 0 (count t k)) (tables_said t (suc k) n)

-- the closing line
unfoldable pub close_said : Option Bytes
close_said = form_said (some 10) []

unfoldable pub chunk_said : List ℕ → ℕ → Option Bytes
chunk_said t k =
    joined (line_said t 7 k)
    (joined (rows_said t 8 (first_const t k) (const_count t k)) (joined (rows_said t 9 (first_op t k) (op_count t k)) close_said))

-- Chunk k has at most 32 locals, and its constants and instructions begin where those of the chunks before it end, at a and b.
unfoldable pub chunk_follows : List ℕ → ℕ → ℕ → ℕ → Bool
chunk_follows t k a b = leb (cell t 7 k 1) 32 && (eqb (cell t 7 k 2) a && eqb (cell t 7 k 3) b)

-- the tables have no further ones
unfoldable pub all_used : List ℕ → ℕ → ℕ → Bool
all_used t a b = eqb (get_or t 8 0) a && eqb (get_or t 9 0) b

-- n chunks from number k on, and the line that closes the module
unfoldable pub chunks_said : List ℕ → ℕ → ℕ → ℕ → ℕ → Option Bytes
chunks_said t k a b zero = elim (all_used t a b) [ true ↦ close_said | false ↦ none ]
chunks_said t k a b (suc n) =
    elim (chunk_follows t k a b) [
      | true ↦ joined (chunk_said t k) (chunks_said t (suc k) (a + const_count t k) (b + op_count t k) n)
      | false ↦ none
    ]

-- ── The module ────────────────────────────────────────────────────────────────────────────

-- no table from k on, of n, has more rows than it holds
unfoldable pub counts_fit : List ℕ → ℕ → ℕ → Bool
counts_fit t k zero = true
counts_fit t k (suc n) = leb (get_or t k 0) (cap k) && counts_fit t (suc k) n

-- one header, with unequal traps
unfoldable pub is_headed : List ℕ → Bool
is_headed t = eqb (get_or t 0 0) 1 && not (eqb (cell t 0 0 6) (cell t 0 0 7))

unfoldable pub module_said : List ℕ → Option Bytes
module_said t =
    elim (is_headed t && counts_fit t 1 9) [
      | true ↦ joined (line_said t 0 0) (joined (tables_said t 1 6) (chunks_said t 0 0 0 (count t 7)))
      | false ↦ none
    ]

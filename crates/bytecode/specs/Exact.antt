-- Tables that say exactly a module: each word in use equals what it means. 02, S-2, wants a module that no listing gives refused; tables with a word past
-- what a listing may say there mean a module by that word cut (Meaning), and to write that one would be to write another.
use Rattle.std.specs.Prelude.{◌≡◌, Bool, true, false, ◌&&◌, leb, eqb}
use Rattle.std.proofs.Math.Path.{refl, ap}
use Rattle.std.proofs.Common.{sym, ◌∙◌, add-zero, zero-add, eq-eqb, le-leb, drop_of_length-le}
use mathlib.Core.List.{List, [], ◌∷◌, map}
use Prim.Native.Nat.{ℕ, suc, ◌+◌, ◌-◌, ◌≤◌, ◌<◌}
use native.Mathlib.Omega.{arith}
use Rattle.std.proofs.Math.Decide.{dec_lt}
use Rattle.std.proofs.Math.ListN.{length, get_or, drop, length-drop}
use Rattle.std.proofs.Math.Seq.{take-length}
use Rattle.definition.specs.Basics.{choose, is_member}
use Rattle.definition.specs.Shapes.{Wire, same_places}
use Rattle.definition.specs.Instructions.{Sig}
use Rattle.definition.specs.Ops.{Op}
use Rattle.definition.specs.Module.{Slot, shared, private, Shared, Private, Code, Header, Module, all_consts, all_ops}
use Rattle.definition.specs.Read.{Reader}
use Rattle.bytecode.specs.Tables.{tables, stride, cells, cells_eq, row_at, part-cells}
use Rattle.bytecode.specs.Held.{Held, lists, held_count, cell_is, slot_words, header_words, header_rows, shared_words, private_words, one_word}
use Rattle.bytecode.specs.Held.{wire_word, length-map, native_words, sig_words, op_words, chunk_words, chunk_rows}
use Rattle.bytecode.specs.Lists.{All}
use Rattle.bytecode.specs.Meaning.{module_of, maxima_of}
use Rattle.bytecode.specs.Operands.{row_of}
use Rattle.bytecode.specs.Fits.{Within, SigFits, OpFits, ModuleFits}
use Rattle.bytecode.specs.Bridge.{ops_fit}

-- The first word in use of a row: in rows of slots, of signatures and of instructions the first, which in other rows only counts the values.
unfoldable pub first_used : ℕ → ℕ
first_used k = choose (is_member k (1 ∷ 6 ∷ 9 ∷ [])) 0 1

-- row i of table k says these words, in those of its words that are in use; what stands behind them is not
unfoldable pub row_says : List ℕ → ℕ → ℕ → List ℕ → Bool
row_says t k i ws =
    let us = drop (first_used k) ws in
    same_places (cells t (row_at k i + first_used k) (length us)) us

-- rows from number i on
unfoldable pub rows_say : List ℕ → ℕ → ℕ → List (List ℕ) → Bool
rows_say t k i [] = true
rows_say t k i (ws ∷ rs) = row_says t k i ws && rows_say t k (suc i) rs

-- Table k has so many rows, and they say these words.
unfoldable pub table_says : List ℕ → ℕ → List (List ℕ) → Bool
table_says t k rs = eqb (get_or t k 0) (length rs) && rows_say t k 0 rs

-- tables from number k on
unfoldable pub tables_say : List ℕ → ℕ → List (List (List ℕ)) → Bool
tables_say t k [] = true
tables_say t k (rs ∷ ls) = table_says t k rs && tables_say t (suc k) ls

-- a module as the reader has it after its last line
abbrev pub finished : Module → Reader
finished m = record { place = 10; so_far = m }

-- The tables hold the rows of the module that they mean. Counts are always in use: word 0 is 1, since a module has one header, and words 8 and 9 count the
-- constants and instructions of the chunks, so that none lies outside a chunk. A chunk's row says how many of them come before it.
unfoldable pub is_exact : List ℕ → Bool
is_exact t = tables_say t 0 (lists (finished (module_of t)))

-- ── Tables that hold a module say it exactly ──────────────────────────────────────────────

same_self : (xs : List ℕ) → same_places xs xs ≡ true
unfolding same_places
same_self [] = refl
same_self (x ∷ xs) = rw (eq-eqb x x refl) (same_self xs)

and_of : {a b : Bool} → a ≡ true → b ≡ true → a && b ≡ true
and_of {a} {b} p q = rw (p, q)

-- no row has more words than its table has room for
abbrev Short : ℕ → List (List ℕ) → Type 0
Short n rs = All (λ ws. length ws ≤ n) rs

short_map : {A : Type 0} (P : A → Type 0) (words : A → List ℕ) (n : ℕ) → ((x : A) → P x → length (words x) ≤ n) → (xs : List A) → All P xs → Short n (map words xs)
short_map P words n h [] ps = tt
short_map P words n h (x ∷ xs) ps = (h x ps.0, short_map P words n h xs ps.1)

any : {A : Type 0} (xs : List A) → All (λ x. Unit {0}) xs
any [] = tt
any (x ∷ xs) = (tt, any xs)

short_rows : (a b : ℕ) (cs : List Code) → Short 4 (chunk_rows a b cs)
unfolding chunk_rows chunk_words
short_rows a b [] = tt
short_rows a b (c ∷ cs) = (omega arith, short_rows (a + length c.consts) (b + length c.ops) cs)

within-length : (ms ns : List ℕ) → Within ms ns → length ns ≡ length ms
within-length [] [] w = refl
within-length [] (n ∷ ns) w = absurd w
within-length (m ∷ ms) [] w = absurd w
within-length (m ∷ ms) (n ∷ ns) w = ap suc (within-length ms ns w.1)

short_op : (o : Op) → OpFits o → length (op_words o) ≤ 4
unfolding op_words maxima_of
short_op o f = let q = row_of o.code f.code in omega (arith, within-length (maxima_of o.code) o.operands f.operands, ap length q.maxima, q.short)

short_sig : (g : Sig) → SigFits g → length (sig_words g) ≤ 19
unfolding sig_words
short_sig g f = omega (arith, length-map wire_word g.params, f.few)

header_short : (b : Bool) (x : Header) → Short 8 (header_rows b x)
unfolding header_rows header_words
header_short true x = (omega arith, tt)
header_short false x = tt

slot_short : (x : Slot) → length (slot_words x) ≤ 1
unfolding slot_words
slot_short shared = omega arith
slot_short private = omega arith

shared_short : (x : Shared) → length (shared_words x) ≤ 4
unfolding shared_words
shared_short x = omega arith

private_short : (x : Private) → length (private_words x) ≤ 3
unfolding private_words
private_short x = omega arith

one_short : (x : ℕ) → length (one_word x) ≤ 2
unfolding one_word
one_short x = omega arith

native_short : (x : Wire) → length (native_words x) ≤ 2
unfolding native_words
native_short x = omega arith

own-words : (f : ℕ) (ws : List ℕ) → cells ws f (length (drop f ws)) ≡ drop f ws
unfolding cells
own-words f ws = elim (dec_lt (length ws) f) [
  | yes p ↦ (rw (drop_of_length-le ws {i = f} (omega arith)))
  | no q ↦ sym (part-cells ws f (length (drop f ws)) (omega (arith, length-drop f ws))) ∙ take-length (drop f ws)
]

module _ (t : List ℕ) (ls : List (List (List ℕ))) (h : Held t ls) (k : ℕ) (l : k < tables) where
  row_held : (i : ℕ) (ws : List ℕ) → i < length (get_or ls k []) → get_or (get_or ls k []) i [] ≡ ws → length ws ≤ stride k → row_says t k i ws ≡ true
  unfolding row_says
  row_held i ws p e s =
      let f = first_used k in
      let n = length (drop f ws) in
      let m : length (drop f ws) ≡ length ws - f = length-drop f ws in
      let here : cells t (row_at k i + f) n ≡ cells ws f n =
      cells_eq t ws (row_at k i + f) f n
      (λ j q.
      ap (λ (x : ℕ). get_or t x 0) (let z : row_at k i + f + j ≡ row_at k i + (f + j) = omega arith in z)
      ∙ cell_is t ls k i (f + j) h l p (omega arith) ∙ ap (λ (r : List ℕ). get_or r (f + j) 0) e) in
      let own : cells ws f n ≡ drop f ws = own-words f ws in
      ap (λ (x : List ℕ). same_places x (drop f ws)) (here ∙ own) ∙ same_self (drop f ws)

  rows_held : (i : ℕ) (rs : List (List ℕ)) → i + length rs ≡ length (get_or ls k []) → ((j : ℕ) → j < length rs → get_or (get_or ls k []) (i + j) [] ≡ get_or rs j []) →
      Short (stride k) rs → rows_say t k i rs ≡ true
  unfolding rows_say
  rows_held i [] e g s = refl
  rows_held i (ws ∷ rs) e g s =
      and_of (row_held i ws (omega arith) (ap (λ (j : ℕ). get_or (get_or ls k []) j []) (sym (add-zero i)) ∙ g 0 (omega arith)) s.0)
      (rows_held (suc i) rs (omega arith)
      (λ j p. ap (λ (n : ℕ). get_or (get_or ls k []) n []) (let z : suc i + j ≡ i + suc j = omega arith in z) ∙ g (suc j) (omega arith)) s.1)

  table_held : Short (stride k) (get_or ls k []) → table_says t k (get_or ls k []) ≡ true
  unfolding table_says
  table_held s =
      and_of (eq-eqb (get_or t k 0) (length (get_or ls k [])) (held_count t ls k l h))
      (rows_held 0 (get_or ls k []) (omega arith) (λ j p. ap (λ (n : ℕ). get_or (get_or ls k []) n []) (zero-add j)) s)

-- the rows of a module do not hang on the place
at_end : (r : Reader) → 1 ≤ r.place → lists (finished r.so_far) ≡ lists r
unfolding lists
at_end r p = rw (le-leb 1 r.place p)

lists-held : (t : List ℕ) (r : Reader) → Held t (lists r) → ModuleFits r.so_far → tables_say t 0 (lists r) ≡ true
unfolding tables_say lists stride
lists-held t r h fit =
    and_of (table_held t (lists r) h 0 (omega arith) (header_short (leb 1 r.place) r.so_far.header))
    (and_of (table_held t (lists r) h 1 (omega arith) (short_map (λ x. Unit {0}) slot_words 1 (λ x u. slot_short x) r.so_far.slots (any r.so_far.slots)))
    (and_of (table_held t (lists r) h 2 (omega arith) (short_map (λ x. Unit {0}) shared_words 4 (λ x u. shared_short x) r.so_far.shareds (any r.so_far.shareds)))
    (and_of (table_held t (lists r) h 3 (omega arith) (short_map (λ x. Unit {0}) private_words 3 (λ x u. private_short x) r.so_far.privates (any r.so_far.privates)))
    (and_of (table_held t (lists r) h 4 (omega arith) (short_map (λ x. Unit {0}) one_word 2 (λ x u. one_short x) r.so_far.enums (any r.so_far.enums)))
    (and_of (table_held t (lists r) h 5 (omega arith) (short_map (λ x. Unit {0}) native_words 2 (λ x u. native_short x) r.so_far.natives (any r.so_far.natives)))
    (and_of (table_held t (lists r) h 6 (omega arith) (short_map SigFits sig_words 19 short_sig r.so_far.sigs fit.sigs))
    (and_of (table_held t (lists r) h 7 (omega arith) (short_rows 0 0 r.so_far.chunks))
    (and_of (table_held t (lists r) h 8 (omega arith) (short_map (λ x. Unit {0}) one_word 2 (λ x u. one_short x) (all_consts r.so_far.chunks) (any (all_consts r.so_far.chunks))))
    (and_of (table_held t (lists r) h 9 (omega arith) (short_map OpFits op_words 4 short_op (all_ops r.so_far.chunks) (ops_fit r.so_far.chunks fit.chunks))) refl)))))))))

-- What the reader leaves.
pub held_exact : (t : List ℕ) (r : Reader) → Held t (lists r) → 1 ≤ r.place → ModuleFits r.so_far → module_of t ≡ r.so_far → is_exact t ≡ true
unfolding is_exact
held_exact t r h p fit e = ap (λ (ls : List (List (List ℕ))). tables_say t 0 ls) same ∙ all_held
  where
    same : lists (finished (module_of t)) ≡ lists r
    same = ap (λ (m : Module). lists (finished m)) e ∙ at_end r p

    all_held : tables_say t 0 (lists r) ≡ true
    all_held = lists-held t r h fit

-- Tables without a header say no module.
pub none_exact : (t : List ℕ) → get_or t 0 0 ≡ 0 → is_exact t ≡ false
unfolding is_exact tables_say table_says lists header_rows
none_exact t e = rw e

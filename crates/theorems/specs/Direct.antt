-- The test whether some listing gives a module, table by table: what a writer has to look at.
use Rattle.std.specs.Prelude.{◌≡◌, Bool, true, false, not, ◌&&◌, ℕ, suc, ◌+◌, ◌≤◌, ◌<◌, leb, eqb}
use Rattle.std.proofs.Math.Path.{refl, ap, subst}
use Rattle.std.proofs.Common.{sym, ◌∙◌, arith}
use Rattle.std.proofs.Math.Option.{none, some}
use mathlib.Core.List.{List, [], ◌∷◌, ◌++◌, map, append_assoc, append-nil}
use borrow.Author.Tests.{le-leb, lt-ltb, ne_eqb, leb-true}
use Rattle.std.proofs.Math.ListN.{length, length-append}
use Rattle.definition.specs.Basics.{ok, ◌>>=◌, first, unless, pass, choose}
use Rattle.definition.specs.Shapes.{Wire}
use Rattle.definition.specs.Instructions.{Sig}
use Rattle.definition.specs.Format.{provided}
use Rattle.definition.specs.Ops.{Op, instr, named_kind, has_kind}
use Rattle.definition.specs.Module.{Slot, shared, private, Shared, Private, Code, Header, Module, all_consts, all_ops}
use Rattle.definition.specs.Read.{Line, first_line, slot_line, shared_line, private_line, enum_line, native_line, sig_line, chunk_line, const_line, op_line}
use Rattle.definition.specs.Read.{close_line, within, follow, limit, has_room, limits, add_const, add_op, add, Reader, at_start, or_line, take_line}
use Rattle.definition.specs.Write.{all_pass, is_line, at_line, at_slot, admits, chunk_lines, chunks_lines, lines_of, listing_of, lines_give, is_ok, is_given}
use Rattle.theorems.specs.Cover.{no_false, and_true}
use Rattle.theorems.specs.Each.{Each, both}
use Rattle.theorems.specs.Fits.{Fits, CodeFits, SigFits, HasKind, read_fits}
use Rattle.theorems.specs.Relisted.{given_reads, ok_of, last_one, code_of, gave, gives, ends}

-- ── The test ──────────────────────────────────────────────────────────────────────────────

-- no more entries than the table holds, and each passes
unfoldable pub table_passes : {A : Type 0} → (A → Bool) → ℕ → List A → Bool
table_passes t n xs = leb (length xs) n && all_pass t xs

-- a header that a first line may say
unfoldable pub header_passes : Header → Bool
header_passes h = is_line (first_line h) && not (eqb h.index_trap h.host_trap)

-- a signature of a line, with at most 16 parameters
unfoldable pub sig_passes : Sig → Bool
sig_passes g = is_line (sig_line g) && leb (length g.params) 16

-- an instruction of a line, that names no kind that the module lacks
unfoldable pub op_passes : Header → Op → Bool
op_passes h o = is_line (op_line o) && has_kind h.float (named_kind (instr o))

-- at most 32 locals, and constants and instructions of lines
unfoldable pub code_passes : Header → Code → Bool
code_passes h c = leb c.locals 32 && (all_pass (λ k. is_line (const_line k)) c.consts && all_pass (op_passes h) c.ops)

-- the constants and the instructions of all chunks
unfoldable pub totals_pass : List Code → Bool
totals_pass cs = leb (length (all_consts cs)) 1024 && leb (length (all_ops cs)) 4096

unfoldable pub module_passes : Module → Bool
module_passes m =
    header_passes m.header
    && (leb (length m.slots) 256
    && (table_passes (λ s. is_line (shared_line s)) 256 m.shareds
    && (table_passes (λ s. is_line (private_line s)) 256 m.privates
    && (table_passes (λ n. is_line (enum_line n)) 64 m.enums
    && (table_passes (λ w. is_line (native_line w)) 64 m.natives
    && (table_passes sig_passes 64 m.sigs
    && (table_passes (code_passes m.header) 64 m.chunks
    && totals_pass m.chunks)))))))

-- ── One line more ─────────────────────────────────────────────────────────────────────────

-- lines that give a module, whatever it is
abbrev Give : Reader → List Line → Type 0
Give r ls = (n : ℕ) → (m : Module) × (lines_give n r ls ≡ ok m)

abbrev reader : ℕ → Module → Reader
reader p m = record { place = p; so_far = m }

takes : (n p q : ℕ) (m : Module) (l : Line) → follow m.header p l ≡ some q → limits m l ≡ none → take_line n (reader p m) l ≡ ok (reader q (add m l))
unfolding or_line pass ◌>>=◌
takes n p q m l f e = rw (f, e)

give_more : (p q : ℕ) (m x : Module) (l : Line) (ls : List Line) → is_line l ≡ true → follow m.header p l ≡ some q → limits m l ≡ none → add m l ≡ x →
    Give (reader q x) ls → Give (reader p m) (l ∷ ls)
give_more p q m x l ls i f e a g n =
    let t : take_line n (reader p m) l ≡ ok (reader q x) = takes n p q m l f e ∙ ap (λ (z : Module). ok (reader q z)) a in
    let r = g (suc n) in
    (r.0, gives n (reader p m) l ls r.0 (record { says = i; then = reader q x; taken = t; rest = r.1 }))

-- a table's lines, from places up to its own
module _ {A : Type 0} (to : A → Line) (of : List A → Module) (h : Header) (test : A → Bool) (k cap : ℕ)
    (step : (xs : List A) (x : A) → add (of xs) (to x) ≡ of (xs ++ (x ∷ [])))
    (head : (xs : List A) → (of xs).header ≡ h)
    (says : (x : A) → test x ≡ true → is_line (to x) ≡ true)
    (goes : (p : ℕ) (x : A) → test x ≡ true → 1 ≤ p → p ≤ k → follow h p (to x) ≡ some k)
    (room : (xs : List A) (x : A) → test x ≡ true → length xs < cap → limits (of xs) (to x) ≡ none) where
  give_table : (xs ys : List A) (rest : List Line) → 1 ≤ k → length xs + length ys ≤ cap → all_pass test ys ≡ true →
      ((p : ℕ) → 1 ≤ p → p ≤ k → Give (reader p (of (xs ++ ys))) rest) → (p : ℕ) → 1 ≤ p → p ≤ k → Give (reader p (of xs)) (map to ys ++ rest)
  unfolding all_pass
  give_table xs [] rest low l t g p a b = subst (λ (zs : List A). Give (reader p (of zs)) rest) (append-nil xs) (g p a b)
  give_table xs (y ∷ ys) rest low l t g p a b =
      let e = and_true (test y) (all_pass test ys) t in
      let n : length (xs ++ (y ∷ [])) + length ys ≤ cap = omega (arith, length-append xs (y ∷ [])) in
      give_more p k (of xs) (of (xs ++ (y ∷ []))) (to y) (map to ys ++ rest) (says y e.0)
      (ap (λ (z : Header). follow z p (to y)) (head xs) ∙ goes p y e.0 a b) (room xs y e.0 (omega arith)) (step xs y)
      (give_table (xs ++ (y ∷ [])) ys rest low n e.1
      (λ q c d. subst (λ (zs : List A). Give (reader q (of zs)) rest) (sym (append_assoc xs (y ∷ []) ys)) (g q c d)) k low (omega arith))

and_of : {a b : Bool} → a ≡ true → b ≡ true → a && b ≡ true
and_of {a} {b} p q = rw (p, q)

has_none : {A : Type 0} (xs : List A) (n : ℕ) → length xs < n → has_room xs n ≡ none
unfolding has_room unless
has_none xs n l = rw (lt-ltb (length xs) n l)

at_place : (a b p q : ℕ) → a ≤ p → p ≤ b → provided (within a b p) q ≡ some q
unfolding within provided
at_place a b p q x y = rw (le-leb a p x, le-leb p b y)

at_place_and : (a b p q : ℕ) (t : Bool) → t ≡ true → a ≤ p → p ≤ b → provided (within a b p && t) q ≡ some q
unfolding within provided
at_place_and a b p q t e x y = rw (le-leb a p x, le-leb p b y, e)

slot_says : (s : Slot) → is_line (slot_line s) ≡ true
unfolding is_line at_line at_slot admits
slot_says shared = refl
slot_says private = refl

-- ── Chunks ────────────────────────────────────────────────────────────────────────────────

abbrev with_chunks : Module → List Code → Module
with_chunks m cs =
    record {
      header = m.header;
      slots = m.slots;
      shareds = m.shareds;
      privates = m.privates;
      enums = m.enums;
      natives = m.natives;
      sigs = m.sigs;
      chunks = cs;
    }

consts_append : (cs ds : List Code) → all_consts (cs ++ ds) ≡ all_consts cs ++ all_consts ds
unfolding all_consts
consts_append [] ds = refl
consts_append (c ∷ cs) ds = ap (λ (l : List ℕ). c.consts ++ l) (consts_append cs ds) ∙ sym (append_assoc c.consts (all_consts cs) (all_consts ds))

ops_append : (cs ds : List Code) → all_ops (cs ++ ds) ≡ all_ops cs ++ all_ops ds
unfolding all_ops
ops_append [] ds = refl
ops_append (c ∷ cs) ds = ap (λ (l : List Op). c.ops ++ l) (ops_append cs ds) ∙ sym (append_assoc c.ops (all_ops cs) (all_ops ds))

consts_count : (cs : List Code) (c : Code) (ds : List Code) → length (all_consts (cs ++ (c ∷ ds))) ≡ length (all_consts cs) + length c.consts + length (all_consts ds)
unfolding all_consts
consts_count cs c ds =
    omega (
      arith,
      ap length (consts_append cs (c ∷ ds)),
      length-append (all_consts cs) (c.consts ++ all_consts ds),
      length-append c.consts (all_consts ds),
    )

ops-count : (cs : List Code) (c : Code) (ds : List Code) → length (all_ops (cs ++ (c ∷ ds))) ≡ length (all_ops cs) + length c.ops + length (all_ops ds)
unfolding all_ops
ops-count cs c ds =
    omega (
      arith,
      ap length (ops_append cs (c ∷ ds)),
      length-append (all_ops cs) (c.ops ++ all_ops ds),
      length-append c.ops (all_ops ds),
    )

none_const : length (all_consts []) ≡ 0
unfolding all_consts
none_const = refl

none_op : length (all_ops []) ≡ 0
unfolding all_ops
none_op = refl

gt_leb : (p : ℕ) → p ≤ 7 → leb 8 p ≡ false
gt_leb p h = go (leb 8 p) refl
  where
    go : (x : Bool) → leb 8 p ≡ x → x ≡ false
    go true e = absurd (omega (arith, leb-true 8 p e))
    go false e = refl

chunk_none : {A : Type 0} (xs : List A) (n : ℕ) → length xs < 64 → n ≤ 32 → first (has_room xs 64) (unless (leb n 32) (limit 3)) ≡ none
unfolding first unless
chunk_none xs n l k = rw (has_none xs 64 l, le-leb n 32 k)

module _ (m : Module) where
  -- constants, at place 8
  give_consts : (cs : List Code) (n : ℕ) (ks js : List ℕ) (rest : List Line) → length (all_consts cs) + length ks + length js ≤ 1024 →
      all_pass (λ k. is_line (const_line k)) js ≡ true →
      Give (reader 8 (with_chunks m (cs ++ (code_of n (ks ++ js) [] ∷ [])))) rest →
      Give (reader 8 (with_chunks m (cs ++ (code_of n ks [] ∷ [])))) (map const_line js ++ rest)
  unfolding all_pass follow limits add add_const
  give_consts cs n ks [] rest l t g =
      subst (λ (zs : List ℕ). Give (reader 8 (with_chunks m (cs ++ (code_of n zs [] ∷ [])))) rest) (append-nil ks) g
  give_consts cs n ks (j ∷ js) rest l t g =
      let e = and_true (is_line (const_line j)) (all_pass (λ k. is_line (const_line k)) js) t in
      let c = consts_count cs (code_of n ks []) [] in
      let z : length (all_consts []) ≡ 0 = none_const in
      give_more 8 8 (with_chunks m (cs ++ (code_of n ks [] ∷ []))) (with_chunks m (cs ++ (code_of n (ks ++ (j ∷ [])) [] ∷ []))) (const_line j) (map const_line js ++ rest)
      e.0 (at_place 8 8 8 8 (omega arith) (omega arith))
      (has_none (all_consts (cs ++ (code_of n ks [] ∷ []))) 1024 (omega arith))
      (ap (with_chunks m) (last_one (add_const j) cs (code_of n ks [])))
      (give_consts cs n (ks ++ (j ∷ [])) js rest (omega (arith, length-append ks (j ∷ []))) e.1
      (subst (λ (zs : List ℕ). Give (reader 8 (with_chunks m (cs ++ (code_of n zs [] ∷ [])))) rest) (sym (append_assoc ks (j ∷ []) js)) g))

  -- instructions, from place 8 or 9
  give_ops : (cs : List Code) (n : ℕ) (ks : List ℕ) (os ps : List Op) (rest : List Line) → length (all_ops cs) + length os + length ps ≤ 4096 →
      all_pass (op_passes m.header) ps ≡ true →
      ((p : ℕ) → 8 ≤ p → p ≤ 9 → Give (reader p (with_chunks m (cs ++ (code_of n ks (os ++ ps) ∷ [])))) rest) → (p : ℕ) → 8 ≤ p → p ≤ 9 →
      Give (reader p (with_chunks m (cs ++ (code_of n ks os ∷ [])))) (map op_line ps ++ rest)
  unfolding all_pass follow limits add add_op op_passes
  give_ops cs n ks os [] rest l t g p a b =
      subst (λ (zs : List Op). Give (reader p (with_chunks m (cs ++ (code_of n ks zs ∷ [])))) rest) (append-nil os) (g p a b)
  give_ops cs n ks os (o ∷ ps) rest l t g p a b =
      let e = and_true (op_passes m.header o) (all_pass (op_passes m.header) ps) t in
      let f = and_true (is_line (op_line o)) (has_kind m.header.float (named_kind (instr o))) e.0 in
      let c = ops-count cs (code_of n ks os) [] in
      let z : length (all_ops []) ≡ 0 = none_op in
      give_more p 9 (with_chunks m (cs ++ (code_of n ks os ∷ []))) (with_chunks m (cs ++ (code_of n ks (os ++ (o ∷ [])) ∷ []))) (op_line o) (map op_line ps ++ rest)
      f.0 (at_place_and 8 9 p 9 _ f.1 a b)
      (has_none (all_ops (cs ++ (code_of n ks os ∷ []))) 4096 (omega arith))
      (ap (with_chunks m) (last_one (add_op o) cs (code_of n ks os)))
      (give_ops cs n ks (os ++ (o ∷ [])) ps rest (omega (arith, length-append os (o ∷ []))) e.1
      (λ q x y. subst (λ (zs : List Op). Give (reader q (with_chunks m (cs ++ (code_of n ks zs ∷ [])))) rest) (sym (append_assoc os (o ∷ []) ps)) (g q x y))
      9 (omega arith) (omega arith))

  -- the end of a chunk, at place 8 or 9, and of the module, at a place before
  chunk_ends : (p : ℕ) (ls : List Line) (x : Module) → 8 ≤ p → p ≤ 9 → Give (reader 7 x) ls → Give (reader p x) (close_line ∷ ls)
  unfolding follow limits add is_line at_line admits choose
  chunk_ends p ls x a b g =
      give_more p 7 x x close_line ls refl
      (at_place 1 9 p (choose (leb 8 p) 7 10) (omega arith) b ∙ (rw (le-leb 8 p a, choose))) refl refl g

  module_ends : (p : ℕ) (x : Module) → 1 ≤ p → p ≤ 7 → Give (reader p x) (close_line ∷ [])
  unfolding follow limits add is_line at_line admits choose
  module_ends p x a b =
      give_more p 10 x x close_line [] refl
      (at_place 1 9 p (choose (leb 8 p) 7 10) a (omega arith) ∙ (rw (gt_leb p b, choose))) refl refl (λ n. (x, ends n (reader 10 x) x refl refl))

  give_chunks : (cs ds : List Code) → length cs + length ds ≤ 64 → all_pass (code_passes m.header) ds ≡ true →
      length (all_consts (cs ++ ds)) ≤ 1024 → length (all_ops (cs ++ ds)) ≤ 4096 → (p : ℕ) → 1 ≤ p → p ≤ 7 → Give (reader p (with_chunks m cs)) (chunks_lines ds)
  unfolding chunks_lines chunk_lines all_pass code_passes follow limits first add is_line at_line admits
  give_chunks cs [] l t u v p a b = module_ends p (with_chunks m cs) a b
  give_chunks cs (d ∷ ds) l t u v p a b =
      let e = and_true (code_passes m.header d) (all_pass (code_passes m.header) ds) t in
      let f = and_true (leb d.locals 32) (all_pass (λ k. is_line (const_line k)) d.consts && all_pass (op_passes m.header) d.ops) e.0 in
      let g = and_true (all_pass (λ k. is_line (const_line k)) d.consts) (all_pass (op_passes m.header) d.ops) f.1 in
      let w = consts_count cs d ds in
      let z = ops-count cs d ds in
      let n : d.locals ≤ 32 = leb-true d.locals 32 f.0 in
      give_more p 8 (with_chunks m cs) (with_chunks m (cs ++ (code_of d.locals [] [] ∷ []))) (chunk_line d.locals) _
      (le-leb d.locals 65535 (omega arith)) (at_place 1 7 p 8 a b) (chunk_none cs d.locals (omega arith) n) refl
      (give_consts cs d.locals [] d.consts _ (omega arith) g.0
      (give_ops cs d.locals d.consts [] d.ops (close_line ∷ chunks_lines ds) (omega arith) g.1
      (λ q x y. chunk_ends q (chunks_lines ds) (with_chunks m (cs ++ (d ∷ []))) x y
      (give_chunks (cs ++ (d ∷ [])) ds (omega (arith, length-append cs (d ∷ []))) e.1
      (omega (arith, ap (λ (zs : List Code). length (all_consts zs)) (append_assoc cs (d ∷ []) ds)))
      (omega (arith, ap (λ (zs : List Code). length (all_ops zs)) (append_assoc cs (d ∷ []) ds)))
      7 (omega arith) (omega arith)))
      8 (omega arith) (omega arith)))

-- ── The whole module ──────────────────────────────────────────────────────────────────────

abbrev with_tables : Header → List Slot → List Shared → List Private → List ℕ → List Wire → List Sig → Module
with_tables h s r p e n g = record { header = h; slots = s; shareds = r; privates = p; enums = e; natives = n; sigs = g; chunks = [] }

sig_none : (gs : List Sig) (g : Sig) → length gs < 64 → leb (length g.params) 16 ≡ true →
    first (has_room gs 64) (unless (leb (length g.params) 16) (limit 2)) ≡ none
unfolding first unless
sig_none gs g l k = rw (has_none gs 64 l, k)

all_slots : (ss : List Slot) → all_pass (λ (s : Slot). true) ss ≡ true
unfolding all_pass
all_slots [] = refl
all_slots (s ∷ ss) = all_slots ss

-- the parts of the test
record Passes (m : Module) : Type 0 where
  header : header_passes m.header ≡ true
  slots : length m.slots ≤ 256
  shareds_few : length m.shareds ≤ 256
  shareds : all_pass (λ s. is_line (shared_line s)) m.shareds ≡ true
  privates_few : length m.privates ≤ 256
  privates : all_pass (λ s. is_line (private_line s)) m.privates ≡ true
  enums_few : length m.enums ≤ 64
  enums : all_pass (λ n. is_line (enum_line n)) m.enums ≡ true
  natives_few : length m.natives ≤ 64
  natives : all_pass (λ w. is_line (native_line w)) m.natives ≡ true
  sigs_few : length m.sigs ≤ 64
  sigs : all_pass sig_passes m.sigs ≡ true
  chunks_few : length m.chunks ≤ 64
  chunks : all_pass (code_passes m.header) m.chunks ≡ true
  consts : length (all_consts m.chunks) ≤ 1024
  ops : length (all_ops m.chunks) ≤ 4096

table_parts : {A : Type 0} (t : A → Bool) (n : ℕ) (xs : List A) → table_passes t n xs ≡ true → (length xs ≤ n) × (all_pass t xs ≡ true)
unfolding table_passes
table_parts t n xs e = let p = and_true (leb (length xs) n) (all_pass t xs) e in (leb-true (length xs) n p.0, p.1)

table-whole : {A : Type 0} (t : A → Bool) (n : ℕ) (xs : List A) → length xs ≤ n → all_pass t xs ≡ true → table_passes t n xs ≡ true
unfolding table_passes
table-whole t n xs l e = and_of (le-leb (length xs) n l) e

passes : (m : Module) → module_passes m ≡ true → Passes m
unfolding module_passes totals_pass
passes m e =
    let a = and_true (header_passes m.header) _ e in
    let b = and_true (leb (length m.slots) 256) _ a.1 in
    let c = and_true (table_passes (λ s. is_line (shared_line s)) 256 m.shareds) _ b.1 in
    let d = and_true (table_passes (λ s. is_line (private_line s)) 256 m.privates) _ c.1 in
    let f = and_true (table_passes (λ n. is_line (enum_line n)) 64 m.enums) _ d.1 in
    let g = and_true (table_passes (λ w. is_line (native_line w)) 64 m.natives) _ f.1 in
    let h = and_true (table_passes sig_passes 64 m.sigs) _ g.1 in
    let i = and_true (table_passes (code_passes m.header) 64 m.chunks) _ h.1 in
    let j = and_true (leb (length (all_consts m.chunks)) 1024) _ i.1 in
    let c' = table_parts (λ s. is_line (shared_line s)) 256 m.shareds c.0 in
    let d' = table_parts (λ s. is_line (private_line s)) 256 m.privates d.0 in
    let f' = table_parts (λ n. is_line (enum_line n)) 64 m.enums f.0 in
    let g' = table_parts (λ w. is_line (native_line w)) 64 m.natives g.0 in
    let h' = table_parts sig_passes 64 m.sigs h.0 in
    let i' = table_parts (code_passes m.header) 64 m.chunks i.0 in
    record {
      header = a.0;
      slots = leb-true (length m.slots) 256 b.0;
      shareds_few = c'.0;
      shareds = c'.1;
      privates_few = d'.0;
      privates = d'.1;
      enums_few = f'.0;
      enums = f'.1;
      natives_few = g'.0;
      natives = g'.1;
      sigs_few = h'.0;
      sigs = h'.1;
      chunks_few = i'.0;
      chunks = i'.1;
      consts = leb-true (length (all_consts m.chunks)) 1024 j.0;
      ops = leb-true (length (all_ops m.chunks)) 4096 j.1;
    }

passed : (m : Module) → Passes m → module_passes m ≡ true
unfolding module_passes totals_pass
passed m p =
    and_of p.header
    (and_of (le-leb (length m.slots) 256 p.slots)
    (and_of (table-whole (λ s. is_line (shared_line s)) 256 m.shareds p.shareds_few p.shareds)
    (and_of (table-whole (λ s. is_line (private_line s)) 256 m.privates p.privates_few p.privates)
    (and_of (table-whole (λ n. is_line (enum_line n)) 64 m.enums p.enums_few p.enums)
    (and_of (table-whole (λ w. is_line (native_line w)) 64 m.natives p.natives_few p.natives)
    (and_of (table-whole sig_passes 64 m.sigs p.sigs_few p.sigs)
    (and_of (table-whole (code_passes m.header) 64 m.chunks p.chunks_few p.chunks)
    (and_of (le-leb (length (all_consts m.chunks)) 1024 p.consts) (le-leb (length (all_ops m.chunks)) 4096 p.ops)))))))))

-- A module that passes is given by its lines.
give_module : (m : Module) → Passes m → Give at_start (lines_of m)
unfolding lines_of follow limits add header_passes sig_passes at_start
give_module m t =
    let h = m.header in
    let a = and_true (is_line (first_line h)) (not (eqb h.index_trap h.host_trap)) t.header in
    let f : provided {A = ℕ} (within 0 0 0 && not (eqb h.index_trap h.host_trap)) 1 ≡ some 1 = at_place_and 0 0 0 1 _ a.1 (omega arith) (omega arith) in
    give_more 0 1 at_start.so_far (with_tables h [] [] [] [] [] []) (first_line h) _ a.0 f refl refl
    (give_table slot_line (λ xs. with_tables h xs [] [] [] [] []) h (λ s. true) 1 256 (λ xs x. refl) (λ xs. refl) (λ x e. slot_says x)
    (λ p x e u v. at_place 1 1 p 1 u v) (λ xs x e u. has_none xs 256 u) [] m.slots _ (omega arith) (omega (arith, t.slots)) (all_slots m.slots)
    (λ p₁ u₁ v₁.
    give_table shared_line (λ xs. with_tables h m.slots xs [] [] [] []) h (λ s. is_line (shared_line s)) 2 256 (λ xs x. refl) (λ xs. refl) (λ x e. e)
    (λ p x e u v. at_place 1 2 p 2 u v) (λ xs x e u. has_none xs 256 u) [] m.shareds _ (omega arith) (omega (arith, t.shareds_few)) t.shareds
    (λ p₂ u₂ v₂.
    give_table private_line (λ xs. with_tables h m.slots m.shareds xs [] [] []) h (λ s. is_line (private_line s)) 3 256 (λ xs x. refl) (λ xs. refl) (λ x e. e)
    (λ p x e u v. at_place 1 3 p 3 u v) (λ xs x e u. has_none xs 256 u) [] m.privates _ (omega arith) (omega (arith, t.privates_few)) t.privates
    (λ p₃ u₃ v₃.
    give_table enum_line (λ xs. with_tables h m.slots m.shareds m.privates xs [] []) h (λ n. is_line (enum_line n)) 4 64 (λ xs x. refl) (λ xs. refl) (λ x e. e)
    (λ p x e u v. at_place 1 4 p 4 u v) (λ xs x e u. has_none xs 64 u) [] m.enums _ (omega arith) (omega (arith, t.enums_few)) t.enums
    (λ p₄ u₄ v₄.
    give_table native_line (λ xs. with_tables h m.slots m.shareds m.privates m.enums xs []) h (λ w. is_line (native_line w)) 5 64 (λ xs x. refl) (λ xs. refl) (λ x e. e)
    (λ p x e u v. at_place 1 5 p 5 u v) (λ xs x e u. has_none xs 64 u) [] m.natives _ (omega arith) (omega (arith, t.natives_few)) t.natives
    (λ p₅ u₅ v₅.
    give_table sig_line (λ xs. with_tables h m.slots m.shareds m.privates m.enums m.natives xs) h sig_passes 6 64 (λ xs x. refl) (λ xs. refl)
    (λ x e. (and_true (is_line (sig_line x)) _ e).0) (λ p x e u v. at_place 1 6 p 6 u v) (λ xs x e u. sig_none xs x u (and_true (is_line (sig_line x)) _ e).1)
    [] m.sigs _ (omega arith) (omega (arith, t.sigs_few)) t.sigs
    (λ p₆ u₆ v₆. give_chunks m [] m.chunks (omega (arith, t.chunks_few)) t.chunks t.consts t.ops p₆ u₆ (omega arith))
    p₅ u₅ (omega arith))
    p₄ u₄ (omega arith))
    p₃ u₃ (omega arith))
    p₂ u₂ (omega arith))
    p₁ u₁ (omega arith))
    1 (omega arith) (omega arith))

-- ── And no other ──────────────────────────────────────────────────────────────────────────

-- each line that gives is one
give_says : (n : ℕ) (r : Reader) (ls : List Line) (m : Module) → lines_give n r ls ≡ ok m → all_pass is_line ls ≡ true
unfolding all_pass
give_says n r [] m e = refl
give_says n r (l ∷ ls) m e = let g = gave n r l ls m e in and_of g.says (give_says (suc n) g.then ls m g.rest)

says_table : {A : Type 0} (to : A → Line) (ys : List A) (rest : List Line) → all_pass is_line (map to ys ++ rest) ≡ true →
    (all_pass (λ y. is_line (to y)) ys ≡ true) × (all_pass is_line rest ≡ true)
unfolding all_pass
says_table to [] rest e = (refl, e)
says_table to (y ∷ ys) rest e =
    let p = and_true (is_line (to y)) _ e in
    let q = says_table to ys rest p.1 in
    (and_of p.0 q.0, q.1)

sigs_pass : (gs : List Sig) → all_pass (λ g. is_line (sig_line g)) gs ≡ true → Each (λ g. SigFits g × (length g.params ≤ 16)) gs →
    all_pass sig_passes gs ≡ true
unfolding all_pass sig_passes
sigs_pass [] e f = refl
sigs_pass (g ∷ gs) e (both p f) =
    let q = and_true (is_line (sig_line g)) _ e in
    and_of (and_of q.0 (le-leb (length g.params) 16 p.1)) (sigs_pass gs q.1 f)

ops-pass : (h : Header) (os : List Op) → all_pass (λ o. is_line (op_line o)) os ≡ true → Each (HasKind h) os → all_pass (op_passes h) os ≡ true
unfolding all_pass op_passes
ops-pass h [] e f = refl
ops-pass h (o ∷ os) e (both p f) = let q = and_true (is_line (op_line o)) _ e in and_of (and_of q.0 p) (ops-pass h os q.1 f)

chunks_pass : (h : Header) (cs : List Code) → all_pass is_line (chunks_lines cs) ≡ true → Each CodeFits cs → Each (λ c. Each (HasKind h) c.ops) cs →
    all_pass (code_passes h) cs ≡ true
unfolding all_pass code_passes chunks_lines chunk_lines
chunks_pass h [] e f g = refl
chunks_pass h (c ∷ cs) e (both p f) (both q g) =
    let a = and_true (is_line (chunk_line c.locals)) _ e in
    let b = says_table const_line c.consts _ a.1 in
    let d = says_table op_line c.ops _ b.1 in
    let i = and_true (is_line close_line) _ d.1 in
    and_of (and_of (le-leb c.locals 32 p.locals) (and_of b.0 (ops-pass h c.ops d.0 q))) (chunks_pass h cs i.1 f g)

given_passes : (m : Module) → is_given m ≡ true → Passes m
unfolding is_given is_ok lines_of header_passes all_pass
given_passes m e =
    let h = m.header in
    let fit : Fits m = read_fits (listing_of m) m (given_reads m e) in
    let p = and_true (leb (length (listing_of m)) 65536) _ e in
    let q = ok_of (lines_give 0 at_start (lines_of m)) p.1 in
    let s = give_says 0 at_start (lines_of m) q.0 q.1 in
    let a = and_true (is_line (first_line h)) _ s in
    let b = says_table slot_line m.slots _ a.1 in
    let c = says_table shared_line m.shareds _ b.1 in
    let d = says_table private_line m.privates _ c.1 in
    let f = says_table enum_line m.enums _ d.1 in
    let g = says_table native_line m.natives _ f.1 in
    let i = says_table sig_line m.sigs _ g.1 in
    let t = fit.tables in
    record {
      header = and_of a.0 (rw (ne_eqb h.index_trap h.host_trap fit.traps));
      slots = t.slots.count;
      shareds_few = t.shareds.count;
      shareds = c.0;
      privates_few = t.privates.count;
      privates = d.0;
      enums_few = t.enums.count;
      enums = f.0;
      natives_few = t.natives.count;
      natives = g.0;
      sigs_few = t.sigs.count;
      sigs = sigs_pass m.sigs i.0 t.sigs.entries;
      chunks_few = t.chunks.count;
      chunks = chunks_pass h m.chunks i.1 t.chunks.entries fit.kinds;
      consts = t.consts;
      ops = t.ops;
    }

given_length : (m : Module) → is_given m ≡ true → leb (length (listing_of m)) 65536 ≡ true
unfolding is_given
given_length m e = (and_true (leb (length (listing_of m)) 65536) _ e).0

direct_given : (m : Module) → leb (length (listing_of m)) 65536 ≡ true → Passes m → is_given m ≡ true
unfolding is_given is_ok
direct_given m e p = let q = give_module m p 0 in and_of e (rw q.1)

-- Some listing gives a module exactly when its tables pass and it has no more than 65,536 bytes.
pub given_direct : (m : Module) → is_given m ≡ leb (length (listing_of m)) 65536 && module_passes m
given_direct m = go (is_given m) (module_passes m) (leb (length (listing_of m)) 65536) refl refl refl
  where
    go : (x y b : Bool) → is_given m ≡ x → module_passes m ≡ y → leb (length (listing_of m)) 65536 ≡ b → x ≡ b && y
    go true true true e f g = refl
    go true true false e f g = absurd (no_false (sym g ∙ given_length m e))
    go true false b e f g = absurd (no_false (sym f ∙ passed m (given_passes m e)))
    go false true true e f g = absurd (no_false (sym e ∙ direct_given m g (passes m f)))
    go false true false e f g = refl
    go false false true e f g = refl
    go false false false e f g = refl

-- Tables that hold a module that fits mean that module, and its chunks as the walk takes them.
use Rattle.std.specs.Prelude.{◌≡◌, Bool, leb, eqb}
use Rattle.std.proofs.Math.Path.{refl, ap}
use Rattle.std.proofs.Common.{sym, ◌∙◌, zero-add, add-zero, mod-eq_of_lt, add-one, le-leb, lt-ltb, le-ltb}
use mathlib.Core.List.{List, [], ◌∷◌, ◌++◌, map}
use Prim.Native.Nat.{ℕ, suc, ◌+◌, ◌-◌, ◌*◌, ◌/◌, ◌%◌, ◌≤◌, ◌<◌}
use native.Mathlib.Omega.{arith}
use Rattle.std.proofs.Math.ListN.{length, get_or, length-append, get_or-append}
use Rattle.std.proofs.Math.Seq.{get_or-append-add}
use Rattle.definition.specs.Basics.{choose}
use Rattle.definition.specs.Shapes.{Wire, top, scalar_w, flat_w}
use Rattle.definition.specs.Instructions.{Sig}
use Rattle.definition.specs.Ops.{Op}
use Rattle.definition.specs.Module.{Slot, shared, private, Shared, Private, Code, Header, Module, all_consts, all_ops, no_sig, chunks_from}
use Rattle.definition.specs.Module.{chunks_of}
use Rattle.definition.specs.Read.{Reader}
use Rattle.bytecode.specs.Tables.{tables, cap, stride}
use Rattle.bytecode.specs.Held.{Held, lists, held_count, cell_is, length-map, wire_word, slot_words, header_words, shared_words, private_words}
use Rattle.bytecode.specs.Held.{one_word, native_words, sig_words, op_words, chunk_words, chunk_rows, header_rows}
use Rattle.std.proofs.lemmas.List.{get_or-map}
use Rattle.bytecode.specs.Lists.{limited, limited-same, tabulate, tabulate_list, All, all_at}
use Rattle.bytecode.specs.Meaning.{cell, count, table_header, slot_at, slot_of, shared_at, private_at, enum_at, word_wire, wire_of, native_at, params_at}
use Rattle.bytecode.specs.Meaning.{sig_at, const_at, maxima_of, operands_of, op_of, op_at, locals_at, first_at, end_at, first_op, code_of}
use Rattle.bytecode.specs.Meaning.{slots_of, shareds_of, privates_of, enums_of, natives_of, sigs_of, module_of, chunk_of, table_chunks}
use Rattle.bytecode.specs.Operands.{row_of}
use Rattle.bytecode.specs.Fits.{WireFits, HeaderFits, SharedFits, PrivateFits, SigFits, Within, OpFits, ConstFits, EnumFits, CodeFits, ModuleFits}

-- ── Words back to entries ─────────────────────────────────────────────────────────────────

slot_back : (s : Slot) → slot_of (eqb (get_or (slot_words s) 0 0) 0) ≡ s
unfolding slot_of slot_words
slot_back shared = refl
slot_back private = refl

wire_back : (w : Wire) → WireFits w → word_wire (wire_word w) ≡ w
unfolding word_wire wire_word wire_of
wire_back top f = refl
wire_back (scalar_w k) f =
    let a : (1 + 4 * k) % 4 ≡ 1 = omega arith in
    let b : (1 + 4 * k) / 4 ≡ k = omega arith in
    rw (a, b, mod-eq_of_lt (let l : k < 256 = omega arith in l))
wire_back (flat_w k n) f =
    let h : k ≤ 255 = f.0 in
    let a : (2 + 4 * k + 1024 * n) % 4 ≡ 2 = omega arith in
    let b : (2 + 4 * k + 1024 * n) / 4 ≡ k + 256 * n = omega arith in
    let c : (2 + 4 * k + 1024 * n) / 1024 ≡ n = omega arith in
    let d : (k + 256 * n) % 256 ≡ k = omega arith in
    rw (a, b, c, d, limited-same 4294967295 n f.1)

operands_back : (ms ns : List ℕ) → length ms ≤ 3 → Within ms ns → operands_of ms (get_or ns 0 0 ∷ get_or ns 1 0 ∷ get_or ns 2 0 ∷ []) ≡ ns
unfolding operands_of
operands_back [] [] h f = refl
operands_back [] (n ∷ ns) h f = absurd f
operands_back (m ∷ ms) [] h f = absurd f
operands_back (m ∷ []) (n ∷ []) h f = rw (limited-same m n f.0)
operands_back (m ∷ []) (n ∷ x ∷ ns) h f = absurd f.1
operands_back (m ∷ k ∷ ms) (n ∷ []) h f = absurd f.1
operands_back (m ∷ k ∷ []) (n ∷ x ∷ []) h f = rw (limited-same m n f.0, limited-same k x f.1.0)
operands_back (m ∷ k ∷ []) (n ∷ x ∷ y ∷ ns) h f = absurd f.1.1
operands_back (m ∷ k ∷ l ∷ ms) (n ∷ x ∷ []) h f = absurd f.1.1
operands_back (m ∷ k ∷ l ∷ []) (n ∷ x ∷ y ∷ []) h f = rw (limited-same m n f.0, limited-same k x f.1.0, limited-same l y f.1.1.0)
operands_back (m ∷ k ∷ l ∷ []) (n ∷ x ∷ y ∷ z ∷ ns) h f = absurd f.1.1.1
operands_back (m ∷ k ∷ l ∷ p ∷ ms) (n ∷ x ∷ y ∷ ns) h f = absurd (omega arith)

op_back : (o : Op) → OpFits o → op_of (limited 74 (get_or (op_words o) 0 0)) (get_or (op_words o) 1 0 ∷ get_or (op_words o) 2 0 ∷ get_or (op_words o) 3 0 ∷ []) ≡ o
unfolding op_of op_words maxima_of
op_back o f =
    let q = row_of o.code f.code in
    let s : length (maxima_of o.code) ≤ 3 = omega (arith, ap length q.maxima, q.short) in
    rw (limited-same 74 o.code (omega (arith, f.code)), operands_back (maxima_of o.code) o.operands s f.operands)

header_back : (h : Header) → HeaderFits h → (t : List ℕ) → ((j : ℕ) → j < 8 → cell t 0 0 j ≡ get_or (header_words h) j 0) → table_header t ≡ h
unfolding table_header header_words
header_back h f t e =
    rw (
      e 1 (omega arith),
      e 2 (omega arith),
      e 3 (omega arith),
      e 4 (omega arith),
      e 5 (omega arith),
      e 6 (omega arith),
      e 7 (omega arith),
      limited-same 8 h.word f.word,
      limited-same 8 h.float f.float,
      limited-same 6 h.address_log f.address_log,
      limited-same 4294967295 h.shared_bytes f.shared_bytes,
      limited-same 4294967295 h.pool_bytes f.pool_bytes,
      limited-same 65535 h.index_trap f.index_trap,
      limited-same 65535 h.host_trap f.host_trap,
    )

all_both : {A : Type 0} (P : A → Type 0) (xs ys : List A) → All P xs → All P ys → All P (xs ++ ys)
all_both P [] ys a b = b
all_both P (x ∷ xs) ys a b = (a.0, all_both P xs ys a.1 b)

consts_fit : (cs : List Code) → All CodeFits cs → All ConstFits (all_consts cs)
unfolding all_consts
consts_fit [] f = tt
consts_fit (c ∷ cs) f = all_both ConstFits c.consts (all_consts cs) f.0.consts (consts_fit cs f.1)

pub ops_fit : (cs : List Code) → All CodeFits cs → All OpFits (all_ops cs)
unfolding all_ops
ops_fit [] f = tt
ops_fit (c ∷ cs) f = all_both OpFits c.ops (all_ops cs) f.0.ops (ops_fit cs f.1)

rows_long : (a b : ℕ) (cs : List Code) → length (chunk_rows a b cs) ≡ length cs
unfolding chunk_rows
rows_long a b [] = refl
rows_long a b (c ∷ cs) = ap suc (rows_long (a + length c.consts) (b + length c.ops) cs)

-- ── Tables that hold ──────────────────────────────────────────────────────────────────────

module _ (t : List ℕ) (r : Reader) (h : Held t (lists r)) where
  counted : (k : ℕ) → k < tables → count t k ≡ length (get_or (lists r) k [])
  unfolding count
  counted k l = limited-same (cap k) (get_or t k 0) (h.full k l) ∙ held_count t (lists r) k l h

  module _ {A : Type 0} (words : A → List ℕ) (xs : List A) (d : A) (k : ℕ) (l : k < tables) (e : get_or (lists r) k [] ≡ map words xs) where
    long : count t k ≡ length xs
    long = counted k l ∙ ap length e ∙ length-map words xs

    word_of : (i j : ℕ) → i < length xs → j < stride k → cell t k i j ≡ get_or (words (get_or xs i d)) j 0
    word_of i j p q =
        cell_is t (lists r) k i j h l (omega (arith, ap length e, length-map words xs)) q
        ∙ ap (λ (rs : List (List ℕ)). get_or (get_or rs i []) j 0) e
        ∙ ap (λ (ws : List ℕ). get_or ws j 0) (get_or-map words xs i d [] p)

    listed : (f : ℕ → A) → ((i : ℕ) → i < length xs → f i ≡ get_or xs i d) → tabulate 0 (count t k) f ≡ xs
    listed f g =
        ap (λ (n : ℕ). tabulate 0 n f) long
        ∙ tabulate_list d xs 0 f (λ i p. ap f (zero-add i) ∙ g i p)

  module _ (fit : ModuleFits r.so_far) where
    m : Module
    m = r.so_far

    slots_are : slots_of t ≡ m.slots
    unfolding m lists slots_of slot_at stride
    slots_are =
        listed slot_words m.slots shared 1 (omega arith) refl (slot_at t)
        (λ i p.
        ap (λ (w : ℕ). slot_of (eqb w 0)) (word_of slot_words m.slots shared 1 (omega arith) refl i 0 p (omega arith))
        ∙ slot_back (get_or m.slots i shared))

    abbrev no_shared : Shared
    no_shared = record { offset = 0; kind = 0; len = 0 }

    shareds_are : shareds_of t ≡ m.shareds
    unfolding m lists shareds_of shared_at shared_words stride
    shareds_are =
        listed shared_words m.shareds no_shared 2 (omega arith) refl (shared_at t)
        (λ i p.
        let f : SharedFits (get_or m.shareds i no_shared) = all_at SharedFits no_shared m.shareds fit.shareds i p in
        let w : (j : ℕ) → j < 4 → cell t 2 i j ≡ get_or (shared_words (get_or m.shareds i no_shared)) j 0 =
        λ j l. word_of shared_words m.shareds no_shared 2 (omega arith) refl i j p l in
        rw (
          w 1 (omega arith),
          w 2 (omega arith),
          w 3 (omega arith),
          limited-same 4294967295 _ f.offset,
          limited-same 255 _ f.kind,
          limited-same 65535 _ f.len,
        ))

    abbrev no_private : Private
    no_private = record { slot = 0; offset = 0 }

    privates_are : privates_of t ≡ m.privates
    unfolding m lists privates_of private_at private_words stride
    privates_are =
        listed private_words m.privates no_private 3 (omega arith) refl (private_at t)
        (λ i p.
        let f : PrivateFits (get_or m.privates i no_private) = all_at PrivateFits no_private m.privates fit.privates i p in
        let w : (j : ℕ) → j < 3 → cell t 3 i j ≡ get_or (private_words (get_or m.privates i no_private)) j 0 =
        λ j l. word_of private_words m.privates no_private 3 (omega arith) refl i j p l in
        rw (w 1 (omega arith), w 2 (omega arith), limited-same 65535 _ f.slot, limited-same 4294967295 _ f.offset))

    enums_are : enums_of t ≡ m.enums
    unfolding m lists enums_of enum_at one_word stride
    enums_are =
        listed one_word m.enums 0 4 (omega arith) refl (enum_at t)
        (λ i p.
        ap (limited 4294967295) (word_of one_word m.enums 0 4 (omega arith) refl i 1 p (omega arith))
        ∙ limited-same 4294967295 (get_or m.enums i 0) (all_at EnumFits 0 m.enums fit.enums i p))

    natives_are : natives_of t ≡ m.natives
    unfolding m lists natives_of native_at native_words stride
    natives_are =
        listed native_words m.natives top 5 (omega arith) refl (native_at t)
        (λ i p.
        ap word_wire (word_of native_words m.natives top 5 (omega arith) refl i 1 p (omega arith))
        ∙ wire_back (get_or m.natives i top) (all_at WireFits top m.natives fit.natives i p))

    -- a signature's words back to it
    sig_back : (i : ℕ) (g : Sig) → SigFits g → ((j : ℕ) → j < 19 → cell t 6 i j ≡ get_or (sig_words g) j 0) → sig_at t i ≡ g
    unfolding sig_at params_at sig_words
    sig_back i g f e =
        let n : limited 16 (2 + length g.params - 2) ≡ length g.params =
        ap (limited 16) (let z : 2 + length g.params - 2 ≡ length g.params = omega arith in z) ∙ limited-same 16 (length g.params) f.few in
        let ps : tabulate 3 (length g.params) (λ j. word_wire (cell t 6 i j)) ≡ g.params =
        tabulate_list top g.params 3 (λ j. word_wire (cell t 6 i j))
        (λ j l.
        ap word_wire (e (3 + j) (omega (arith, f.few)) ∙ word_past j)
        ∙ ap word_wire (get_or-map wire_word g.params j top 0 l)
        ∙ wire_back (get_or g.params j top) (all_at WireFits top g.params f.params j l)) in
        rw (e 0 (omega arith), e 1 (omega arith), e 2 (omega arith), n, ps, wire_back g.ret f.ret, wire_back g.resume f.resume)
      where
        word_past : (j : ℕ) → get_or (sig_words g) (3 + j) 0 ≡ get_or (map wire_word g.params) j 0
        word_past j = ap (λ (k : ℕ). get_or (sig_words g) k 0) (let z : 3 + j ≡ suc (suc (suc j)) = omega arith in z)

    sigs_are : sigs_of t ≡ m.sigs
    unfolding m lists sigs_of stride
    sigs_are =
        listed sig_words m.sigs no_sig 6 (omega arith) refl (sig_at t)
        (λ i p.
        sig_back i (get_or m.sigs i no_sig) (all_at SigFits no_sig m.sigs fit.sigs i p)
        (λ j l. word_of sig_words m.sigs no_sig 6 (omega arith) refl i j p l))

    header_is : 1 ≤ r.place → table_header t ≡ m.header
    unfolding m lists header_rows stride
    header_is l =
        let e : header_rows (leb 1 r.place) m.header ≡ map header_words (m.header ∷ []) =
        ap (λ (b : Bool). header_rows b m.header) (le-leb 1 r.place l) in
        header_back m.header fit.header t
        (λ j p. word_of header_words (m.header ∷ []) m.header 0 (omega arith) e 0 j (omega arith) p)

    -- ── Chunks ──────────────────────────────────────────────────────────────────────────────

    abbrev no_op : Op
    no_op = record { code = 0; operands = [] }

    consts_are : (i : ℕ) → i < length (all_consts m.chunks) → ConstFits (get_or (all_consts m.chunks) i 0)
        → const_at t i ≡ get_or (all_consts m.chunks) i 0
    unfolding m lists const_at one_word stride
    consts_are i p f =
        ap (limited 255) (word_of one_word (all_consts m.chunks) 0 8 (omega arith) refl i 1 p (omega arith))
        ∙ limited-same 255 (get_or (all_consts m.chunks) i 0) f

    ops_are : (i : ℕ) → i < length (all_ops m.chunks) → OpFits (get_or (all_ops m.chunks) i no_op) → op_at t i ≡ get_or (all_ops m.chunks) i no_op
    unfolding m lists op_at stride
    ops_are i p f =
        let o : Op = get_or (all_ops m.chunks) i no_op in
        let w : (j : ℕ) → j < 4 → cell t 9 i j ≡ get_or (op_words o) j 0 =
        λ j l. word_of op_words (all_ops m.chunks) no_op 9 (omega arith) refl i j p l in
        rw (w 0 (omega arith), w 1 (omega arith), w 2 (omega arith), w 3 (omega arith)) (op_back o f)

    -- Chunks from number k on, whose constants and instructions begin at a and b.
    abbrev Matches : ℕ → ℕ → List Code → Type 0
    Matches k b [] = Unit {0}
    Matches k b (c ∷ cs) = (code_of t k ≡ c) × (first_op t k ≡ b) × Matches (suc k) (b + length c.ops) cs

    record From (k a b : ℕ) (cs : List Code) : Type 0 where
      row : (i j : ℕ) → i < length cs → j < 4 → cell t 7 (k + i) j ≡ get_or (get_or (chunk_rows a b cs) i []) j 0
      const : (i : ℕ) → i < length (all_consts cs) → const_at t (a + i) ≡ get_or (all_consts cs) i 0
      op : (i : ℕ) → i < length (all_ops cs) → op_at t (b + i) ≡ get_or (all_ops cs) i no_op
      chunks_end : k + length cs ≡ count t 7
      consts_end : a + length (all_consts cs) ≡ count t 8
      ops_end : b + length (all_ops cs) ≡ count t 9

    module _ (k a b : ℕ) (c : Code) (cs : List Code) (fr : From k a b (c ∷ cs)) where
      consts_long : length (all_consts (c ∷ cs)) ≡ length c.consts + length (all_consts cs)
      unfolding all_consts
      consts_long = length-append c.consts (all_consts cs)

      ops_long : length (all_ops (c ∷ cs)) ≡ length c.ops + length (all_ops cs)
      unfolding all_ops
      ops_long = length-append c.ops (all_ops cs)

      this_row : (j : ℕ) → j < 4 → cell t 7 k j ≡ get_or (chunk_words c.locals a b) j 0
      unfolding chunk_rows
      this_row j l = ap (λ (i : ℕ). cell t 7 i j) (sym (add-zero k)) ∙ fr.row 0 j (omega arith) l

      next_from : From (suc k) (a + length c.consts) (b + length c.ops) cs
      unfolding chunk_rows all_consts all_ops
      next_from =
          record {
            row = λ i j p l. ap (λ (n : ℕ). cell t 7 n j) (let z : suc k + i ≡ k + suc i = omega arith in z) ∙ fr.row (suc i) j (omega arith) l;
            const =
                λ i p. ap (const_at t) (let z : a + length c.consts + i ≡ a + (length c.consts + i) = omega arith in z)
                ∙ fr.const (length c.consts + i) (omega (arith, consts_long))
                ∙ get_or-append-add c.consts (all_consts cs) i 0;
            op =
                λ i p. ap (op_at t) (let z : b + length c.ops + i ≡ b + (length c.ops + i) = omega arith in z)
                ∙ fr.op (length c.ops + i) (omega (arith, ops_long))
                ∙ get_or-append-add c.ops (all_ops cs) i no_op;
            chunks_end = omega (arith, fr.chunks_end);
            consts_end = omega (arith, fr.consts_end, consts_long);
            ops_end = omega (arith, fr.ops_end, ops_long);
          }

      first_const_is : first_at t 8 2 k ≡ a
      unfolding first_at chunk_words
      first_const_is = ap (limited (count t 8)) (this_row 2 (omega arith)) ∙ limited-same (count t 8) a (omega (arith, fr.consts_end))

      first_op_is : first_at t 9 3 k ≡ b
      unfolding first_at chunk_words
      first_op_is = ap (limited (count t 9)) (this_row 3 (omega arith)) ∙ limited-same (count t 9) b (omega (arith, fr.ops_end))

    end_const_is : (k a b : ℕ) (c : Code) (cs : List Code) → From k a b (c ∷ cs) → end_at t 8 2 k ≡ a + length c.consts
    unfolding end_at choose all_consts
    end_const_is k a b c [] fr =
        rw (le-ltb (k + 1) (count t 7) (omega (arith, fr.chunks_end)))
        (omega (arith, fr.consts_end, consts_long k a b c [] fr))
    end_const_is k a b c (d ∷ cs) fr =
        rw (lt-ltb (k + 1) (count t 7) (omega (arith, fr.chunks_end)))
        (ap (first_at t 8 2) (add-one k) ∙ first_const_is (suc k) _ _ d cs (next_from k a b c (d ∷ cs) fr))

    end_op_is : (k a b : ℕ) (c : Code) (cs : List Code) → From k a b (c ∷ cs) → end_at t 9 3 k ≡ b + length c.ops
    unfolding end_at choose all_ops
    end_op_is k a b c [] fr =
        rw (le-ltb (k + 1) (count t 7) (omega (arith, fr.chunks_end)))
        (omega (arith, fr.ops_end, ops_long k a b c [] fr))
    end_op_is k a b c (d ∷ cs) fr =
        rw (lt-ltb (k + 1) (count t 7) (omega (arith, fr.chunks_end)))
        (ap (first_at t 9 3) (add-one k) ∙ first_op_is (suc k) _ _ d cs (next_from k a b c (d ∷ cs) fr))

    code_is : (k a b : ℕ) (c : Code) (cs : List Code) → CodeFits c → From k a b (c ∷ cs) → code_of t k ≡ c
    unfolding code_of locals_at chunk_words all_consts all_ops
    code_is k a b c cs f fr =
        let l : limited 32 (cell t 7 k 1) ≡ c.locals =
        ap (limited 32) (this_row k a b c cs fr 1 (omega arith)) ∙ limited-same 32 c.locals f.locals in
        let p : end_at t 8 2 k - first_at t 8 2 k ≡ length c.consts =
        omega (arith, end_const_is k a b c cs fr, first_const_is k a b c cs fr) in
        let q : end_at t 9 3 k - first_at t 9 3 k ≡ length c.ops =
        omega (arith, end_op_is k a b c cs fr, first_op_is k a b c cs fr) in
        let x : tabulate a (length c.consts) (const_at t) ≡ c.consts =
        tabulate_list 0 c.consts a (const_at t) (λ i h. own_const i h) in
        let y : tabulate b (length c.ops) (op_at t) ≡ c.ops =
        tabulate_list no_op c.ops b (op_at t) (λ i h. own_op i h) in
        rw (l, p, q, first_const_is k a b c cs fr, first_op_is k a b c cs fr, x, y)
      where
        own_const : (i : ℕ) → i < length c.consts → const_at t (a + i) ≡ get_or c.consts i 0
        own_const i h =
            fr.const i (omega (arith, consts_long k a b c cs fr)) ∙ get_or-append c.consts (all_consts cs) 0 i h

        own_op : (i : ℕ) → i < length c.ops → op_at t (b + i) ≡ get_or c.ops i no_op
        own_op i h =
            fr.op i (omega (arith, ops_long k a b c cs fr)) ∙ get_or-append c.ops (all_ops cs) no_op i h

    matched : (k a b : ℕ) (cs : List Code) → All CodeFits cs → From k a b cs → Matches k b cs
    matched k a b [] f fr = tt
    matched k a b (c ∷ cs) f fr = (
      code_is k a b c cs f.0 fr,
      first_op_is k a b c cs fr,
      matched (suc k) (a + length c.consts) (b + length c.ops) cs f.1 (next_from k a b c cs fr),
    )

    all_from : From 0 0 0 m.chunks
    unfolding m lists stride
    all_from =
        record {
          row =
              λ i j p l. ap (λ (n : ℕ). cell t 7 n j) (zero-add i)
              ∙ cell_is t (lists r) 7 i j h (omega arith) (omega (arith, rows_long 0 0 m.chunks)) l;
          const =
              λ i p. ap (const_at t) (zero-add i)
              ∙ consts_are i p (all_at ConstFits 0 (all_consts m.chunks) (consts_fit m.chunks fit.chunks) i p);
          op =
              λ i p. ap (op_at t) (zero-add i)
              ∙ ops_are i p (all_at OpFits no_op (all_ops m.chunks) (ops_fit m.chunks fit.chunks) i p);
          chunks_end = omega (arith, counted 7 (omega arith), rows_long 0 0 m.chunks);
          consts_end = omega (arith, counted 8 (omega arith), length-map one_word (all_consts m.chunks));
          ops_end = omega (arith, counted 9 (omega arith), length-map op_words (all_ops m.chunks));
        }

    codes_are : (k b : ℕ) (cs : List Code) → Matches k b cs → tabulate k (length cs) (code_of t) ≡ cs
    unfolding tabulate
    codes_are k b [] x = refl
    codes_are k b (c ∷ cs) x = (let e : code_of t k ≡ c = x.0 in let q : tabulate (suc k) (length cs) (code_of t) ≡ cs = codes_are (suc k) _ cs x.2 in rw (e, q))

    -- Counts are those of the module,
    pub chunk_count : count t 7 ≡ length r.so_far.chunks
    unfolding m
    chunk_count = omega (arith, all_from.chunks_end)

    pub op_total : count t 9 ≡ length (all_ops r.so_far.chunks)
    unfolding m
    op_total = omega (arith, all_from.ops_end)

    -- the tables mean the module that they hold,
    pub module_is : 1 ≤ r.place → module_of t ≡ r.so_far
    unfolding module_of m
    module_is l =
        let cs : tabulate 0 (count t 7) (code_of t) ≡ m.chunks =
        ap (λ (n : ℕ). tabulate 0 n (code_of t)) chunk_count ∙ codes_are 0 0 m.chunks (matched 0 0 0 m.chunks fit.chunks all_from) in
        rw (header_is l, slots_are, shareds_are, privates_are, enums_are, natives_are, sigs_are, cs)

    walked : (k b : ℕ) (cs : List Code) → module_of t ≡ m → Matches k b cs → tabulate k (length cs) (chunk_of t) ≡ chunks_from m k b cs
    unfolding tabulate chunks_from chunk_of
    walked k b [] e x = refl
    walked k b (c ∷ cs) e x =
        let q : tabulate (suc k) (length cs) (chunk_of t) ≡ chunks_from m (1 + k) (b + length c.ops) cs =
        walked (suc k) (b + length c.ops) cs e x.2
        ∙ ap (λ (n : ℕ). chunks_from m n (b + length c.ops) cs) (let z : suc k ≡ 1 + k = omega arith in z) in
        rw (q, e, x.0, x.1)

    -- and its chunks as the walk takes them.
    pub chunks_are : 1 ≤ r.place → table_chunks t ≡ chunks_of r.so_far
    unfolding table_chunks chunks_of m
    chunks_are l =
        ap (λ (n : ℕ). tabulate 0 n (chunk_of t)) chunk_count
        ∙ walked 0 0 m.chunks (module_is l) (matched 0 0 0 m.chunks fit.chunks all_from)

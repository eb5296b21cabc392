-- The numbers of a module that was read fit their bits, its operands their rows, and its tables their sizes.
use Rattle.std.specs.Prelude.{◌≡◌, ◌≢◌, Bool, not, ◌&&◌, T, ltb, eqb}
use Rattle.std.proofs.Math.Path.{refl, ap, subst}
use Rattle.std.proofs.Common.{sym, ◌∙◌, zero-add, leb→le, ltb→lt}
use Rattle.std.proofs.Math.Bool.{true, false}
use Rattle.std.proofs.Math.Option.{Option, none, some}
use mathlib.Core.List.{List, [], ◌∷◌, ◌++◌}
use Prim.Native.Nat.{ℕ, zero, suc, ◌+◌, ◌≤◌, ◌<◌}
use native.Mathlib.Omega.{arith}
use Rattle.std.proofs.lemmas.Bool.{eqb-false}
use Rattle.std.proofs.Math.Dec.{leb}
use Rattle.std.proofs.Math.ListN.{length, get_elem?, length-append}
use Rattle.definition.specs.Basics.{ok, is_member, unless, pass}
use Rattle.definition.specs.Shapes.{Wire, top, scalar_w, flat_w}
use Rattle.definition.specs.Instructions.{Sig}
use Rattle.definition.specs.Ops.{Row, ops, Op, instr, named_kind, has_kind}
use Rattle.definition.specs.Module.{Slot, Shared, Private, Code, Header, Module, all_consts, all_ops}
use Rattle.definition.specs.Format.{Bytes, bits, Item, text, number, among, numbers, shape, shapes, Maker, Form, form, ShapeReader, ◌and_then◌, provided}
use Rattle.definition.specs.Format.{strip, bytes, digits_from, begins_number, number_at, numbers_at, begins_with, shapes_at, parse, front, nothing_after}
use Rattle.definition.specs.Format.{whole, shape_forms, shape_at}
use Rattle.definition.specs.Read.{Line, Lines, line, end, first_line, slot_line, shared_line, private_line, enum_line, native_line, sig_line, chunk_line}
use Rattle.definition.specs.Read.{const_line, op_line, close_line, line_forms, op_forms, read_line, within, follow, has_room, limit, limits, to_last}
use Rattle.definition.specs.Read.{add_const, add_op, add, Reader, at_start, or_line, next_line, is_empty, read_lines, cut, read}
use Rattle.definition.specs.Run.{All2, none_left, one_more}
use Rattle.theorems.specs.Cover.{no_some, no_ok, ok_inj, no_false, T_of, first_none, unless_none, pass_ok, bind_ok, and_true, eqb_eq}
use Rattle.theorems.specs.Each.{Each, nobody, both, each_more}

-- ── What fits ─────────────────────────────────────────────────────────────────────────────

abbrev pub WireFits : Wire → Type 0
WireFits top = Unit {0}
WireFits (scalar_w k) = k ≤ bits 8
WireFits (flat_w k n) = (k ≤ bits 8) × (n ≤ bits 32)

-- as many numbers as maxima, each at most its maximum
abbrev pub AtMost : List ℕ → List ℕ → Type 0
AtMost = All2 (λ (n m : ℕ). n ≤ m)

pub record HeaderFits (h : Header) : Type 0 where
  pub word : T (is_member h.word (1 ∷ 2 ∷ 4 ∷ 8 ∷ []))
  pub float : T (is_member h.float (0 ∷ 1 ∷ 2 ∷ 4 ∷ 8 ∷ []))
  pub address_log : T (is_member h.address_log (3 ∷ 4 ∷ 5 ∷ 6 ∷ []))
  pub shared_bytes : h.shared_bytes ≤ bits 32
  pub pool_bytes : h.pool_bytes ≤ bits 32
  pub index_trap : h.index_trap ≤ bits 16
  pub host_trap : h.host_trap ≤ bits 16

abbrev pub SharedFits : Shared → Type 0
SharedFits s = (s.offset ≤ bits 32) × (s.kind ≤ bits 8) × (s.len ≤ bits 16)

abbrev pub PrivateFits : Private → Type 0
PrivateFits s = (s.slot ≤ bits 16) × (s.offset ≤ bits 32)

abbrev pub SigFits : Sig → Type 0
SigFits g = WireFits g.ret × WireFits g.resume × Each WireFits g.params

abbrev pub ConstFits : ℕ → Type 0
ConstFits k = T (is_member k (0 ∷ 1 ∷ 2 ∷ 3 ∷ 4 ∷ 5 ∷ 6 ∷ 255 ∷ []))

-- an op is of a row of the table, with as many operands as the row has maxima
abbrev pub OpFits : Op → Type 0
OpFits o = (r : Row) × (get_elem? ops o.code ≡ some r) × AtMost o.operands r.maxima

-- an op names no kind that the module lacks
abbrev pub HasKind : Header → Op → Type 0
HasKind h o = has_kind h.float (named_kind (instr o)) ≡ true

pub record CodeFits (c : Code) : Type 0 where
  pub locals : c.locals ≤ 32
  pub consts : Each ConstFits c.consts
  pub ops : Each OpFits c.ops

-- entries that fit, and no more than the table holds
pub record Table {A : Type 0} (P : A → Type 0) (n : ℕ) (xs : List A) : Type 0 where
  pub entries : Each P xs
  pub count : length xs ≤ n

pub record TablesFit (m : Module) : Type 0 where
  pub slots : Table (λ (s : Slot). Unit {0}) 256 m.slots
  pub shareds : Table SharedFits 256 m.shareds
  pub privates : Table PrivateFits 256 m.privates
  pub enums : Table (λ (n : ℕ). n ≤ bits 32) 64 m.enums
  pub natives : Table WireFits 64 m.natives
  pub sigs : Table (λ g. SigFits g × (length g.params ≤ 16)) 64 m.sigs
  pub chunks : Table CodeFits 64 m.chunks
  pub consts : length (all_consts m.chunks) ≤ 1024
  pub ops : length (all_ops m.chunks) ≤ 4096

-- ── What a form makes ─────────────────────────────────────────────────────────────────────

-- Of values that the items read, f makes what P holds of.
abbrev Sends : {A : Type 0} (P : A → Type 0) (is : List Item) → Maker is A → Type 0
Sends P [] a = P a
Sends P (text s ∷ is) f = Sends P is f
Sends P (number m ∷ is) f = (n : ℕ) → n ≤ m → Sends P is (f n)
Sends P (among ns ∷ is) f = (n : ℕ) → T (is_member n ns) → Sends P is (f n)
Sends P (numbers ms ∷ is) f = (ns : List ℕ) → AtMost ns ms → Sends P is (f ns)
Sends P (shape ∷ is) f = (w : Wire) → WireFits w → Sends P is (f w)
Sends P (shapes ∷ is) f = (ws : List Wire) → Each WireFits ws → Sends P is (f ws)

-- the same of each form
abbrev AllSend : {A : Type 0} (P : A → Type 0) → List (Form A) → Type 0
AllSend P [] = Unit {0}
AllSend P (f ∷ fs) = Sends P f.items f.make × AllSend P fs

some_inj : {A : Type 0} {x y : A} → some x ≡ some y → x ≡ y
some_inj e = cc

then_some : {A B : Type 0} (o : Option A) (k : A → Option B) (b : B) → o and_then k ≡ some b → (a : A) × (o ≡ some a) × (k a ≡ some b)
unfolding ◌and_then◌
then_some none k b e = absurd (no_some (sym e))
then_some (some a) k b e = (a, refl, e)

provided_some : {A : Type 0} (t : Bool) (a b : A) → provided t a ≡ some b → (t ≡ true) × (a ≡ b)
unfolding provided
provided_some true a b e = (refl, some_inj e)
provided_some false a b e = absurd (no_some (sym e))

number_passes : (test : ℕ → Bool) (bs : Bytes) (r : ℕ × Bytes) → number_at test bs ≡ some r → test r.0 ≡ true
unfolding number_at
number_passes test [] r e = absurd (no_some (sym e))
number_passes test (b ∷ bs) r e =
    let q = digits_from 0 bs in
    let p = provided_some (eqb b 32 && (begins_number bs && test q.0)) q r e in
    let t = and_true (begins_number bs) (test q.0) (and_true (eqb b 32) _ p.0).1 in
    subst (λ (z : ℕ × Bytes). test z.0 ≡ true) p.1 t.1

number_most : (m : ℕ) (bs : Bytes) (r : ℕ × Bytes) → number_at (λ n. leb n m) bs ≡ some r → r.0 ≤ m
number_most m bs r e = leb→le r.0 m (T_of (number_passes (λ n. leb n m) bs r e))

numbers_most : (ms : List ℕ) (bs : Bytes) (r : List ℕ × Bytes) → numbers_at ms bs ≡ some r → AtMost r.0 ms
unfolding numbers_at
numbers_most [] bs r e = subst (λ (z : List ℕ × Bytes). AtMost z.0 []) (some_inj e) none_left
numbers_most (m ∷ ms) bs r e =
    let p = then_some (number_at (λ n. leb n m) bs) _ r e in
    let q = then_some (numbers_at ms p.0.1) _ r p.2 in
    subst (λ (z : List ℕ × Bytes). AtMost z.0 (m ∷ ms)) (some_inj q.2)
    (one_more (number_most m bs p.0 p.1) (numbers_most ms p.0.1 q.0 q.1))

module _ (reader : ShapeReader) (fit : (bs : Bytes) (r : Wire × Bytes) → reader bs ≡ some r → WireFits r.0) where
  shapes_fit : (n : ℕ) (bs : Bytes) (r : List Wire × Bytes) → shapes_at reader n bs ≡ some r → Each WireFits r.0
  unfolding shapes_at
  shapes_fit zero bs r e = subst (λ (z : List Wire × Bytes). Each WireFits z.0) (some_inj e) nobody
  shapes_fit (suc n) bs r e = go (begins_with 32 bs) e (shapes_fit n)
    where
      go : (t : Bool) →
          elim t as (λ z. Option (List Wire × Bytes)) [
            | true ↦ (reader bs and_then λ w. shapes_at reader n w.1 and_then λ q. some (w.0 ∷ q.0, q.1))
            | false ↦ some ([], bs)
          ] ≡ some r →
          ((cs : Bytes) (q : List Wire × Bytes) → shapes_at reader n cs ≡ some q → Each WireFits q.0) → Each WireFits r.0
      go true f ih =
          let p = then_some (reader bs) _ r f in
          let q = then_some (shapes_at reader n p.0.1) _ r p.2 in
          subst (λ (z : List Wire × Bytes). Each WireFits z.0) (some_inj q.2) (both (fit bs p.0 p.1) (ih p.0.1 q.0 q.1))
      go false f ih = subst (λ (z : List Wire × Bytes). Each WireFits z.0) (some_inj f) nobody

  module _ {A : Type 0} (P : A → Type 0) where
    parse_sends : (is : List Item) (f : Maker is A) (bs : Bytes) (q : A × Bytes) → Sends P is f → parse reader is f bs ≡ some q → P q.0
    unfolding parse
    parse_sends [] a bs q s e = subst (λ (z : A × Bytes). P z.0) (some_inj e) s
    parse_sends (text t ∷ is) f bs q s e =
        let p = then_some (strip (bytes t) bs) _ q e in
        parse_sends is f p.0 q s p.2
    parse_sends (number m ∷ is) f bs q s e =
        let p = then_some (number_at (λ n. leb n m) bs) _ q e in
        parse_sends is (f p.0.0) p.0.1 q (s p.0.0 (number_most m bs p.0 p.1)) p.2
    parse_sends (among ns ∷ is) f bs q s e =
        let p = then_some (number_at (λ n. is_member n ns) bs) _ q e in
        parse_sends is (f p.0.0) p.0.1 q (s p.0.0 (T_of (number_passes (λ n. is_member n ns) bs p.0 p.1))) p.2
    parse_sends (numbers ms ∷ is) f bs q s e =
        let p = then_some (numbers_at ms bs) _ q e in
        parse_sends is (f p.0.0) p.0.1 q (s p.0.0 (numbers_most ms bs p.0 p.1)) p.2
    parse_sends (shape ∷ is) f bs q s e =
        let p = then_some (reader bs) _ q e in
        parse_sends is (f p.0.0) p.0.1 q (s p.0.0 (fit bs p.0 p.1)) p.2
    parse_sends (shapes ∷ is) f bs q s e =
        let p = then_some (shapes_at reader (length bs) bs) _ q e in
        parse_sends is (f p.0.0) p.0.1 q (s p.0.0 (shapes_fit (length bs) bs p.0 p.1)) p.2

    front_sends : (fs : List (Form A)) (bs : Bytes) (q : A × Bytes) → AllSend P fs → front reader fs bs ≡ some q → P q.0
    unfolding front
    front_sends [] bs q s e = absurd (no_some (sym e))
    front_sends (f ∷ fs) bs q s e = go (parse reader f.items f.make bs) refl e (front_sends fs bs q s.1)
      where
        go : (o : Option (A × Bytes)) → parse reader f.items f.make bs ≡ o →
            elim o as (λ z. Option (A × Bytes)) [ some r ↦ some r | none ↦ front reader fs bs ] ≡ some q →
            (front reader fs bs ≡ some q → P q.0) → P q.0
        go none h k ih = ih k
        go (some r) h k ih = subst (λ (z : A × Bytes). P z.0) (some_inj k) (parse_sends f.items f.make bs r s.0 h)

    alone : (r : A × Bytes) (a : A) → nothing_after r ≡ some a → r.0 ≡ a
    unfolding nothing_after
    alone r a e = go r.1 e
      where
        go : (bs : Bytes) → elim bs as (λ z. Option A) [ [] ↦ some r.0 | b ∷ cs ↦ none ] ≡ some a → r.0 ≡ a
        go [] h = some_inj h
        go (b ∷ cs) h = absurd (no_some (sym h))

    whole_sends : (fs : List (Form A)) (bs : Bytes) (a : A) → AllSend P fs → whole reader fs bs ≡ some a → P a
    unfolding whole
    whole_sends [] bs a s e = absurd (no_some (sym e))
    whole_sends (f ∷ fs) bs a s e = go (parse reader f.items f.make bs and_then nothing_after) refl e (whole_sends fs bs a s.1)
      where
        go : (o : Option A) → parse reader f.items f.make bs and_then nothing_after ≡ o →
            elim o as (λ z. Option A) [ some r ↦ some r | none ↦ whole reader fs bs ] ≡ some a → (whole reader fs bs ≡ some a → P a) → P a
        go none h k ih = ih k
        go (some r) h k ih =
            let p = then_some (parse reader f.items f.make bs) nothing_after r h in
            subst P (alone p.0 r p.2 ∙ some_inj k) (parse_sends f.items f.make bs p.0 s.0 p.1)

shape_at_fits : (bs : Bytes) (r : Wire × Bytes) → shape_at bs ≡ some r → WireFits r.0
unfolding shape_at shape_forms form
shape_at_fits bs r e =
    front_sends (λ cs. none) (λ cs q h. absurd (no_some (sym h))) WireFits shape_forms bs r
    (tt, ((λ k h. h), ((λ k h n g. (h, g)), tt))) e

-- ── Lines ─────────────────────────────────────────────────────────────────────────────────

abbrev pub LineFits : Line → Type 0
LineFits (first_line h) = HeaderFits h
LineFits (slot_line s) = Unit {0}
LineFits (shared_line s) = SharedFits s
LineFits (private_line s) = PrivateFits s
LineFits (enum_line n) = n ≤ bits 32
LineFits (native_line w) = WireFits w
LineFits (sig_line g) = SigFits g
LineFits (chunk_line n) = n ≤ bits 16
LineFits (const_line k) = ConstFits k
LineFits (op_line o) = OpFits o
LineFits close_line = Unit {0}

-- the forms of the rows rs, which stand in the table from number n on
ops_fit : (n : ℕ) (rs : List Row) → ((k : ℕ) → get_elem? rs k ≡ get_elem? ops (n + k)) → AllSend LineFits (op_forms n rs)
unfolding op_forms form
ops_fit n [] h = tt
ops_fit n (r ∷ rs) h = (
  (λ ns w. (r, ap (get_elem? ops) (let e : n ≡ n + 0 = omega arith in e) ∙ sym (h 0), w)),
  ops_fit (suc n) rs (λ k. h (suc k) ∙ ap (get_elem? ops) (let e : n + suc k ≡ suc n + k = omega arith in e)),
)

send_append : {A : Type 0} (P : A → Type 0) (xs ys : List (Form A)) → AllSend P xs → AllSend P ys → AllSend P (xs ++ ys)
send_append P [] ys e f = f
send_append P (x ∷ xs) ys e f = (e.0, send_append P xs ys e.1 f)

forms_fit : AllSend LineFits line_forms
unfolding line_forms form
forms_fit = (
  (λ w hw f hf a ha s hs p hp i hi h hh.
      record { word = hw; float = hf; address_log = ha; shared_bytes = hs; pool_bytes = hp; index_trap = hi; host_trap = hh }),
  (
    tt,
    (
      tt,
      (
        (λ o ho k hk n hn. (ho, hk, hn)),
        (
          (λ s hs o ho. (hs, ho)),
          (
            (λ n h. h),
            (
              (λ w h. h),
              (
                (λ r hr s hs ps hp. (hr, hs, hp)),
                (
                  (λ n h. h),
                  (
                    (λ k h. h),
                    (tt, tt),
                  ),
                ),
              ),
            ),
          ),
        ),
      ),
    ),
  ),
)

line_fits : (bs : Bytes) (l : Line) → read_line bs ≡ some l → LineFits l
unfolding read_line
line_fits bs l e =
    whole_sends shape_at shape_at_fits LineFits (line_forms ++ op_forms 0 ops) bs l
    (send_append LineFits line_forms (op_forms 0 ops) forms_fit (ops_fit 0 ops (λ k. ap (get_elem? ops) (sym (zero-add k))))) e

-- ── One line more ─────────────────────────────────────────────────────────────────────────

room : {A : Type 0} (xs : List A) (n : ℕ) → has_room xs n ≡ none → length xs < n
unfolding has_room
room xs n e = ltb→lt (length xs) n (T_of (unless_none (ltb (length xs) n) _ e))

most : (a b : ℕ) (r : List ℕ) → unless (leb a b) r ≡ none → a ≤ b
most a b r e = leb→le a b (T_of (unless_none (leb a b) r e))

one_entry : {A : Type 0} {P : A → Type 0} {n : ℕ} (xs : List A) (x : A) → Table P n xs → P x → length xs < n → Table P n (xs ++ (x ∷ []))
one_entry xs x t p h = record { entries = each_more xs x t.entries p; count = omega (arith, length-append xs (x ∷ [])) }

last-each : {A : Type 0} {P : A → Type 0} (f : A → A) → ((x : A) → P x → P (f x)) → (xs : List A) → Each P xs → Each P (to_last f xs)
unfolding to_last
last-each f h [] e = nobody
last-each f h (x ∷ []) (both p e) = both (h x p) e
last-each f h (x ∷ y ∷ xs) (both p e) = both p (last-each f h (y ∷ xs) e)

last-length : {A : Type 0} (f : A → A) (xs : List A) → length (to_last f xs) ≡ length xs
unfolding to_last
last-length f [] = refl
last-length f (x ∷ []) = refl
last-length f (x ∷ y ∷ xs) = ap suc (last-length f (y ∷ xs))

last_entry : {A : Type 0} {P : A → Type 0} {n : ℕ} (f : A → A) → ((x : A) → P x → P (f x)) → (xs : List A) → Table P n xs → Table P n (to_last f xs)
last_entry f h xs t = record { entries = last-each f h xs t.entries; count = omega (arith, last-length f xs, t.count) }

-- all entries of some kind in the chunks
module _ {A : Type 0} (of : Code → List A) (all : List Code → List A) (step : (c : Code) (cs : List Code) → all (c ∷ cs) ≡ of c ++ all cs) where
  all_one : (cs : List Code) (c : Code) → of c ≡ [] → length (all (cs ++ (c ∷ []))) ≡ length (all cs)
  all_one [] c e = ap length (step c [] ∙ ap (λ (l : List A). l ++ all []) e)
  all_one (d ∷ cs) c e =
      let ih : length (all (cs ++ (c ∷ []))) ≡ length (all cs) = all_one cs c e in
      let p : length (all (d ∷ cs ++ (c ∷ []))) ≡ length (of d) + length (all (cs ++ (c ∷ []))) =
      ap length (step d (cs ++ (c ∷ []))) ∙ length-append (of d) (all (cs ++ (c ∷ []))) in
      let q : length (all (d ∷ cs)) ≡ length (of d) + length (all cs) = ap length (step d cs) ∙ length-append (of d) (all cs) in
      omega arith

  all_last : (f : Code → Code) (n : ℕ) → ((c : Code) → length (of (f c)) ≤ length (of c) + n) → (cs : List Code) →
      length (all (to_last f cs)) ≤ length (all cs) + n
  unfolding to_last
  all_last f n h [] = omega arith
  all_last f n h (c ∷ []) =
      let p : length (all (f c ∷ [])) ≡ length (of (f c)) + length (all []) = ap length (step (f c) []) ∙ length-append (of (f c)) (all []) in
      let q : length (all (c ∷ [])) ≡ length (of c) + length (all []) = ap length (step c []) ∙ length-append (of c) (all []) in
      omega (arith, h c)
  all_last f n h (c ∷ d ∷ cs) =
      let ih : length (all (to_last f (d ∷ cs))) ≤ length (all (d ∷ cs)) + n = all_last f n h (d ∷ cs) in
      let p : length (all (c ∷ to_last f (d ∷ cs))) ≡ length (of c) + length (all (to_last f (d ∷ cs))) =
      ap length (step c (to_last f (d ∷ cs))) ∙ length-append (of c) (all (to_last f (d ∷ cs))) in
      let q : length (all (c ∷ d ∷ cs)) ≡ length (of c) + length (all (d ∷ cs)) = ap length (step c (d ∷ cs)) ∙ length-append (of c) (all (d ∷ cs)) in
      omega arith

consts_step : (c : Code) (cs : List Code) → all_consts (c ∷ cs) ≡ c.consts ++ all_consts cs
unfolding all_consts
consts_step c cs = refl

ops_step : (c : Code) (cs : List Code) → all_ops (c ∷ cs) ≡ c.ops ++ all_ops cs
unfolding all_ops
ops_step c cs = refl

code_const : (k : ℕ) → ConstFits k → (c : Code) → CodeFits c → CodeFits (add_const k c)
unfolding add_const
code_const k h c f = record { locals = f.locals; consts = each_more c.consts k f.consts h; ops = f.ops }

code_op : (o : Op) → OpFits o → (c : Code) → CodeFits c → CodeFits (add_op o c)
unfolding add_op
code_op o h c f = record { locals = f.locals; consts = f.consts; ops = each_more c.ops o f.ops h }

chunk_more : (n : ℕ) (m : Module) → TablesFit m → length m.chunks < 64 → n ≤ 32 → TablesFit (add m (chunk_line n))
unfolding add
chunk_more n m t h k =
    let cs : List Code = m.chunks in
    let c : Code = record { locals = n; consts = []; ops = [] } in
    record {
      slots = t.slots;
      shareds = t.shareds;
      privates = t.privates;
      enums = t.enums;
      natives = t.natives;
      sigs = t.sigs;
      chunks = one_entry cs c t.chunks (record { locals = k; consts = nobody; ops = nobody }) h;
      consts = omega (arith, t.consts, all_one (λ (z : Code). z.consts) all_consts consts_step cs c refl);
      ops = omega (arith, t.ops, all_one (λ (z : Code). z.ops) all_ops ops_step cs c refl);
    }

const_more : (k : ℕ) (m : Module) → TablesFit m → ConstFits k → length (all_consts m.chunks) < 1024 → TablesFit (add m (const_line k))
unfolding add add_const
const_more k m t h l =
    let cs : List Code = m.chunks in
    record {
      slots = t.slots;
      shareds = t.shareds;
      privates = t.privates;
      enums = t.enums;
      natives = t.natives;
      sigs = t.sigs;
      chunks = last_entry (add_const k) (code_const k h) cs t.chunks;
      consts =
          omega (
            arith,
            all_last (λ (z : Code). z.consts) all_consts consts_step (add_const k) 1 (λ c. omega (arith, length-append c.consts (k ∷ []))) cs,
          );
      ops = omega (arith, t.ops, all_last (λ (z : Code). z.ops) all_ops ops_step (add_const k) 0 (λ c. omega arith) cs);
    }

op-more : (o : Op) (m : Module) → TablesFit m → OpFits o → length (all_ops m.chunks) < 4096 → TablesFit (add m (op_line o))
unfolding add add_op
op-more o m t h l =
    let cs : List Code = m.chunks in
    record {
      slots = t.slots;
      shareds = t.shareds;
      privates = t.privates;
      enums = t.enums;
      natives = t.natives;
      sigs = t.sigs;
      chunks = last_entry (add_op o) (code_op o h) cs t.chunks;
      consts = omega (arith, t.consts, all_last (λ (z : Code). z.consts) all_consts consts_step (add_op o) 0 (λ c. omega arith) cs);
      ops =
          omega (
            arith,
            all_last (λ (z : Code). z.ops) all_ops ops_step (add_op o) 1 (λ c. omega (arith, length-append c.ops (o ∷ []))) cs,
          );
    }

-- the tables of a module from those of its parts
abbrev Slots-fit : List Slot → Type 0
Slots-fit = Table (λ (s : Slot). Unit {0}) 256

abbrev SigsFit : List Sig → Type 0
SigsFit = Table (λ (g : Sig). SigFits g × (length g.params ≤ 16)) 64

parts : (m : Module) (s : List Slot) (r : List Shared) (p : List Private) (e : List ℕ) (n : List Wire) (g : List Sig) → TablesFit m →
    Slots-fit s → Table SharedFits 256 r → Table PrivateFits 256 p → Table (λ (k : ℕ). k ≤ bits 32) 64 e → Table WireFits 64 n → SigsFit g →
    TablesFit (record { header = m.header; slots = s; shareds = r; privates = p; enums = e; natives = n; sigs = g; chunks = m.chunks })
parts m s r p e n g t a b c d f h =
    record {
      slots = a;
      shareds = b;
      privates = c;
      enums = d;
      natives = f;
      sigs = h;
      chunks = t.chunks;
      consts = t.consts;
      ops = t.ops;
    }

empty_table : {A : Type 0} (P : A → Type 0) (n : ℕ) → Table P n []
empty_table P n = record { entries = nobody; count = omega arith }

none_yet : (h : Header) → TablesFit (record { header = h; slots = []; shareds = []; privates = []; enums = []; natives = []; sigs = []; chunks = [] })
unfolding all_consts all_ops
none_yet h =
    record {
      slots = empty_table _ 256;
      shareds = empty_table _ 256;
      privates = empty_table _ 256;
      enums = empty_table _ 64;
      natives = empty_table _ 64;
      sigs = empty_table _ 64;
      chunks = empty_table _ 64;
      consts = omega arith;
      ops = omega arith;
    }

tables_more : (m : Module) (l : Line) → LineFits l → limits m l ≡ none → TablesFit m → TablesFit (add m l)
unfolding limits add
tables_more m (first_line h) f e t = none_yet h
tables_more m (slot_line s) f e t =
    parts m _ _ _ _ _ _ t (one_entry m.slots s t.slots tt (room _ 256 e)) t.shareds t.privates t.enums t.natives t.sigs
tables_more m (shared_line s) f e t =
    parts m _ _ _ _ _ _ t t.slots (one_entry m.shareds s t.shareds f (room _ 256 e)) t.privates t.enums t.natives t.sigs
tables_more m (private_line s) f e t =
    parts m _ _ _ _ _ _ t t.slots t.shareds (one_entry m.privates s t.privates f (room _ 256 e)) t.enums t.natives t.sigs
tables_more m (enum_line n) f e t =
    parts m _ _ _ _ _ _ t t.slots t.shareds t.privates (one_entry m.enums n t.enums f (room _ 64 e)) t.natives t.sigs
tables_more m (native_line w) f e t =
    parts m _ _ _ _ _ _ t t.slots t.shareds t.privates t.enums (one_entry m.natives w t.natives f (room _ 64 e)) t.sigs
tables_more m (sig_line g) f e t =
    let p = first_none (has_room m.sigs 64) _ e in
    parts m _ _ _ _ _ _ t t.slots t.shareds t.privates t.enums t.natives
    (one_entry m.sigs g t.sigs (f, most (length g.params) 16 _ p.1) (room _ 64 p.0))
tables_more m (chunk_line n) f e t =
    let p = first_none (has_room m.chunks 64) _ e in
    chunk_more n m t (room _ 64 p.0) (most n 32 _ p.1)
tables_more m (const_line k) f e t = const_more k m t f (room _ 1024 e)
tables_more m (op_line o) f e t = op-more o m t f (room _ 4096 e)
tables_more m close_line f e t = t

-- the instructions of a module name no kind that it lacks
abbrev pub KindsFit : Module → Type 0
KindsFit m = Each (λ (c : Code). Each (HasKind m.header) c.ops) m.chunks

kinds-more : (m : Module) (l : Line) (p q : ℕ) → follow m.header p l ≡ some q → KindsFit m → KindsFit (add m l)
unfolding follow add add_const add_op
kinds-more m (first_line h) p q e k = nobody
kinds-more m (slot_line s) p q e k = k
kinds-more m (shared_line s) p q e k = k
kinds-more m (private_line s) p q e k = k
kinds-more m (enum_line n) p q e k = k
kinds-more m (native_line w) p q e k = k
kinds-more m (sig_line g) p q e k = k
kinds-more m (chunk_line n) p q e k = each_more m.chunks _ k nobody
kinds-more m (const_line c) p q e k = last-each (add_const c) (λ x y. y) m.chunks k
kinds-more m (op_line o) p q e k =
    let t = and_true (within 8 9 p) _ (provided_some _ 9 q e).0 in
    last-each (add_op o) (λ x y. each_more x.ops o y t.1) m.chunks k
kinds-more m close_line p q e k = k

-- ── The reader ────────────────────────────────────────────────────────────────────────────

-- What holds of the reader: its header once the first line is read, and its tables.
record ReaderFits (r : Reader) : Type 0 where
  header : 1 ≤ r.place → HeaderFits r.so_far.header × (r.so_far.header.index_trap ≢ r.so_far.header.host_trap)
  tables : TablesFit r.so_far
  kinds : KindsFit r.so_far

not_true : (b : Bool) → not b ≡ true → b ≡ false
not_true true e = absurd (no_false e)
not_true false e = refl

-- a line other than the first follows only after it
past_first : (a b p : ℕ) → within (suc a) b p ≡ true → 1 ≤ p
unfolding within
past_first a b p e = omega (arith, leb→le (suc a) p (T_of (and_true (leb (suc a) p) (leb p b) e).0))

after_first : (a b p q r : ℕ) → provided (within (suc a) b p) q ≡ some r → 1 ≤ p
after_first a b p q r e = past_first a b p (provided_some (within (suc a) b p) q r e).0

header-more : (r : Reader) (l : Line) (q : ℕ) → follow r.so_far.header r.place l ≡ some q → LineFits l → ReaderFits r →
    HeaderFits (add r.so_far l).header × ((add r.so_far l).header.index_trap ≢ (add r.so_far l).header.host_trap)
unfolding follow add
header-more r (first_line h) q e f g =
    let t = and_true (within 0 0 r.place) _ (provided_some _ 1 q e).0 in
    (f, eqb-false h.index_trap h.host_trap (not_true _ t.1))
header-more r (slot_line s) q e f g = g.header (after_first 0 1 r.place 1 q e)
header-more r (shared_line s) q e f g = g.header (after_first 0 2 r.place 2 q e)
header-more r (private_line s) q e f g = g.header (after_first 0 3 r.place 3 q e)
header-more r (enum_line n) q e f g = g.header (after_first 0 4 r.place 4 q e)
header-more r (native_line w) q e f g = g.header (after_first 0 5 r.place 5 q e)
header-more r (sig_line s) q e f g = g.header (after_first 0 6 r.place 6 q e)
header-more r (chunk_line n) q e f g = g.header (after_first 0 7 r.place 8 q e)
header-more r (const_line k) q e f g = g.header (after_first 7 8 r.place 8 q e)
header-more r (op_line o) q e f g = g.header (past_first 7 9 r.place (and_true (within 8 9 r.place) _ (provided_some _ 9 q e).0).0)
header-more r close_line q e f g = g.header (after_first 0 9 r.place _ q e)

or_line_ok : {A : Type 0} (n : ℕ) (o : Option A) (a : A) → or_line n o ≡ ok a → o ≡ some a
unfolding or_line
or_line_ok n none a e = absurd (no_ok e)
or_line_ok n (some b) a e = ap some (ok_inj e)

next_fits : (n : ℕ) (r q : Reader) (bs : Bytes) → next_line n r bs ≡ ok q → ReaderFits r → ReaderFits q
unfolding next_line
next_fits n r q bs e g =
    let a = bind_ok (or_line n (read_line bs)) _ q e in
    let l : Line = a.0 in
    let f : LineFits l = line_fits bs l (or_line_ok n (read_line bs) l a.1) in
    let b = bind_ok (or_line n (follow r.so_far.header r.place l)) _ q a.2 in
    let h : follow r.so_far.header r.place l ≡ some b.0 = or_line_ok n (follow r.so_far.header r.place l) b.0 b.1 in
    let d = pass_ok (limits r.so_far l) (record { place = b.0; so_far = add r.so_far l }) q b.2 in
    subst ReaderFits d.1
    (record { header = λ k. header-more r l b.0 h f g; tables = tables_more r.so_far l f d.0 g.tables; kinds = kinds-more r.so_far l _ _ h g.kinds })

-- What a listing gives, where it is read.
pub record Fits (m : Module) : Type 0 where
  pub header : HeaderFits m.header
  pub traps : m.header.index_trap ≢ m.header.host_trap
  pub tables : TablesFit m
  pub kinds : KindsFit m

lines_fit : (n : ℕ) (r : Reader) (ls : Lines) (m : Module) → read_lines n r ls ≡ ok m → ReaderFits r → Fits m
unfolding read_lines
lines_fit n r (end rest) m e g =
    let p = provided_some (eqb r.place 10 && is_empty rest) r.so_far m (or_line_ok n _ m e) in
    let k : r.place ≡ 10 = eqb_eq (and_true (eqb r.place 10) _ p.0).0 in
    let h = g.header (omega arith) in
    subst Fits p.1 (record { header = h.0; traps = h.1; tables = g.tables; kinds = g.kinds })
lines_fit n r (line l ls) m e g =
    let p = bind_ok (next_line n r l) _ m e in
    lines_fit (suc n) p.0 ls m p.2 (next_fits n r p.0 l p.1 g)

-- Every number of a module that was read fits its bits, every op is of a row and has this row's operands, and no table is overfull.
pub read_fits : (listing : Bytes) (m : Module) → read listing ≡ ok m → Fits m
unfolding read at_start
read_fits listing m e =
    let p = bind_ok (pass (unless (leb (length listing) 65536) (limit 1)) listing) _ m e in
    lines_fit 0 at_start (cut p.0) m p.2 (record { header = λ h. absurd (omega arith); tables = none_yet _; kinds = nobody })

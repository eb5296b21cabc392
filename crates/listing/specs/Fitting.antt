-- Every number of a module that is read is within what its line may say.
use Rattle.std.proofs.Math.Path.{◌≡◌, subst}
use Rattle.std.specs.Prelude.{refl, Bool, ◌&&◌, ◌||◌, T, eqb, length, get_or}
use Rattle.std.proofs.Common.{sym, ap, ◌∙◌, arith, add-zero, add-suc, suc-add, zero-add, eqb→eq, leb→le, leb-true}
use Rattle.std.proofs.Math.Bool.{true, false}
use Rattle.std.proofs.Math.Option.{Option, none, some}
use mathlib.Core.List.{List, [], ◌∷◌, ◌++◌, map}
use Prim.Native.Nat.{ℕ, zero, suc, ◌+◌, ◌≤◌, ◌<◌}
use Rattle.std.proofs.Math.Dec.{leb}
use Rattle.std.specs.Float.Ieee.Fits.{and_l, and_r}
use Rattle.definition.specs.Basics.{Result, ok, refused, ◌>>=◌, first, unless, pass, is_member}
use Rattle.definition.specs.Shapes.{Wire}
use Rattle.definition.specs.Format.{Bytes, bytes, Item, text, number, among, numbers, shape, shapes, Form, form, Maker, ShapeReader, parse, front}
use Rattle.definition.specs.Format.{shape_forms, shape_at, shapes_at, begins_with, strip, number_at, numbers_at, provided, ◌and_then◌, nothing_after, whole, digits_from, begins_number}
use Rattle.definition.specs.Ops.{Row, ops}
use Rattle.definition.specs.Module.{Module, Code}
use Rattle.definition.specs.Read.{Line, first_line, slot_line, shared_line, private_line, enum_line, native_line, sig_line, chunk_line, const_line}
use Rattle.definition.specs.Read.{op_line, close_line, line_forms, op_forms, read_line, limits, add, add_const, add_op, to_last, Reader, at_start}
use Rattle.definition.specs.Read.{or_line, next_line, follow, Lines, line, end, cut, read_lines, read}
use Rattle.theorems.specs.Rendered.{Values, at_values}
use Rattle.bytecode.specs.Lists.{All}
use Rattle.bytecode.specs.Meaning.{maxima_in, maxima_of}
use Rattle.bytecode.specs.Fits.{WireFits, HeaderFits, SharedFits, PrivateFits, SigFits, Within, OpFits, ConstFits, EnumFits, CodeFits, ModuleFits}

-- ── Values ────────────────────────────────────────────────────────────────────────────────

abbrev ValuesFit : (is : List Item) → Values is → Type 0
ValuesFit [] v = Unit {0}
ValuesFit (text s ∷ is) v = ValuesFit is v
ValuesFit (number m ∷ is) v = (v.0 ≤ m) × ValuesFit is v.1
ValuesFit (among ns ∷ is) v = T (is_member v.0 ns) × ValuesFit is v.1
ValuesFit (numbers ms ∷ is) v = Within ms v.0 × ValuesFit is v.1
ValuesFit (shape ∷ is) v = WireFits v.0 × ValuesFit is v.1
ValuesFit (shapes ∷ is) v = All WireFits v.0 × ValuesFit is v.1

no_some : {A : Type 0} {x : A} → none ≡ some x → ⊥
no_some e = let z : ◌≡◌ {A = ℕ} 0 1 = cc in omega arith

then_some : {A B : Type 0} (o : Option A) (g : A → Option B) (r : B) → (o and_then g) ≡ some r → (a : A) × (o ≡ some a) × (g a ≡ some r)
unfolding ◌and_then◌
then_some none g r e = absurd (no_some e)
then_some (some a) g r e = (a, refl, e)

provided_is : {A : Type 0} (b : Bool) (a r : A) → provided b a ≡ some r → T b × (a ≡ r)
unfolding provided
provided_is true a r e = (tt, cc)
provided_is false a r e = absurd (no_some e)

number_fits : (f : ℕ → Bool) (bs : Bytes) (r : ℕ × Bytes) → number_at f bs ≡ some r → T (f r.0)
unfolding number_at
number_fits f [] r e = absurd (no_some e)
number_fits f (b ∷ bs) r e =
    let p = provided_is _ (digits_from 0 bs) r e in
    subst (λ (x : ℕ × Bytes). T (f x.0)) p.1 (and_r (begins_number bs) (f (digits_from 0 bs).0) (and_r (eqb b 32) _ p.0))

pub numbers_fit : (ms : List ℕ) (bs : Bytes) (r : List ℕ × Bytes) → numbers_at ms bs ≡ some r → Within ms r.0
unfolding numbers_at
numbers_fit [] bs r e = let d : ◌≡◌ {A = List ℕ × Bytes} ([], bs) r = cc in subst (λ (x : List ℕ × Bytes). Within [] x.0) d tt
numbers_fit (m ∷ ms) bs r e =
    let p = then_some (number_at (λ n. leb n m) bs) _ r e in
    let q = then_some (numbers_at ms p.0.1) _ r p.2 in
    let d : ◌≡◌ {A = List ℕ × Bytes} (p.0.0 ∷ q.0.0, q.0.1) r = cc in
    subst (λ (x : List ℕ × Bytes). Within (m ∷ ms) x.0) d
    (leb→le p.0.0 m (number_fits (λ n. leb n m) bs p.0 p.1), numbers_fit ms p.0.1 q.0 q.1)

-- as many as there are maxima
pub within_long : (ms ns : List ℕ) → Within ms ns → length ns ≡ length ms
within_long [] [] w = refl
within_long [] (n ∷ ns) w = absurd w
within_long (m ∷ ms) [] w = absurd w
within_long (m ∷ ms) (n ∷ ns) w = ap suc (within_long ms ns w.1)

module _ (reader : ShapeReader) (good : (bs : Bytes) (r : Wire × Bytes) → reader bs ≡ some r → WireFits r.0) where
  shapes_fit : (n : ℕ) (bs : Bytes) (r : List Wire × Bytes) → shapes_at reader n bs ≡ some r → All WireFits r.0
  unfolding shapes_at
  shapes_fit zero bs r e = let d : ◌≡◌ {A = List Wire × Bytes} ([], bs) r = cc in subst (λ (x : List Wire × Bytes). All WireFits x.0) d tt
  shapes_fit (suc n) bs r e = go (begins_with 32 bs) e (λ b x. shapes_fit n b x)
    where
      go : (x : Bool)
          → ◌≡◌ {A = Option (List Wire × Bytes)} (elim x [
            | true ↦ (reader bs and_then λ r. shapes_at reader n r.1 and_then λ q. some (r.0 ∷ q.0, q.1))
            | false ↦ some ([], bs)
          ]) (some r)
          → ((b : Bytes) (y : List Wire × Bytes) → shapes_at reader n b ≡ some y → All WireFits y.0) → All WireFits r.0
      go true h ih =
          let p = then_some (reader bs) _ r h in
          let q = then_some (shapes_at reader n p.0.1) _ r p.2 in
          let d : ◌≡◌ {A = List Wire × Bytes} (p.0.0 ∷ q.0.0, q.0.1) r = cc in
          subst (λ (y : List Wire × Bytes). All WireFits y.0) d (good bs p.0 p.1, ih p.0.1 q.0 q.1)
      go false h ih = let d : ◌≡◌ {A = List Wire × Bytes} ([], bs) r = cc in subst (λ (y : List Wire × Bytes). All WireFits y.0) d tt

  -- What a form makes of values that fit.
  pub parse_fits : {A : Type 0} (is : List Item) (f : Maker is A) (bs : Bytes) (r : A × Bytes) → parse reader is f bs ≡ some r
      → (v : Values is) × ValuesFit is v × (r.0 ≡ at_values is f v)
  unfolding parse
  parse_fits [] f bs r e = (tt, tt, cc)
  parse_fits (text s ∷ is) f bs r e =
      let p = then_some (strip (bytes s) bs) _ r e in
      parse_fits is f p.0 r p.2
  parse_fits (number m ∷ is) f bs r e =
      let p = then_some (number_at (λ n. leb n m) bs) _ r e in
      let q = parse_fits is (f p.0.0) p.0.1 r p.2 in
      ((p.0.0, q.0), (leb→le p.0.0 m (number_fits (λ n. leb n m) bs p.0 p.1), q.1), q.2)
  parse_fits (among ns ∷ is) f bs r e =
      let p = then_some (number_at (λ n. is_member n ns) bs) _ r e in
      let q = parse_fits is (f p.0.0) p.0.1 r p.2 in
      ((p.0.0, q.0), (number_fits (λ n. is_member n ns) bs p.0 p.1, q.1), q.2)
  parse_fits (numbers ms ∷ is) f bs r e =
      let p = then_some (numbers_at ms bs) _ r e in
      let q = parse_fits is (f p.0.0) p.0.1 r p.2 in
      ((p.0.0, q.0), (numbers_fit ms bs p.0 p.1, q.1), q.2)
  parse_fits (shape ∷ is) f bs r e =
      let p = then_some (reader bs) _ r e in
      let q = parse_fits is (f p.0.0) p.0.1 r p.2 in
      ((p.0.0, q.0), (good bs p.0 p.1, q.1), q.2)
  parse_fits (shapes ∷ is) f bs r e =
      let p = then_some (shapes_at reader (length bs) bs) _ r e in
      let q = parse_fits is (f p.0.0) p.0.1 r p.2 in
      ((p.0.0, q.0), (shapes_fit (length bs) bs p.0 p.1, q.1), q.2)

-- ── Shapes ────────────────────────────────────────────────────────────────────────────────

abbrev MakesFitting : {A : Type 0} → (A → Type 0) → List (Form A) → Type 0
MakesFitting P [] = Unit {0}
MakesFitting P (f ∷ fs) = ((v : Values f.items) → ValuesFit f.items v → P (at_values f.items f.make v)) × MakesFitting P fs

none_good : (bs : Bytes) (r : Wire × Bytes) → none ≡ some r → WireFits r.0
none_good bs r e = absurd (no_some e)

front_fits : (fs : List (Form Wire)) (bs : Bytes) (r : Wire × Bytes) → MakesFitting WireFits fs → front (λ b. none) fs bs ≡ some r → WireFits r.0
unfolding front
front_fits [] bs r m e = absurd (no_some e)
front_fits (f ∷ fs) bs r m e = go (parse (λ b. none) f.items f.make bs) refl e (λ d. front_fits fs bs r m.1 d)
  where
    go : (o : Option (Wire × Bytes)) → parse (λ b. none) f.items f.make bs ≡ o
        → ◌≡◌ {A = Option (Wire × Bytes)} (elim o [ some x ↦ some x | none ↦ front (λ b. none) fs bs ]) (some r)
        → (front (λ b. none) fs bs ≡ some r → WireFits r.0) → WireFits r.0
    go none p d ih = ih d
    go (some x) p d ih =
        let q = parse_fits (λ b. none) none_good f.items f.make bs x p in
        let k : x ≡ r = cc in
        subst (λ (y : Wire × Bytes). WireFits y.0) k (subst WireFits (sym q.2) (m.0 q.0 q.1))

shape_fits : (bs : Bytes) (r : Wire × Bytes) → shape_at bs ≡ some r → WireFits r.0
unfolding shape_at shape_forms form
shape_fits bs r e = front_fits shape_forms bs r (λ v f. tt, (λ v f. f.0, (λ v f. (f.0, f.1.0), tt))) e

-- ── Lines ─────────────────────────────────────────────────────────────────────────────────

abbrev LineFits : Line → Type 0
LineFits (first_line h) = HeaderFits h
LineFits (slot_line s) = Unit {0}
LineFits (shared_line s) = SharedFits s
LineFits (private_line s) = PrivateFits s
LineFits (enum_line n) = EnumFits n
LineFits (native_line w) = WireFits w
LineFits (sig_line g) = WireFits g.ret × WireFits g.resume × All WireFits g.params
LineFits (chunk_line n) = Unit {0}
LineFits (const_line k) = ConstFits k
LineFits (op_line o) = OpFits o
LineFits close_line = Unit {0}

all_small : ℕ → List ℕ → Bool
all_small m [] = true
all_small m (y ∷ ys) = leb y m && all_small m ys

member_small : (m x : ℕ) (ys : List ℕ) → T (all_small m ys) → T (is_member x ys) → x ≤ m
unfolding is_member all_small
member_small m x [] a t = absurd t
member_small m x (y ∷ ys) a t = go (eqb x y) refl t (λ u. member_small m x ys (and_r (leb y m) (all_small m ys) a) u)
  where
    go : (b : Bool) → eqb x y ≡ b → T (b || is_member x ys) → (T (is_member x ys) → x ≤ m) → x ≤ m
    go true e t ih =
        let l : y ≤ m = leb→le y m (and_l (leb y m) (all_small m ys) a) in
        let k : x ≡ y = eqb→eq x y (subst T (sym e) tt) in
        omega arith
    go false e t ih = ih t

lines_fit : MakesFitting LineFits line_forms
unfolding line_forms form all_small
lines_fit = (
  λ v f. record {
    word = member_small 8 _ (1 ∷ 2 ∷ 4 ∷ 8 ∷ []) tt f.0;
    float = member_small 8 _ (0 ∷ 1 ∷ 2 ∷ 4 ∷ 8 ∷ []) tt f.1.0;
    address_log = member_small 6 _ (3 ∷ 4 ∷ 5 ∷ 6 ∷ []) tt f.1.1.0;
    shared_bytes = f.1.1.1.0;
    pool_bytes = f.1.1.1.1.0;
    index_trap = f.1.1.1.1.1.0;
    host_trap = f.1.1.1.1.1.1.0;
  },
  (
    λ v f. tt,
    (
      λ v f. tt,
      (
        λ v f. record { offset = f.0; kind = f.1.0; len = f.1.1.0 },
        (
          λ v f. record { slot = f.0; offset = f.1.0 },
          (
            λ v f. f.0,
            (
              λ v f. f.0,
              (
                λ v f. (f.0, f.1.0, f.1.1.0),
                (λ v f. tt, (λ v f. member_small 255 _ (0 ∷ 1 ∷ 2 ∷ 3 ∷ 4 ∷ 5 ∷ 6 ∷ 255 ∷ []) tt f.0, (λ v f. tt, tt))),
              ),
            ),
          ),
        ),
      ),
    ),
  ),
)

ops_fit : (n : ℕ) (rs : List Row) → n + length rs ≡ 75 → ((i : ℕ) → i < length rs → get_or (map maxima_in rs) i [] ≡ maxima_of (n + i))
    → MakesFitting LineFits (op_forms n rs)
unfolding op_forms form
ops_fit n [] l mx = tt
ops_fit n (r ∷ rs) l mx = (
  λ v f.
      record { code = omega arith; operands = subst (λ (ms : List ℕ). Within ms v.0) (mx 0 (omega arith) ∙ ap maxima_of (add-zero n)) f.0 },
  ops_fit (suc n) rs (omega arith) (λ i h. mx (suc i) (omega arith) ∙ ap maxima_of (add-suc n i ∙ sym (suc-add n i))),
)

both_fit : (fs gs : List (Form Line)) → MakesFitting LineFits fs → MakesFitting LineFits gs → MakesFitting LineFits (fs ++ gs)
both_fit [] gs a b = b
both_fit (f ∷ fs) gs a b = (a.0, both_fit fs gs a.1 b)

ops_long : length ops ≡ 75
unfolding ops
ops_long = refl

after : (r : Line × Bytes) (a : Line) → nothing_after r ≡ some a → r.0 ≡ a
unfolding nothing_after
after r a d = alone r.1 d
  where
    alone : (b : Bytes) → ◌≡◌ {A = Option Line} (elim b [ [] ↦ some r.0 | x ∷ xs ↦ none ]) (some a) → r.0 ≡ a
    alone [] d = cc
    alone (x ∷ xs) d = absurd (no_some d)

whole_fits : (fs : List (Form Line)) (bs : Bytes) (l : Line) → MakesFitting LineFits fs → whole shape_at fs bs ≡ some l → LineFits l
unfolding whole
whole_fits [] bs l m e = absurd (no_some e)
whole_fits (f ∷ fs) bs l m e = go (parse shape_at f.items f.make bs and_then nothing_after) refl e (λ d. whole_fits fs bs l m.1 d)
  where
    go : (o : Option Line) → (parse shape_at f.items f.make bs and_then nothing_after) ≡ o
        → ◌≡◌ {A = Option Line} (elim o [ some a ↦ some a | none ↦ whole shape_at fs bs ]) (some l) → (whole shape_at fs bs ≡ some l → LineFits l) → LineFits l
    go none p d ih = ih d
    go (some a) p d ih =
        let x = then_some (parse shape_at f.items f.make bs) nothing_after a p in
        let q = parse_fits shape_at shape_fits f.items f.make bs x.0 x.1 in
        let k : a ≡ l = cc in
        subst LineFits (sym q.2 ∙ after x.0 a x.2 ∙ k) (m.0 q.0 q.1)

line_fits : (bs : Bytes) (l : Line) → read_line bs ≡ some l → LineFits l
unfolding read_line maxima_of
line_fits bs l e =
    whole_fits (line_forms ++ op_forms 0 ops) bs l
    (both_fit line_forms (op_forms 0 ops) lines_fit (ops_fit 0 ops (omega (arith, ops_long)) (λ i h. ap (λ (k : ℕ). get_or (map maxima_in ops) k []) (sym (zero-add i)))))
    e

-- ── The module so far ─────────────────────────────────────────────────────────────────────

all_more : {A : Type 0} (P : A → Type 0) (xs : List A) (x : A) → All P xs → P x → All P (xs ++ (x ∷ []))
all_more P [] x a p = (p, tt)
all_more P (y ∷ xs) x a p = (a.0, all_more P xs x a.1 p)

last_fits : (f : Code → Code) → ((c : Code) → CodeFits c → CodeFits (f c)) → (cs : List Code) → All CodeFits cs → All CodeFits (to_last f cs)
unfolding to_last
last_fits f g [] a = tt
last_fits f g (c ∷ []) a = (g c a.0, tt)
last_fits f g (c ∷ d ∷ cs) a = (a.0, last_fits f g (d ∷ cs) a.1)

second : (a b : Option (List ℕ)) → first a b ≡ none → b ≡ none
unfolding first
second none b e = e
second (some r) b e = absurd (no_some (sym e))

unless_true : (b : Bool) (r : List ℕ) → unless b r ≡ none → b ≡ true
unfolding unless
unless_true true r e = refl
unless_true false r e = absurd (no_some (sym e))

add_fits : (m : Module) (l : Line) → ModuleFits m → LineFits l → limits m l ≡ none → ModuleFits (add m l)
unfolding add limits add_const add_op
add_fits m (first_line h) f p e =
    record { header = p; shareds = tt; privates = tt; enums = tt; natives = tt; sigs = tt; chunks = tt }
add_fits m (slot_line s) f p e =
    record { header = f.header; shareds = f.shareds; privates = f.privates; enums = f.enums; natives = f.natives; sigs = f.sigs; chunks = f.chunks }
add_fits m (shared_line s) f p e =
    record {
      header = f.header;
      shareds = all_more SharedFits m.shareds s f.shareds p;
      privates = f.privates;
      enums = f.enums;
      natives = f.natives;
      sigs = f.sigs;
      chunks = f.chunks;
    }
add_fits m (private_line s) f p e =
    record {
      header = f.header;
      shareds = f.shareds;
      privates = all_more PrivateFits m.privates s f.privates p;
      enums = f.enums;
      natives = f.natives;
      sigs = f.sigs;
      chunks = f.chunks;
    }
add_fits m (enum_line n) f p e =
    record {
      header = f.header;
      shareds = f.shareds;
      privates = f.privates;
      enums = all_more EnumFits m.enums n f.enums p;
      natives = f.natives;
      sigs = f.sigs;
      chunks = f.chunks;
    }
add_fits m (native_line w) f p e =
    record {
      header = f.header;
      shareds = f.shareds;
      privates = f.privates;
      enums = f.enums;
      natives = all_more WireFits m.natives w f.natives p;
      sigs = f.sigs;
      chunks = f.chunks;
    }
add_fits m (sig_line g) f p e =
    let few : length g.params ≤ 16 = leb-true (length g.params) 16 (unless_true _ _ (second _ _ e)) in
    record {
      header = f.header;
      shareds = f.shareds;
      privates = f.privates;
      enums = f.enums;
      natives = f.natives;
      sigs = all_more SigFits m.sigs g f.sigs (record { ret = p.0; resume = p.1; params = p.2; few = few });
      chunks = f.chunks;
    }
add_fits m (chunk_line n) f p e =
    let small : n ≤ 32 = leb-true n 32 (unless_true _ _ (second _ _ e)) in
    record {
      header = f.header;
      shareds = f.shareds;
      privates = f.privates;
      enums = f.enums;
      natives = f.natives;
      sigs = f.sigs;
      chunks = all_more CodeFits m.chunks _ f.chunks (record { locals = small; consts = tt; ops = tt });
    }
add_fits m (const_line k) f p e =
    record {
      header = f.header;
      shareds = f.shareds;
      privates = f.privates;
      enums = f.enums;
      natives = f.natives;
      sigs = f.sigs;
      chunks =
          last_fits (add_const k)
          (λ c d. record { locals = d.locals; consts = all_more ConstFits c.consts k d.consts p; ops = d.ops })
          m.chunks f.chunks;
    }
add_fits m (op_line o) f p e =
    record {
      header = f.header;
      shareds = f.shareds;
      privates = f.privates;
      enums = f.enums;
      natives = f.natives;
      sigs = f.sigs;
      chunks =
          last_fits (add_op o)
          (λ c d. record { locals = d.locals; consts = d.consts; ops = all_more OpFits c.ops o d.ops p })
          m.chunks f.chunks;
    }
add_fits m close_line f p e = f

start_fits : ModuleFits at_start.so_far
unfolding at_start
start_fits =
    record {
      header =
          record {
            word = omega arith;
            float = omega arith;
            address_log = omega arith;
            shared_bytes = omega arith;
            pool_bytes = omega arith;
            index_trap = omega arith;
            host_trap = omega arith;
          };
      shareds = tt;
      privates = tt;
      enums = tt;
      natives = tt;
      sigs = tt;
      chunks = tt;
    }

-- ── The reader ────────────────────────────────────────────────────────────────────────────

no_ok : {A : Type 0} {x : A} {r : List ℕ} → refused r ≡ ok x → ⊥
no_ok e = let z : ◌≡◌ {A = ℕ} 0 1 = cc in omega arith

then_ok : {A B : Type 0} (o : Result A) (g : A → Result B) (r : B) → (o >>= g) ≡ ok r → (a : A) × (o ≡ ok a) × (g a ≡ ok r)
unfolding ◌>>=◌
then_ok (ok a) g r e = (a, refl, e)
then_ok (refused x) g r e = absurd (no_ok e)

line_ok : {A : Type 0} (n : ℕ) (o : Option A) (a : A) → or_line n o ≡ ok a → o ≡ some a
unfolding or_line
line_ok n none a e = absurd (no_ok e)
line_ok n (some x) a e = let k : x ≡ a = cc in ap some k

pass_ok : {A : Type 0} (t : Option (List ℕ)) (a r : A) → pass t a ≡ ok r → (t ≡ none) × (a ≡ r)
unfolding pass
pass_ok none a r e = (refl, cc)
pass_ok (some x) a r e = absurd (no_ok e)

next_fits : (n : ℕ) (r q : Reader) (bs : Bytes) → next_line n r bs ≡ ok q → ModuleFits r.so_far → ModuleFits q.so_far
unfolding next_line
next_fits n r q bs e f =
    let a = then_ok (or_line n (read_line bs)) _ q e in
    let b = then_ok (or_line n (follow r.so_far.header r.place a.0)) _ q a.2 in
    let c = pass_ok (limits r.so_far a.0) _ q b.2 in
    subst (λ (x : Reader). ModuleFits x.so_far) c.1 (add_fits r.so_far a.0 f (line_fits bs a.0 (line_ok n (read_line bs) a.0 a.1)) c.0)

lines_fits : (n : ℕ) (r : Reader) (ls : Lines) (m : Module) → read_lines n r ls ≡ ok m → ModuleFits r.so_far → ModuleFits m
unfolding read_lines
lines_fits n r (end rest) m e f =
    let p = provided_is _ r.so_far m (line_ok n _ m e) in
    subst ModuleFits p.1 f
lines_fits n r (line l ls) m e f =
    let a = then_ok (next_line n r l) _ m e in
    lines_fits (suc n) a.0 ls m a.2 (next_fits n r a.0 l a.1 f)

-- A module that is read fits.
pub read_fits : (bs : Bytes) (m : Module) → read bs ≡ ok m → ModuleFits m
unfolding read
read_fits bs m e =
    let a = then_ok (pass (unless (leb (length bs) 65536) _) bs) _ m e in
    lines_fits 0 at_start (cut a.0) m a.2 start_fits

-- A line that is read is written as the same bytes, and a line that is written is read as the same line.
use Rattle.std.specs.Prelude.{◌≡◌, Bool, false, ◌&&◌, ℕ, zero, suc, ◌+◌, ◌≤◌, length}
use Rattle.std.proofs.Math.Path.{refl, sym, ap, subst}
use Rattle.std.proofs.Common.{◌∙◌, zero-add, arith}
use Rattle.std.proofs.Math.Bool.{true}
use Rattle.std.proofs.Math.Option.{Option, none, some}
use mathlib.Core.List.{List, [], ◌∷◌, ◌++◌, append-nil}
use Rattle.std.proofs.Math.ListN.{get_elem?}
use Rattle.definition.specs.Basics.{is_member}
use Rattle.definition.specs.Shapes.{Wire, top, scalar_w, flat_w}
use Rattle.definition.specs.Format.{Bytes, Item, Maker, Form, form, ShapeReader, parse, front, begins_with, ◌and_then◌, nothing_after, whole}
use Rattle.definition.specs.Format.{shape_forms, shape_at, top_items, scalar_items, flat_items}
use Rattle.definition.specs.Ops.{Row, ops, Op}
use Rattle.definition.specs.Module.{shared, private}
use Rattle.definition.specs.Read.{Line, first_line, slot_line, shared_line, private_line, enum_line, native_line, sig_line, chunk_line, const_line, op_line}
use Rattle.definition.specs.Read.{close_line, header_items, slot_items, shared_items, private_items, enum_items, native_items, sig_items, chunk_items}
use Rattle.definition.specs.Read.{const_items, op_items, close_items, line_forms, op_forms, read_line}
use Rattle.definition.specs.Write.{render, admits, at_shape, shape_text, is_shape, at_row, at_slot, at_line, line_text, is_line}
use Rattle.definition.proofs.Open.{computing}
use Rattle.theorems.specs.Cover.{no_some, no_false, T_of, and_true}
use Rattle.theorems.specs.Keys.{key, keys, apart, apart_from, all_apart, keys-apart}
use Rattle.theorems.specs.Decimal.{one_line}
use Rattle.theorems.specs.Rendered.{Values, at_values, text_of, render_is, held, admits_is, ShapeWas, parsed}
use Rattle.theorems.specs.Reread
use Rattle.theorems.specs.Reread.{clear_cut, ShapeBack, parse_back, text_line, front_at, whole_at}

-- ── Forms that make what is written ───────────────────────────────────────────────────────

some_inj : {A : Type 0} {x y : A} → some x ≡ some y → x ≡ y
some_inj e = cc

then_some : {A B : Type 0} (o : Option A) (k : A → Option B) (b : B) → o and_then k ≡ some b → (a : A) × (o ≡ some a) × (k a ≡ some b)
unfolding ◌and_then◌
then_some none k b e = absurd (no_some (sym e))
then_some (some a) k b e = (a, refl, e)

-- what a form makes of values is written as they are, and may be said where they may
abbrev Own : {A : Type 0} → (Wire → Bytes) → (Wire → Bool) → (A → Bytes) → (A → Bool) → Form A → Type 0
Own writer test wr ts f =
    (vs : Values f.items) →
    (wr (at_values f.items f.make vs) ≡ text_of writer f.items vs) × (ts (at_values f.items f.make vs) ≡ held test f.items vs)

abbrev AllOwn : {A : Type 0} → (Wire → Bytes) → (Wire → Bool) → (A → Bytes) → (A → Bool) → List (Form A) → Type 0
AllOwn writer test wr ts [] = Unit {0}
AllOwn writer test wr ts (f ∷ fs) = Own writer test wr ts f × AllOwn writer test wr ts fs

module _ {A : Type 0} (reader : ShapeReader) (writer : Wire → Bytes) (test : Wire → Bool) (sw : ShapeWas reader writer test)
    (wr : A → Bytes) (ts : A → Bool) where
  form_was : (f : Form A) → Own writer test wr ts f → (bs : Bytes) (r : A × Bytes) → parse reader f.items f.make bs ≡ some r →
      (bs ≡ wr r.0 ++ r.1) × (ts r.0 ≡ true)
  form_was f o bs r e =
      let p = parsed reader writer test sw f.items f.make bs r e in
      let q = o p.vs in
      subst (λ (a : A). (bs ≡ wr a ++ r.1) × (ts a ≡ true)) (sym p.makes)
      (p.same ∙ ap (λ (l : Bytes). l ++ r.1) (sym q.0), q.1 ∙ p.fit)

  front_was : (fs : List (Form A)) → AllOwn writer test wr ts fs → (bs : Bytes) (r : A × Bytes) → front reader fs bs ≡ some r →
      (bs ≡ wr r.0 ++ r.1) × (ts r.0 ≡ true)
  unfolding front
  front_was [] o bs r e = absurd (no_some (sym e))
  front_was (f ∷ fs) o bs r e = go (parse reader f.items f.make bs) refl e (front_was fs o.1 bs r)
    where
      go : (x : Option (A × Bytes)) → parse reader f.items f.make bs ≡ x →
          elim x as (λ z. Option (A × Bytes)) [ some q ↦ some q | none ↦ front reader fs bs ] ≡ some r →
          (front reader fs bs ≡ some r → (bs ≡ wr r.0 ++ r.1) × (ts r.0 ≡ true)) → (bs ≡ wr r.0 ++ r.1) × (ts r.0 ≡ true)
      go none h k ih = ih k
      go (some q) h k ih = form_was f o.0 bs r (h ∙ k)

  ends_there : (r : A × Bytes) (a : A) → nothing_after r ≡ some a → (r.0 ≡ a) × (r.1 ≡ [])
  unfolding nothing_after
  ends_there r a e = go r.1 refl e
    where
      go : (bs : Bytes) → r.1 ≡ bs → elim bs as (λ z. Option A) [ [] ↦ some r.0 | b ∷ cs ↦ none ] ≡ some a → (r.0 ≡ a) × (r.1 ≡ [])
      go [] p h = (some_inj h, p)
      go (b ∷ cs) p h = absurd (no_some (sym h))

  whole_was : (fs : List (Form A)) → AllOwn writer test wr ts fs → (bs : Bytes) (a : A) → whole reader fs bs ≡ some a → (bs ≡ wr a) × (ts a ≡ true)
  unfolding whole
  whole_was [] o bs a e = absurd (no_some (sym e))
  whole_was (f ∷ fs) o bs a e = go (parse reader f.items f.make bs and_then nothing_after) refl e (whole_was fs o.1 bs a)
    where
      go : (x : Option A) → parse reader f.items f.make bs and_then nothing_after ≡ x →
          elim x as (λ z. Option A) [ some q ↦ some q | none ↦ whole reader fs bs ] ≡ some a →
          (whole reader fs bs ≡ some a → (bs ≡ wr a) × (ts a ≡ true)) → (bs ≡ wr a) × (ts a ≡ true)
      go none h k ih = ih k
      go (some q) h k ih =
          let p = then_some (parse reader f.items f.make bs) nothing_after a (h ∙ k) in
          let w = form_was f o.0 bs p.0 p.1 in
          let z = ends_there p.0 a p.2 in
          subst (λ (x : A). (bs ≡ wr x) × (ts x ≡ true)) z.0
          (w.0 ∙ ap (λ (l : Bytes). wr p.0.0 ++ l) z.1 ∙ append-nil (wr p.0.0), w.1)

-- ── Shapes ────────────────────────────────────────────────────────────────────────────────

no_shape : ShapeWas (λ bs. none) (λ w. []) (λ w. false)
no_shape = record { was = λ bs r e. absurd (no_some (sym e)) }

shape_own : AllOwn (λ w. []) (λ w. false) shape_text is_shape shape_forms
unfolding shape_forms form shape_text is_shape at_shape
shape_own = (
  (λ vs. (render_is (λ w. []) [] top_items vs, admits_is (λ w. false) true top_items vs)),
  (
    (λ vs. (render_is (λ w. []) [] scalar_items vs, admits_is (λ w. false) true scalar_items vs)),
    (
      (λ vs. (render_is (λ w. []) [] flat_items vs, admits_is (λ w. false) true flat_items vs)),
      tt,
    ),
  ),
)

pub shape_was : ShapeWas shape_at shape_text is_shape
unfolding shape_at
shape_was = record { was = λ bs r e. front_was (λ cs. none) (λ w. []) (λ w. false) no_shape shape_text is_shape shape_forms shape_own bs r e }

shape_keys : all_apart (keys shape_forms) ≡ true
unfolding computing key apart apart_from all_apart keys
shape_keys = refl

no_shape_back : ShapeBack (λ bs. none) (λ w. []) (λ w. false)
unfolding one_line
no_shape_back =
    record { back = λ w rest e. absurd (no_false e); first = λ w rest e. absurd (no_false e); long = λ w e. absurd (no_false e); line = λ w. refl }

-- one form of a shape
shape_form_back : (i : ℕ) (is : List Item) (f : Maker is Wire) (vs : Values is) (rest : Bytes) → get_elem? shape_forms i ≡ some (form is f) →
    clear_cut false is ≡ true → at_values is (admits (λ w. false) true is) vs ≡ true →
    shape_at (at_values is (render (λ w. []) [] is) vs ++ rest) ≡ some (at_values is f vs, rest)
unfolding shape_at form
shape_form_back i is f vs rest e c h =
    ap (λ (l : Bytes). front (λ cs. none) shape_forms (l ++ rest)) (render_is (λ w. []) [] is vs)
    ∙ front_at (λ cs. none) shape_forms i (form is f) (text_of (λ w. []) is vs ++ rest) (at_values is f vs, rest) (T_of shape_keys) e
    (parse_back (λ cs. none) (λ w. []) (λ w. false) no_shape_back false rest (λ q. absurd (no_false q)) is f vs c
    (sym (admits_is (λ w. false) true is vs) ∙ h))

shape_form-line : (is : List Item) (vs : Values is) → clear_cut false is ≡ true → one_line (at_values is (render (λ w. []) [] is) vs) ≡ true
shape_form-line is vs c =
    ap one_line (render_is (λ w. []) [] is vs) ∙ text_line (λ cs. none) (λ w. []) (λ w. false) no_shape_back false is vs c

shape_again : (w : Wire) (rest : Bytes) → is_shape w ≡ true → shape_at (shape_text w ++ rest) ≡ some (w, rest)
unfolding computing Reread.clear_cut Reread.no_digit Reread.no_space Reread.other_first one_line
shape_again top rest e = shape_form_back 0 top_items top tt rest refl refl e
shape_again (scalar_w k) rest e = shape_form_back 1 scalar_items scalar_w (k, tt) rest refl refl e
shape_again (flat_w k n) rest e = shape_form_back 2 flat_items flat_w (k, (n, tt)) rest refl refl e

shape_space : (w : Wire) (rest : Bytes) → begins_with 32 (shape_text w ++ rest) ≡ true
unfolding computing
shape_space top rest = refl
shape_space (scalar_w k) rest = refl
shape_space (flat_w k n) rest = refl

shape_long : (w : Wire) → 1 ≤ length (shape_text w)
unfolding computing
shape_long top = omega arith
shape_long (scalar_w k) = omega arith
shape_long (flat_w k n) = omega arith

shape_line : (w : Wire) → one_line (shape_text w) ≡ true
unfolding shape_text at_shape computing Reread.clear_cut Reread.no_digit Reread.no_space Reread.other_first one_line
shape_line top = shape_form-line top_items tt refl
shape_line (scalar_w k) = shape_form-line scalar_items (k, tt) refl
shape_line (flat_w k n) = shape_form-line flat_items (k, (n, tt)) refl

pub shape_back : ShapeBack shape_at shape_text is_shape
shape_back = record { back = shape_again; first = λ w rest e. shape_space w rest; long = λ w e. shape_long w; line = shape_line }

-- ── Lines that are read ───────────────────────────────────────────────────────────────────

-- the form of items whose line is written by them
line-own : (is : List Item) (f : Maker is Line) →
    ((vs : Values is) → line_text (at_values is f vs) ≡ at_values is (render shape_text [] is) vs) →
    ((vs : Values is) → is_line (at_values is f vs) ≡ at_values is (admits is_shape true is) vs) → Own shape_text is_shape line_text is_line (form is f)
unfolding form
line-own is f a b vs = (a vs ∙ render_is shape_text [] is vs, b vs ∙ admits_is is_shape true is vs)

forms-own : AllOwn shape_text is_shape line_text is_line line_forms
unfolding line_forms line_text is_line at_line at_slot
forms-own = (
  line-own header_items _ (λ vs. refl) (λ vs. refl),
  (
    line-own (slot_items shared) _ (λ vs. refl) (λ vs. refl),
    (
      line-own (slot_items private) _ (λ vs. refl) (λ vs. refl),
      (
        line-own shared_items _ (λ vs. refl) (λ vs. refl),
        (
          line-own private_items _ (λ vs. refl) (λ vs. refl),
          (
            line-own enum_items _ (λ vs. refl) (λ vs. refl),
            (
              line-own native_items _ (λ vs. refl) (λ vs. refl),
              (
                line-own sig_items _ (λ vs. refl) (λ vs. refl),
                (
                  line-own chunk_items _ (λ vs. refl) (λ vs. refl),
                  (
                    line-own const_items _ (λ vs. refl) (λ vs. refl),
                    (line-own close_items _ (λ vs. refl) (λ vs. refl), tt),
                  ),
                ),
              ),
            ),
          ),
        ),
      ),
    ),
  ),
)

-- the forms of the rows rs, which stand in the table from number n on
ops_own : (n : ℕ) (rs : List Row) → ((k : ℕ) → get_elem? rs k ≡ get_elem? ops (n + k)) → AllOwn shape_text is_shape line_text is_line (op_forms n rs)
unfolding op_forms line_text is_line at_line at_row
ops_own n [] h = tt
ops_own n (r ∷ rs) h =
    let e : get_elem? ops n ≡ some r = ap (get_elem? ops) (let z : n ≡ n + 0 = omega arith in z) ∙ sym (h 0) in (
      line-own (op_items r) (λ ns. op_line (record { code = n; operands = ns }))
          (λ vs. ap (λ (o : Option Row). at_row (render shape_text []) o vs.0) e)
          (λ vs. ap (λ (o : Option Row). at_row (admits is_shape true) o vs.0) e),
      ops_own (suc n) rs (λ k. h (suc k) ∙ ap (get_elem? ops) (let z : n + suc k ≡ suc n + k = omega arith in z)),
    )

own-append : {A : Type 0} (writer : Wire → Bytes) (test : Wire → Bool) (wr : A → Bytes) (ts : A → Bool) (xs ys : List (Form A)) →
    AllOwn writer test wr ts xs → AllOwn writer test wr ts ys → AllOwn writer test wr ts (xs ++ ys)
own-append writer test wr ts [] ys e f = f
own-append writer test wr ts (x ∷ xs) ys e f = (e.0, own-append writer test wr ts xs ys e.1 f)

-- A line that is read is written as the same bytes, and its numbers are those of a line.
pub line_was : (bs : Bytes) (l : Line) → read_line bs ≡ some l → (bs ≡ line_text l) × (is_line l ≡ true)
unfolding read_line
line_was bs l e =
    whole_was shape_at shape_text is_shape shape_was line_text is_line (line_forms ++ op_forms 0 ops)
    (own-append shape_text is_shape line_text is_line line_forms (op_forms 0 ops) forms-own (ops_own 0 ops (λ k. ap (get_elem? ops) (sym (zero-add k))))) bs l e

-- ── Lines that are written ────────────────────────────────────────────────────────────────

-- the form of a row
row_form : (n : ℕ) (rs : List Row) (k : ℕ) (r : Row) → get_elem? rs k ≡ some r →
    get_elem? (op_forms n rs) k ≡ some (form (op_items r) (λ ns. op_line (record { code = n + k; operands = ns })))
unfolding op_forms
row_form n [] k r e = absurd (no_some (sym e))
row_form n (q ∷ rs) zero r e =
    let p : q ≡ r = cc in
    let z : n ≡ n + 0 = omega arith in
    rw (p, ← z)
row_form n (q ∷ rs) (suc k) r e =
    let z : suc n + k ≡ n + suc k = omega arith in
    row_form (suc n) rs k r e ∙ (rw z)

form-line : (is : List Item) (vs : Values is) → clear_cut true is ≡ true → one_line (at_values is (render shape_text [] is) vs) ≡ true
form-line is vs c = ap one_line (render_is shape_text [] is vs) ∙ text_line shape_at shape_text is_shape shape_back true is vs c

module _ (i : ℕ) (is : List Item) (f : Maker is Line) (vs : Values is) (c : clear_cut true is ≡ true) where
  form_back : get_elem? (line_forms ++ op_forms 0 ops) i ≡ some (form is f) → at_values is (admits is_shape true is) vs ≡ true →
      read_line (at_values is (render shape_text [] is) vs) ≡ some (at_values is f vs)
  unfolding read_line form
  form_back e h =
      ap (whole shape_at (line_forms ++ op_forms 0 ops)) (render_is shape_text [] is vs ∙ sym (append-nil (text_of shape_text is vs)))
      ∙ whole_at shape_at (line_forms ++ op_forms 0 ops) i (form is f) (text_of shape_text is vs ++ []) (at_values is f vs) (T_of keys-apart) e
      (parse_back shape_at shape_text is_shape shape_back true [] (λ q. refl) is f vs c (sym (admits_is is_shape true is vs) ∙ h))

-- each row's texts are within a line
unfoldable rows_clear : List Row → Bool
rows_clear [] = true
rows_clear (r ∷ rs) = clear_cut true (op_items r) && rows_clear rs

ops_clear : rows_clear ops ≡ true
unfolding computing rows_clear Reread.clear_cut Reread.no_digit Reread.no_space Reread.other_first one_line
ops_clear = refl

row_clear : (rs : List Row) (k : ℕ) (r : Row) → rows_clear rs ≡ true → get_elem? rs k ≡ some r → clear_cut true (op_items r) ≡ true
unfolding rows_clear
row_clear [] k r h e = absurd (no_some (sym e))
row_clear (q ∷ rs) zero r h e =
    let p : q ≡ r = cc in
    subst (λ (z : Row). clear_cut true (op_items z) ≡ true) p (and_true (clear_cut true (op_items q)) (rows_clear rs) h).0
row_clear (q ∷ rs) (suc k) r h e = row_clear rs k r (and_true (clear_cut true (op_items q)) (rows_clear rs) h).1 e

-- the form of row k, after the eleven others
op-form : (k : ℕ) (r : Row) → get_elem? ops k ≡ some r →
    get_elem? (line_forms ++ op_forms 0 ops) (suc (suc (suc (suc (suc (suc (suc (suc (suc (suc (suc k)))))))))))
    ≡ some (form (op_items r) (λ ns. op_line (record { code = k; operands = ns })))
unfolding line_forms
op-form k r e = row_form 0 ops k r e ∙ (rw (zero-add k))

module _ (o : Op) where
  op_back : is_line (op_line o) ≡ true → read_line (line_text (op_line o)) ≡ some (op_line o)
  unfolding is_line line_text at_line at_row admits is_member
  op_back = go (get_elem? ops o.code) refl
    where
      go : (q : Option Row) → get_elem? ops o.code ≡ q → at_row (admits is_shape true) q o.operands ≡ true →
          read_line (at_row (render shape_text []) q o.operands) ≡ some (op_line o)
      go none e h = absurd (no_false h)
      go (some r) e h =
          form_back (suc (suc (suc (suc (suc (suc (suc (suc (suc (suc (suc o.code)))))))))))
          (op_items r) (λ ns. op_line (record { code = o.code; operands = ns })) (o.operands, tt) (row_clear ops o.code r ops_clear e)
          (op-form o.code r e) h

  op_line_line : is_line (op_line o) ≡ true → one_line (line_text (op_line o)) ≡ true
  unfolding is_line line_text at_line at_row admits is_member
  op_line_line = go (get_elem? ops o.code) refl
    where
      go : (q : Option Row) → get_elem? ops o.code ≡ q → at_row (admits is_shape true) q o.operands ≡ true →
          one_line (at_row (render shape_text []) q o.operands) ≡ true
      go none e h = absurd (no_false h)
      go (some r) e h =
          form-line (op_items r) (o.operands, tt) (row_clear ops o.code r ops_clear e)

-- A line whose numbers are those of a line is read from what is written as the same line.
pub line_back : (l : Line) → is_line l ≡ true → read_line (line_text l) ≡ some l
unfolding is_line line_text at_line at_slot line_forms computing Reread.clear_cut Reread.no_digit Reread.no_space Reread.other_first one_line
line_back (first_line h) e =
    form_back 0 header_items _
    (h.word, (h.float, (h.address_log, (h.shared_bytes, (h.pool_bytes, (h.index_trap, (h.host_trap, tt))))))) refl refl e
line_back (slot_line shared) e = form_back 1 (slot_items shared) _ tt refl refl e
line_back (slot_line private) e = form_back 2 (slot_items private) _ tt refl refl e
line_back (shared_line s) e = form_back 3 shared_items _ (s.offset, (s.kind, (s.len, tt))) refl refl e
line_back (private_line s) e = form_back 4 private_items _ (s.slot, (s.offset, tt)) refl refl e
line_back (enum_line n) e = form_back 5 enum_items _ (n, tt) refl refl e
line_back (native_line w) e = form_back 6 native_items _ (w, tt) refl refl e
line_back (sig_line g) e = form_back 7 sig_items _ (g.ret, (g.resume, (g.params, tt))) refl refl e
line_back (chunk_line n) e = form_back 8 chunk_items _ (n, tt) refl refl e
line_back (const_line k) e = form_back 9 const_items _ (k, tt) refl refl e
line_back (op_line o) e = op_back o e
line_back close_line e = form_back 10 close_items close_line tt refl refl e

-- No LF stands in a line that is written.
pub line-line : (l : Line) → is_line l ≡ true → one_line (line_text l) ≡ true
unfolding is_line line_text at_line at_slot computing Reread.clear_cut Reread.no_digit Reread.no_space Reread.other_first one_line
line-line (first_line h) e =
    form-line header_items
    (h.word, (h.float, (h.address_log, (h.shared_bytes, (h.pool_bytes, (h.index_trap, (h.host_trap, tt))))))) refl
line-line (slot_line shared) e = form-line (slot_items shared) tt refl
line-line (slot_line private) e = form-line (slot_items private) tt refl
line-line (shared_line s) e = form-line shared_items (s.offset, (s.kind, (s.len, tt))) refl
line-line (private_line s) e = form-line private_items (s.slot, (s.offset, tt)) refl
line-line (enum_line n) e = form-line enum_items (n, tt) refl
line-line (native_line w) e = form-line native_items (w, tt) refl
line-line (sig_line g) e = form-line sig_items (g.ret, (g.resume, (g.params, tt))) refl
line-line (chunk_line n) e = form-line chunk_items (n, tt) refl
line-line (const_line k) e = form-line const_items (k, tt) refl
line-line (op_line o) e = op_line_line o e
line-line close_line e = form-line close_items tt refl

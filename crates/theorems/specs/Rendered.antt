-- One line, written and read: what the forms read is what they write, and the other way round.
use Rattle.std.specs.Prelude.{◌≡◌, Bool, ◌&&◌, eqb, length}
use Rattle.std.proofs.Math.Path.{refl, sym, ap, subst}
use Rattle.std.proofs.Common.{◌∙◌}
use Rattle.std.proofs.Math.Bool.{true, false}
use Rattle.std.proofs.Math.Option.{Option, none, some}
use mathlib.Core.List.{List, [], ◌∷◌, ◌++◌, append_assoc, append-nil}
use Prim.Native.Nat.{ℕ, zero, suc}
use Rattle.std.proofs.Math.Dec.{leb}
use Rattle.definition.specs.Basics.{is_member}
use Rattle.definition.specs.Shapes.{Wire}
use Rattle.definition.specs.Format.{Bytes, bytes, Item, text, number, among, numbers, shape, shapes, Maker, ShapeReader, parse, strip}
use Rattle.definition.specs.Format.{number_at, numbers_at, shapes_at, begins_with, decimal, ◌and_then◌}
use Rattle.definition.specs.Write.{spaced, all_written, render, are_within, all_pass, admits}
use Rattle.theorems.specs.Cover.{no_some, eqb_eq}
use Rattle.theorems.specs.Decimal.{number_was}

-- ── Values of items ───────────────────────────────────────────────────────────────────────

-- the values that items hold, as one value
abbrev pub Values : List Item → Type 0
Values [] = Unit {0}
Values (text s ∷ is) = Values is
Values (number m ∷ is) = ℕ × Values is
Values (among ns ∷ is) = ℕ × Values is
Values (numbers ms ∷ is) = List ℕ × Values is
Values (shape ∷ is) = Wire × Values is
Values (shapes ∷ is) = List Wire × Values is

-- a function of the values at them
abbrev pub at_values : {A : Type 0} (is : List Item) → Maker is A → Values is → A
at_values [] a vs = a
at_values (text s ∷ is) f vs = at_values is f vs
at_values (number m ∷ is) f vs = at_values is (f vs.0) vs.1
at_values (among ns ∷ is) f vs = at_values is (f vs.0) vs.1
at_values (numbers ms ∷ is) f vs = at_values is (f vs.0) vs.1
at_values (shape ∷ is) f vs = at_values is (f vs.0) vs.1
at_values (shapes ∷ is) f vs = at_values is (f vs.0) vs.1

module _ (writer : Wire → Bytes) where
  -- the bytes that the values are written as
  unfoldable pub text_of : (is : List Item) → Values is → Bytes
  text_of [] vs = []
  text_of (text s ∷ is) vs = bytes s ++ text_of is vs
  text_of (number m ∷ is) vs = spaced vs.0 ++ text_of is vs.1
  text_of (among ns ∷ is) vs = spaced vs.0 ++ text_of is vs.1
  text_of (numbers ms ∷ is) vs = all_written spaced vs.0 ++ text_of is vs.1
  text_of (shape ∷ is) vs = writer vs.0 ++ text_of is vs.1
  text_of (shapes ∷ is) vs = all_written writer vs.0 ++ text_of is vs.1

  pub render_is : (bs : Bytes) (is : List Item) (vs : Values is) → at_values is (render writer bs is) vs ≡ bs ++ text_of is vs
  unfolding render text_of
  render_is bs [] vs = sym (append-nil bs)
  render_is bs (text s ∷ is) vs = render_is (bs ++ bytes s) is vs ∙ append_assoc bs (bytes s) (text_of is vs)
  render_is bs (number m ∷ is) vs = render_is (bs ++ spaced vs.0) is vs.1 ∙ append_assoc bs (spaced vs.0) (text_of is vs.1)
  render_is bs (among ns ∷ is) vs = render_is (bs ++ spaced vs.0) is vs.1 ∙ append_assoc bs (spaced vs.0) (text_of is vs.1)
  render_is bs (numbers ms ∷ is) vs =
      render_is (bs ++ all_written spaced vs.0) is vs.1 ∙ append_assoc bs (all_written spaced vs.0) (text_of is vs.1)
  render_is bs (shape ∷ is) vs = render_is (bs ++ writer vs.0) is vs.1 ∙ append_assoc bs (writer vs.0) (text_of is vs.1)
  render_is bs (shapes ∷ is) vs =
      render_is (bs ++ all_written writer vs.0) is vs.1 ∙ append_assoc bs (all_written writer vs.0) (text_of is vs.1)

and_assoc : (a b c : Bool) → (a && b) && c ≡ a && (b && c)
and_assoc true b c = refl
and_assoc false b c = refl

module _ (test : Wire → Bool) where
  -- the items may hold the values
  unfoldable pub held : (is : List Item) → Values is → Bool
  held [] vs = true
  held (text s ∷ is) vs = held is vs
  held (number m ∷ is) vs = leb vs.0 m && held is vs.1
  held (among ns ∷ is) vs = is_member vs.0 ns && held is vs.1
  held (numbers ms ∷ is) vs = are_within ms vs.0 && held is vs.1
  held (shape ∷ is) vs = test vs.0 && held is vs.1
  held (shapes ∷ is) vs = all_pass test vs.0 && held is vs.1

  and_true_end : (b : Bool) → b ≡ b && true
  and_true_end true = refl
  and_true_end false = refl

  pub admits_is : (b : Bool) (is : List Item) (vs : Values is) → at_values is (admits test b is) vs ≡ b && held is vs
  unfolding admits held
  admits_is b [] vs = and_true_end b
  admits_is b (text s ∷ is) vs = admits_is b is vs
  admits_is b (number m ∷ is) vs = admits_is (b && leb vs.0 m) is vs.1 ∙ and_assoc b (leb vs.0 m) (held is vs.1)
  admits_is b (among ns ∷ is) vs = admits_is (b && is_member vs.0 ns) is vs.1 ∙ and_assoc b (is_member vs.0 ns) (held is vs.1)
  admits_is b (numbers ms ∷ is) vs = admits_is (b && are_within ms vs.0) is vs.1 ∙ and_assoc b (are_within ms vs.0) (held is vs.1)
  admits_is b (shape ∷ is) vs = admits_is (b && test vs.0) is vs.1 ∙ and_assoc b (test vs.0) (held is vs.1)
  admits_is b (shapes ∷ is) vs = admits_is (b && all_pass test vs.0) is vs.1 ∙ and_assoc b (all_pass test vs.0) (held is vs.1)

-- ── Read, then written ────────────────────────────────────────────────────────────────────

some_inj : {A : Type 0} {x y : A} → some x ≡ some y → x ≡ y
some_inj e = cc

then_some : {A B : Type 0} (o : Option A) (k : A → Option B) (b : B) → o and_then k ≡ some b → (a : A) × (o ≡ some a) × (k a ≡ some b)
unfolding ◌and_then◌
then_some none k b e = absurd (no_some (sym e))
then_some (some a) k b e = (a, refl, e)

and_of : {a b : Bool} → a ≡ true → b ≡ true → a && b ≡ true
and_of {a} {b} p q = rw (p, q)

strip_was : (ts bs rest : Bytes) → strip ts bs ≡ some rest → bs ≡ ts ++ rest
unfolding strip
strip_was [] bs rest e = some_inj e
strip_was (t ∷ ts) [] rest e = absurd (no_some (sym e))
strip_was (t ∷ ts) (b ∷ bs) rest e = go (eqb t b) refl e (strip_was ts bs rest)
  where
    go : (x : Bool) → eqb t b ≡ x → elim x as (λ z. Option Bytes) [ true ↦ strip ts bs | false ↦ none ] ≡ some rest →
        (strip ts bs ≡ some rest → bs ≡ ts ++ rest) → b ∷ bs ≡ t ∷ (ts ++ rest)
    go true h f ih = let p : t ≡ b = eqb_eq h in rw (p, ih f)
    go false h f ih = absurd (no_some (sym f))

numbers_were : (ms : List ℕ) (bs : Bytes) (r : List ℕ × Bytes) → numbers_at ms bs ≡ some r →
    (bs ≡ all_written spaced r.0 ++ r.1) × (are_within ms r.0 ≡ true)
unfolding numbers_at all_written spaced are_within
numbers_were [] bs r e =
    subst (λ (z : List ℕ × Bytes). (bs ≡ all_written spaced z.0 ++ z.1) × (are_within [] z.0 ≡ true)) (some_inj e) (refl, refl)
numbers_were (m ∷ ms) bs r e =
    let p = then_some (number_at (λ n. leb n m) bs) _ r e in
    let q = then_some (numbers_at ms p.0.1) _ r p.2 in
    let a = number_was (λ n. leb n m) bs p.0 p.1 in
    let b = numbers_were ms p.0.1 q.0 q.1 in
    subst (λ (z : List ℕ × Bytes). (bs ≡ all_written spaced z.0 ++ z.1) × (are_within (m ∷ ms) z.0 ≡ true)) (some_inj q.2) (
      a.0 ∙ ap (λ (l : Bytes). 32 ∷ (decimal p.0.0 ++ l)) b.0
          ∙ ap (λ (l : Bytes). 32 ∷ l) (sym (append_assoc (decimal p.0.0) (all_written spaced q.0.0) q.0.1)),
      and_of a.1 b.1,
    )

-- A reader of shapes reads what a writer writes.
pub record ShapeWas (reader : ShapeReader) (writer : Wire → Bytes) (test : Wire → Bool) : Type 0 where
  pub was : (bs : Bytes) (r : Wire × Bytes) → reader bs ≡ some r → (bs ≡ writer r.0 ++ r.1) × (test r.0 ≡ true)

module _ (reader : ShapeReader) (writer : Wire → Bytes) (test : Wire → Bool) (sw : ShapeWas reader writer test) where
  shapes_were : (n : ℕ) (bs : Bytes) (r : List Wire × Bytes) → shapes_at reader n bs ≡ some r →
      (bs ≡ all_written writer r.0 ++ r.1) × (all_pass test r.0 ≡ true)
  unfolding shapes_at all_written all_pass
  shapes_were zero bs r e =
      subst (λ (z : List Wire × Bytes). (bs ≡ all_written writer z.0 ++ z.1) × (all_pass test z.0 ≡ true)) (some_inj e) (refl, refl)
  shapes_were (suc n) bs r e = go (begins_with 32 bs) e (shapes_were n)
    where
      go : (t : Bool) →
          elim t as (λ z. Option (List Wire × Bytes)) [
            | true ↦ (reader bs and_then λ w. shapes_at reader n w.1 and_then λ q. some (w.0 ∷ q.0, q.1))
            | false ↦ some ([], bs)
          ] ≡ some r →
          ((cs : Bytes) (q : List Wire × Bytes) → shapes_at reader n cs ≡ some q → (cs ≡ all_written writer q.0 ++ q.1) × (all_pass test q.0 ≡ true)) →
          (bs ≡ all_written writer r.0 ++ r.1) × (all_pass test r.0 ≡ true)
      go true f ih =
          let p = then_some (reader bs) _ r f in
          let q = then_some (shapes_at reader n p.0.1) _ r p.2 in
          let a = sw.was bs p.0 p.1 in
          let b = ih p.0.1 q.0 q.1 in
          subst (λ (z : List Wire × Bytes). (bs ≡ all_written writer z.0 ++ z.1) × (all_pass test z.0 ≡ true)) (some_inj q.2) (
            a.0 ∙ ap (λ (l : Bytes). writer p.0.0 ++ l) b.0
                ∙ sym (append_assoc (writer p.0.0) (all_written writer q.0.0) q.0.1),
            and_of a.1 b.1,
          )
      go false f ih = subst (λ (z : List Wire × Bytes). (bs ≡ all_written writer z.0 ++ z.1) × (all_pass test z.0 ≡ true)) (some_inj f) (refl, refl)

  -- What items read is what their values are written as.
  pub record Parsed {A : Type 0} (is : List Item) (f : Maker is A) (bs : Bytes) (q : A × Bytes) : Type 0 where
    pub vs : Values is
    pub makes : q.0 ≡ at_values is f vs
    pub same : bs ≡ text_of writer is vs ++ q.1
    pub fit : held test is vs ≡ true

  -- a first part, then the rest of the items
  joined : (a b c bs cs : Bytes) → bs ≡ a ++ cs → cs ≡ b ++ c → bs ≡ (a ++ b) ++ c
  joined a b c bs cs p q = p ∙ ap (λ (l : Bytes). a ++ l) q ∙ sym (append_assoc a b c)

  pub parsed : {A : Type 0} (is : List Item) (f : Maker is A) (bs : Bytes) (q : A × Bytes) → parse reader is f bs ≡ some q → Parsed is f bs q
  unfolding parse text_of held spaced
  parsed [] a bs q e =
      record { vs = tt; makes = ap (λ (z : _ × Bytes). z.0) (sym (some_inj e)); same = ap (λ (z : _ × Bytes). z.1) (some_inj e); fit = refl }
  parsed (text s ∷ is) f bs q e =
      let p = then_some (strip (bytes s) bs) _ q e in
      let r = parsed is f p.0 q p.2 in
      record {
        vs = r.vs;
        makes = r.makes;
        same = joined (bytes s) (text_of writer is r.vs) q.1 bs p.0 (strip_was (bytes s) bs p.0 p.1) r.same;
        fit = r.fit;
      }
  parsed (number m ∷ is) f bs q e =
      let p = then_some (number_at (λ n. leb n m) bs) _ q e in
      let w = number_was (λ n. leb n m) bs p.0 p.1 in
      let r = parsed is (f p.0.0) p.0.1 q p.2 in
      record {
        vs = (p.0.0, r.vs);
        makes = r.makes;
        same = joined (spaced p.0.0) (text_of writer is r.vs) q.1 bs p.0.1 w.0 r.same;
        fit = and_of w.1 r.fit;
      }
  parsed (among ns ∷ is) f bs q e =
      let p = then_some (number_at (λ n. is_member n ns) bs) _ q e in
      let w = number_was (λ n. is_member n ns) bs p.0 p.1 in
      let r = parsed is (f p.0.0) p.0.1 q p.2 in
      record {
        vs = (p.0.0, r.vs);
        makes = r.makes;
        same = joined (spaced p.0.0) (text_of writer is r.vs) q.1 bs p.0.1 w.0 r.same;
        fit = and_of w.1 r.fit;
      }
  parsed (numbers ms ∷ is) f bs q e =
      let p = then_some (numbers_at ms bs) _ q e in
      let w = numbers_were ms bs p.0 p.1 in
      let r = parsed is (f p.0.0) p.0.1 q p.2 in
      record {
        vs = (p.0.0, r.vs);
        makes = r.makes;
        same = joined (all_written spaced p.0.0) (text_of writer is r.vs) q.1 bs p.0.1 w.0 r.same;
        fit = and_of w.1 r.fit;
      }
  parsed (shape ∷ is) f bs q e =
      let p = then_some (reader bs) _ q e in
      let w = sw.was bs p.0 p.1 in
      let r = parsed is (f p.0.0) p.0.1 q p.2 in
      record {
        vs = (p.0.0, r.vs);
        makes = r.makes;
        same = joined (writer p.0.0) (text_of writer is r.vs) q.1 bs p.0.1 w.0 r.same;
        fit = and_of w.1 r.fit;
      }
  parsed (shapes ∷ is) f bs q e =
      let p = then_some (shapes_at reader (length bs) bs) _ q e in
      let w = shapes_were (length bs) bs p.0 p.1 in
      let r = parsed is (f p.0.0) p.0.1 q p.2 in
      record {
        vs = (p.0.0, r.vs);
        makes = r.makes;
        same = joined (all_written writer p.0.0) (text_of writer is r.vs) q.1 bs p.0.1 w.0 r.same;
        fit = and_of w.1 r.fit;
      }

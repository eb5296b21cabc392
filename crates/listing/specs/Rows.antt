-- What codes read of a line, value by value.
use Rattle.std.specs.Prelude.{◌≡◌, refl, Bool, true, false, not, ◌&&◌, ◌≢◌, List, [], ◌∷◌, ◌++◌, ℕ, ◌-◌, ◌≤◌, ◌<◌, T, eqb, ltb, length, get_or, take, drop, Option as CodeOption, Some, None}
use Rattle.std.proofs.Common.{sym, ap, ◌∙◌, subst, arith, ⊎_elim, append_assoc, append-nil, drop-cons, drop_of_length-le, eq-eqb, ne_eqb, eqb-true, le-ltb, Bor}
use Rattle.std.proofs.lemmas.List.{take_all}
use Rattle.std.proofs.lemmas.Bool.{not-true, not-false}
use Rattle.std.proofs.Math.Option.{Option, none, some}
use Rattle.definition.specs.Format.{Bytes, number_at, strip, ◌and_then◌, begins_with}
use Rattle.bytecode.specs.Tables.{eq_or}
use Rattle.listing.specs.Scan.{Words, one, item, no_word, joined, then_words, scan, shape_word, shape_words, admitted}
use Rattle.listing.specs.Agree.{byte-item, joined_nothing, joined_both, joined_then, then_nothing}
use Rattle.listing.specs.Shape.{shapes_end, shapes_bad, shapes_more, shape_short, number_less}
use Rattle.listing.specs.Stored.{Stored}
use Rattle.listing.specs.declared.entry.Values.{Values}

-- What is read: nothing, or values after those of `old`, and what is left.
abbrev pub Rowed : Words → Values → CodeOption (Bor Bytes) → Values → Type 0
Rowed o old None new = o ≡ none
Rowed o old (Some rest) new = (ws : List ℕ) × (o ≡ some (ws, rest.now)) × ((vs : List ℕ) → Stored old vs → Stored new (vs ++ ws))

unfoldable pub shapes_over : ℕ → Bytes → Bool
shapes_over c bs = eqb c 141 && not (begins_with 32 bs)

unfoldable pub value_at : ℕ → Bytes → Option (ℕ × Bytes)
value_at c bs = elim (eqb c 140) [ true ↦ shape_word bs | false ↦ elim (eqb c 141) [ true ↦ shape_word bs | false ↦ number_at (admitted c) bs ] ]

-- ── The line so far ───────────────────────────────────────────────────────────────────────

-- what all codes read is the values `ws`, and then what those left read of the bytes left
pub record Sofar (o : Words) (cs : List ℕ) (s : Bytes) (old v : Values) : Type 0 where
  pub ws : List ℕ
  pub is : o ≡ joined ws (scan cs s)
  pub stored : (vs : List ℕ) → Stored old vs → Stored v (vs ++ ws)

none_then : (k : Bytes → Words) → then_words none k ≡ none
unfolding then_words ◌and_then◌
none_then k = refl

one_then : (v : ℕ) (rest : Bytes) (k : Bytes → Words) → then_words (one (some (v, rest))) k ≡ joined (v ∷ []) (k rest)
unfolding then_words one ◌and_then◌
one_then v rest k = refl

pub sofar_start : (cs : List ℕ) (s : Bytes) (v : Values) → Sofar (scan cs s) cs s v v
sofar_start cs s v =
    record { ws = []; is = sym (joined_nothing (scan cs s)); stored = λ vs st. subst (Stored v) (sym (append-nil vs)) st }

-- ── What a code reads ─────────────────────────────────────────────────────────────────────

true_false : {b : Bool} {P : Type 0} → b ≡ true → b ≡ false → P
true_false {b} e f = absurd (subst T (sym e ∙ f) tt)

and_both : (a b : Bool) → (a && b) ≡ true → (a ≡ true) × (b ≡ true)
and_both true b e = (refl, e)
and_both false b e = true_false e refl

over_is : (c : ℕ) (bs : Bytes) → shapes_over c bs ≡ true → (c ≡ 141) × (begins_with 32 bs ≡ false)
unfolding shapes_over
over_is c bs e = let p = and_both (eqb c 141) (not (begins_with 32 bs)) e in (eqb-true c 141 p.0, not-true (begins_with 32 bs) p.1)

item_shapes : (c : ℕ) (bs : Bytes) → c ≡ 141 → item c bs ≡ shape_words bs
unfolding item
item_shapes c bs e = ap (λ (x : ℕ). item x bs) e

spaced : (c : ℕ) (bs : Bytes) → c ≡ 141 → shapes_over c bs ≡ false → begins_with 32 bs ≡ true
unfolding shapes_over
spaced c bs e n = not-false (begins_with 32 bs) (sym (ap (λ (x : Bool). x && not (begins_with 32 bs)) (eq-eqb c 141 e)) ∙ n)

value_shape : (c : ℕ) (bs : Bytes) → c ≡ 141 → value_at c bs ≡ shape_word bs
unfolding value_at
value_shape c bs e = ap (λ (x : ℕ). value_at x bs) e

grow_any : (bs : Bytes) (v : ℕ) (rest : Bytes) → begins_with 32 bs ≡ true → shape_word bs ≡ some (v, rest) → shape_words bs ≡ joined (v ∷ []) (shape_words rest)
unfolding begins_with
grow_any [] v rest e f = true_false e refl
grow_any (b ∷ bs) v rest e f = shapes_more b bs e v rest (sym f)

none_any : (bs : Bytes) → begins_with 32 bs ≡ true → shape_word bs ≡ none → shape_words bs ≡ none
unfolding begins_with
none_any [] e f = true_false e refl
none_any (b ∷ bs) e f = shapes_bad b bs e (sym f)

shapes_grow : (c : ℕ) (bs : Bytes) (v : ℕ) (rest : Bytes) → c ≡ 141 → shapes_over c bs ≡ false → value_at c bs ≡ some (v, rest) → shape_words bs ≡ joined (v ∷ []) (shape_words rest)
shapes_grow c bs v rest e n f = grow_any bs v rest (spaced c bs e n) (sym (value_shape c bs e) ∙ f)

item_one : (c : ℕ) (bs : Bytes) → 128 ≤ c → c ≢ 141 → item c bs ≡ one (value_at c bs)
unfolding item value_at
item_one c bs h n = go (ltb c 128) (eqb c 140) (eqb c 141) (le-ltb c 128 h) (ne_eqb c 141 n)
  where
    go : (x y z : Bool) → x ≡ false → z ≡ false
        → ◌≡◌ {A = Words} (elim x [
          | true ↦ no_word (strip (c ∷ []) bs)
          | false ↦
              elim y [ true ↦ one (shape_word bs) | false ↦ elim z [ true ↦ shape_words bs | false ↦ one (number_at (admitted c) bs) ] ]
        ])
        (one (elim y as (λ _. Option (ℕ × Bytes)) [ true ↦ shape_word bs | false ↦ elim z [ true ↦ shape_word bs | false ↦ number_at (admitted c) bs ] ]))
    go true y z p q = true_false refl p
    go false true z p q = refl
    go false false true p q = true_false refl q
    go false false false p q = refl

item_none : (c : ℕ) (bs : Bytes) → 128 ≤ c → shapes_over c bs ≡ false → value_at c bs ≡ none → item c bs ≡ none
unfolding one ◌and_then◌
item_none c bs h n e = ⊎_elim
    (λ (q : c ≡ 141). item_shapes c bs q ∙ none_any bs (spaced c bs q n) (sym (value_shape c bs q) ∙ e))
    (λ (q : c ≢ 141). item_one c bs h q ∙ ap one e)
    (eq_or c 141)

scan_step : (cs : List ℕ) (s : Bytes) → 0 < length cs → scan cs s ≡ then_words (item (get_or cs 0 0) s) (scan (take (length cs - 1) (drop 1 cs)))
unfolding scan
scan_step [] s h = absurd (omega arith)
scan_step (c ∷ cs) s h = ap (λ (x : List ℕ). then_words (item c s) (scan x)) (sym (take_all (length (c ∷ cs) - 1) cs (omega arith)))

-- A code after those so far.
module _ (o : Words) (cs : List ℕ) (s : Bytes) (old v : Values) (so : Sofar o cs s old v) where
  scan_done : (cs : List ℕ) (s : Bytes) → length cs < 1 → scan cs s ≡ some ([], s)
  unfolding scan
  scan_done [] s h = refl
  scan_done (c ∷ cs) s h = absurd (omega arith)

  pub sofar_done : length cs < 1 → (ws : List ℕ) × (o ≡ some (ws, s)) × ((vs : List ℕ) → Stored old vs → Stored v (vs ++ ws))
  unfolding joined ◌and_then◌
  sofar_done h = (so.ws, so.is ∙ ap (joined so.ws) (scan_done cs s h) ∙ (rw (append-nil so.ws)), so.stored)

  module _ (h : 0 < length cs) where
    abbrev code : ℕ
    code = get_or cs 0 0

    -- the codes after it
    abbrev after : List ℕ
    after = take (length cs - 1) (drop 1 cs)

    here : o ≡ joined so.ws (then_words (item code s) (scan after))
    here = so.is ∙ ap (joined so.ws) (scan_step cs s h)

    nothing : item code s ≡ none → o ≡ none
    unfolding joined ◌and_then◌
    nothing e = here ∙ ap (λ (x : Words). joined so.ws (then_words x (scan after))) e ∙ ap (joined so.ws) (none_then (scan after))

    module _ (low : code < 128) where
      pub byte_not : strip (code ∷ []) s ≡ none → o ≡ none
      unfolding no_word ◌and_then◌
      byte_not e = nothing (byte-item code s low ∙ (rw e))

      pub byte_is : (r : Bytes) → strip (code ∷ []) s ≡ some r → Sofar o after r old v
      unfolding no_word ◌and_then◌
      byte_is r e =
          record {
            ws = so.ws;
            is = here ∙ ap (λ (x : Words). joined so.ws (then_words x (scan after))) (byte-item code s low ∙ (rw e)) ∙ ap (joined so.ws) (then_nothing r (scan after));
            stored = so.stored;
          }

    module _ (high : 128 ≤ code) where
      pub shapes_done : shapes_over code s ≡ true → Sofar o after s old v
      shapes_done e =
          let p = over_is code s e in
          record {
            ws = so.ws;
            is = here ∙ ap (λ (x : Words). joined so.ws (then_words x (scan after))) (item_shapes code s p.0 ∙ shapes_end s p.1) ∙ ap (joined so.ws) (then_nothing s (scan after));
            stored = so.stored;
          }

      module _ (no : shapes_over code s ≡ false) where
        pub value_none : value_at code s ≡ none → o ≡ none
        value_none e = nothing (item_none code s high no e)

        module _ (x : ℕ) (r : Bytes) (e : value_at code s ≡ some (x, r)) (w : Values) (push : (vs : List ℕ) → Stored v vs → Stored w (vs ++ (x ∷ []))) where
          longer : (vs : List ℕ) → Stored old vs → Stored w (vs ++ (so.ws ++ (x ∷ [])))
          longer vs st = subst (Stored w) (append_assoc vs so.ws (x ∷ [])) (push (vs ++ so.ws) (so.stored vs st))

          further : (cs' : List ℕ) → then_words (item code s) (scan after) ≡ joined (x ∷ []) (scan cs' r) → Sofar o cs' r old w
          further cs' f =
              record { ws = so.ws ++ (x ∷ []); is = here ∙ ap (joined so.ws) f ∙ sym (joined_both so.ws (x ∷ []) (scan cs' r)); stored = longer }

          pub value_one : (code ≡ 141 → ⊥) → Sofar o after r old w
          value_one n =
              further after (ap (λ (y : Words). then_words y (scan after)) (item_one code s high n ∙ ap one e) ∙ one_then x r (scan after))

          module _ (g : code ≡ 141) where
            pub value_shapes : Sofar o cs r old w
            value_shapes =
                further cs
                (ap (λ (y : Words). then_words y (scan after)) (item_shapes code s g ∙ shapes_grow code s x r g no e)
                ∙ joined_then (x ∷ []) (shape_words r) (scan after)
                ∙ ap (λ (y : Words). joined (x ∷ []) (then_words y (scan after))) (sym (item_shapes code r g))
                ∙ ap (joined (x ∷ [])) (sym (scan_step cs r h)))

-- ── Laws of the ends of shapes and of values ──────────────────────────────────────────────

pub over_other : (c : ℕ) (bs : Bytes) → c ≢ 141 → false ≡ shapes_over c bs
unfolding shapes_over
over_other c bs n = rw (ne_eqb c 141 n)

pub over_here : (c : ℕ) (s : Bytes) (i : ℕ) → c ≡ 141 → i < length s → not (eqb (get_or s i 0) 32) ≡ shapes_over c (drop i s)
unfolding shapes_over begins_with
over_here c s i e h = rw (eq-eqb c 141 e, drop-cons s i 0 h)

pub over_end : (c : ℕ) (s : Bytes) (i : ℕ) → c ≡ 141 → length s ≤ i → true ≡ shapes_over c (drop i s)
unfolding shapes_over begins_with
over_end c s i e h = rw (eq-eqb c 141 e, drop_of_length-le s h)

pub value_first : (c : ℕ) (bs : Bytes) → c ≡ 140 → shape_word bs ≡ value_at c bs
unfolding value_at
value_first c bs e = sym (ap (λ (x : ℕ). value_at x bs) e)

pub value_second : (c : ℕ) (bs : Bytes) → c ≡ 141 → shape_word bs ≡ value_at c bs
value_second c bs e = sym (value_shape c bs e)

pub value_number : (c : ℕ) (bs : Bytes) → c ≢ 140 → c ≢ 141 → number_at (admitted c) bs ≡ value_at c bs
unfolding value_at
value_number c bs m n = rw (value_at, ne_eqb c 140 m, ne_eqb c 141 n)

-- a value takes bytes
pub value_less : (c : ℕ) (s : Bytes) (x : ℕ) (r : Bytes) → value_at c s ≡ some (x, r) → length r < length s
unfolding value_at
value_less c s x r e = go (eqb c 140) (eqb c 141) e
  where
    go : (y z : Bool)
        → ◌≡◌ {A = Option (ℕ × Bytes)} (elim y [ true ↦ shape_word s | false ↦ elim z [ true ↦ shape_word s | false ↦ number_at (admitted c) s ] ]) (some (x, r))
        → length r < length s
    go true z d = shape_short s (x, r) d
    go false true d = shape_short s (x, r) d
    go false false d = number_less (admitted c) s (x, r) d

pub rowed_none : (o : Words) (r : CodeOption (Bor Bytes)) (old new : Values) → r ≡ None → o ≡ none → Rowed o old r new
rowed_none o None old new e f = f
rowed_none o (Some x) old new e f = absurd (let z : ◌≡◌ {A = ℕ} 0 1 = cc in omega arith)

pub ruleset rows_laws = (rowed_none, sofar_start, byte_not, byte_is, shapes_done, value_none, value_one, value_shapes, value_less, sofar_done)

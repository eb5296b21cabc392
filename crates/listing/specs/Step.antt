-- One line: from the tables before it to the tables after it.
use Rattle.std.proofs.Math.Path.{◌≡◌, refl, ap, subst}
use Rattle.std.proofs.Common.{sym, ◌∙◌, arith, zero-add, eqb→eq, ltb→lt, inl, inr, ⊎_elim, length-append, length-set, get_or-set_same, get_or-set_other}
use Rattle.std.specs.Prelude.{Bool, ◌&&◌, T, ltb, eqb, ◌⊎◌, ◌≢◌, set, Option as CodeOption, Some, None, Result as Outcome, Ok, Err}
use Rattle.std.proofs.Math.Bool.{true, false, not}
use Rattle.std.proofs.Math.Option.{Option, none, some}
use mathlib.Core.List.{List, [], ◌∷◌, ◌++◌, map, append-nil}
use Prim.Native.Nat.{ℕ, zero, suc, ◌+◌, ◌-◌, ◌≤◌, ◌<◌}
use Rattle.std.proofs.Math.Dec.{leb}
use Rattle.std.specs.Float.Ieee.Fits.{and_l, and_r}
use borrow.Author.Tests.{le-ltb, lt-ltb, le-leb, lt-leb, leb-true, eq-eqb, ne_eqb}
use Rattle.std.proofs.Math.Decide.{dec_lt}
use Rattle.std.proofs.Math.ListN.{length, get_or, get_or-map, get_or-eq_default}
use Rattle.definition.specs.Basics.{Result, ok, refused, ◌>>=◌, unless, first, pass, choose}
use Rattle.definition.specs.Format.{Bytes, provided}
use Rattle.definition.specs.Module.{Module, Code, all_consts, all_ops}
use Rattle.definition.specs.Read.{Reader, Line, first_line, slot_line, shared_line, private_line, enum_line, native_line, sig_line, chunk_line}
use Rattle.definition.specs.Read.{const_line, op_line, close_line, read_line, limits, limit, add, next_line, or_line, within, to_last, add_const, add_op}
use Rattle.bytecode.specs.Tables.{tables, cap, padded, cells_eq, stride, stride_small, Appended, eq_or, all_below, at_each}
use Rattle.definition.specs.Shapes.{is_lacking}
use Rattle.theorems.specs.KindOf.{has_kinds}
use Rattle.bytecode.specs.Meaning.{maxima_of, table_header, cell}
use Rattle.bytecode.specs.Held.{Held, lists, Sound, Stands, kind, words, more, more_is, held_more, held_count, length-map, chunk_rows, header_rows, header_words, cell_is}
use Rattle.bytecode.specs.Held.{slot_words, shared_words, private_words, one_word, native_words, sig_words, op_words}
use Rattle.listing.specs.Forms.{Fits, form_kind, place_number, row_words, head_word, tail_words, may_stand, may_say, place_after, own_limit, counts, kinds, lows, highs, nexts, head_number}
use Rattle.bytecode.specs.declared.ops.row.Row.{Row}
use Rattle.listing.specs.Kinds.{named_same, lacking_limited}
use Rattle.listing.specs.Stored.{Stored}
use Rattle.listing.specs.declared.entry.Values.{Values}
use Rattle.listing.specs.declared.entry.Head.{Head}
use Rattle.listing.specs.declared.entry.Head.TheVariants as H
use Rattle.listing.specs.declared.form.Form.TheVariants as F
use Rattle.listing.specs.declared.place.Place.{Place}
use Rattle.answer.specs.Answer.{numbers, with_chunk, fields}
use Rattle.answer.specs.Codes.{limit_number}
use Rattle.answer.specs.declared.Refusal.{Refusal}
use Rattle.answer.specs.declared.Refusal.TheVariants as R
use Rattle.answer.specs.declared.limit.Limit.{Limit}
use Rattle.answer.specs.declared.limit.Limit.TheVariants as L

-- What a step says of the definition's next line, u being the tables after it.
unfoldable pub StepIs : Result Reader → Outcome Place Refusal → List ℕ → Type 0
StepIs res (Ok p) u = (q : Reader) × (res ≡ ok q) × (q.place ≡ place_number p) × Held u (lists q) × Sound q
StepIs res (Err r) u = res ≡ refused (numbers 0 r)

-- the limit that a line meets by itself, as a refusal has it
abbrev pub limit_of : CodeOption Limit → Option (List ℕ)
limit_of None = none
limit_of (Some l) = some (limit (limit_number l))

-- the words of a row, as many as any table has
abbrev pub SameWords : List ℕ → List ℕ → Type 0
SameWords r ws = (j : ℕ) → j < 19 → get_or r j 0 ≡ get_or ws j 0

-- the words of a line's row, after so many constants and instructions
abbrev pub RowIs : Head → Values → ℕ → ℕ → List ℕ → Type 0
RowIs form v constants instructions words =
    (m : Module) (vs : List ℕ) (l : Line) → Stored v vs → Fits l (head_number form) vs → own_limit (head_number form) vs ≡ none
    → constants ≡ length (all_consts m.chunks) → instructions ≡ length (all_ops m.chunks) → SameWords words (row_words m (head_number form) vs)

module _ (n : ℕ) (r : Reader) (s : Bytes) where
  pub not_read : read_line s ≡ none → next_line n r s ≡ refused (1 ∷ 0 ∷ n ∷ [])
  unfolding next_line or_line ◌>>=◌
  not_read e = rw e

  module _ (l : Line) (e : read_line s ≡ some l) (f : ℕ) (vs : List ℕ) (fit : Fits l f vs) where
    pub out_of_place : may_stand r.so_far.header.float r.place f vs ≡ false → next_line n r s ≡ refused (1 ∷ 0 ∷ n ∷ [])
    unfolding next_line or_line ◌>>=◌ provided
    out_of_place m = rw (e, fit.follows r.so_far.header r.place, m)

    module _ (m : may_stand r.so_far.header.float r.place f vs ≡ true) where
      after_place : next_line n r s ≡ pass (limits r.so_far l) (record { place = place_after (form_kind f) r.place; so_far = add r.so_far l })
      unfolding next_line or_line ◌>>=◌ provided
      after_place = rw (e, fit.follows r.so_far.header r.place, m)

      pub table_full : form_kind f < 10 → cap (form_kind f) ≤ get_or (counts r.so_far) (form_kind f) 0 → next_line n r s ≡ refused (2 ∷ 0 ∷ 0 ∷ 2 ∷ [])
      unfolding pass first unless
      table_full h c =
          after_place ∙ (rw (fit.limited r.so_far (omega (arith, fit.table)), le-ltb (get_or (counts r.so_far) (form_kind f) 0) (cap (form_kind f)) c))

      module _ (h : form_kind f < 10) (room : get_or (counts r.so_far) (form_kind f) 0 < cap (form_kind f)) where
        pub own_refused : (x : List ℕ) → own_limit f vs ≡ some x → next_line n r s ≡ refused x
        unfolding pass first unless
        own_refused x o =
            after_place
            ∙ (rw (fit.limited r.so_far (omega (arith, fit.table)), lt-ltb (get_or (counts r.so_far) (form_kind f) 0) (cap (form_kind f)) room, o))

        pub stored_line : own_limit f vs ≡ none
            → next_line n r s ≡ ok (record { place = place_after (form_kind f) r.place; so_far = add r.so_far l })
        unfolding pass first unless
        stored_line o =
            after_place
            ∙ (rw (fit.limited r.so_far (omega (arith, fit.table)), lt-ltb (get_or (counts r.so_far) (form_kind f) 0) (cap (form_kind f)) room, o))

      pub closed_line : form_kind f ≡ 10 → next_line n r s ≡ ok (record { place = place_after (form_kind f) r.place; so_far = add r.so_far l })
      unfolding pass
      closed_line h = after_place ∙ (rw (fit.unlimited r.so_far (fit.table ∙ h)))

-- ── Counts ────────────────────────────────────────────────────────────────────────────────

rows-count : (a b : ℕ) (cs : List Code) → length (chunk_rows a b cs) ≡ length cs
unfolding chunk_rows
rows-count a b [] = refl
rows-count a b (c ∷ cs) = ap suc (rows-count (a + length c.consts) (b + length c.ops) cs)

lengths : (r : Reader) → map length (lists r) ≡ set (counts r.so_far) 0 (length (header_rows (leb 1 r.place) r.so_far.header))
unfolding lists counts
lengths r =
    let m = r.so_far in
    rw (
      length-map slot_words m.slots,
      length-map shared_words m.shareds,
      length-map private_words m.privates,
      length-map one_word m.enums,
      length-map native_words m.natives,
      length-map sig_words m.sigs,
      rows-count 0 0 m.chunks,
      length-map one_word (all_consts m.chunks),
      length-map op_words (all_ops m.chunks),
    )

-- The count word of a table is the number of its entries.
pub count_is : (t : List ℕ) (r : Reader) (k : ℕ) → Held t (lists r) → 1 ≤ k → k < tables → get_or t k 0 ≡ get_or (counts r.so_far) k 0
count_is t r k h l u =
    held_count t (lists r) k u h ∙ sym (get_or-map length (lists r) k []) ∙ ap (λ (x : List ℕ). get_or x k 0) (lengths r)
    ∙ get_or-set_other (counts r.so_far) 0 k _ 0 (λ e. absurd (omega arith))

-- ── Where the line stands, and what the next one finds ────────────────────────────────────

and_left : (a b : Bool) → (a && b) ≡ true → a ≡ true
and_left true b e = refl
and_left false b e = absurd (subst T (sym e) tt)

and_right : (a b : Bool) → (a && b) ≡ true → b ≡ true
and_right true b e = e
and_right false b e = absurd (subst T (sym e) tt)

bounds : (a b p : ℕ) → within a b p ≡ true → (a ≤ p) × (p ≤ b)
unfolding within
bounds a b p e = (leb-true a p (and_left (leb a p) (leb p b) e), leb-true p b (and_right (leb a p) (leb p b) e))

pub standing : (float p f k : ℕ) (vs : List ℕ) → k ≡ form_kind f → may_stand float p f vs ≡ true → (get_or lows k 0 ≤ p) × (p ≤ get_or highs k 0)
unfolding may_stand
standing float p f k vs e m =
    subst (λ (x : ℕ). (get_or lows x 0 ≤ p) × (p ≤ get_or highs x 0)) (sym e)
    (bounds (get_or lows (form_kind f) 0) (get_or highs (form_kind f) 0) p (and_left (within (get_or lows (form_kind f) 0) (get_or highs (form_kind f) 0) p) _ m))

pub stands : (p : ℕ) (l : Line) → (get_or lows (kind l) 0 ≤ p) × (p ≤ get_or highs (kind l) 0) → Stands p l
unfolding Stands kind
stands p (first_line h) b = omega (arith, b.1)
stands p (slot_line x) b = b.0
stands p (shared_line x) b = b.0
stands p (private_line x) b = b.0
stands p (enum_line x) b = b.0
stands p (native_line x) b = b.0
stands p (sig_line x) b = b.0
stands p (chunk_line x) b = b.0
stands p (const_line x) b = (b.0, omega (arith, b.1))
stands p (op_line x) b = (b.0, b.1)
stands p close_line b = b.0

kept_long : {A : Type 0} (g : A → A) (xs : List A) → length (to_last g xs) ≡ length xs
unfolding to_last
kept_long g [] = refl
kept_long g (x ∷ []) = refl
kept_long g (x ∷ y ∷ xs) = ap suc (kept_long g (y ∷ xs))

after_pos : (l : Line) (p : ℕ) → 1 ≤ place_after (kind l) p
unfolding place_after kind choose
after_pos (first_line h) p = omega arith
after_pos (slot_line x) p = omega arith
after_pos (shared_line x) p = omega arith
after_pos (private_line x) p = omega arith
after_pos (enum_line x) p = omega arith
after_pos (native_line x) p = omega arith
after_pos (sig_line x) p = omega arith
after_pos (chunk_line x) p = omega arith
after_pos (const_line x) p = omega arith
after_pos (op_line x) p = omega arith
after_pos close_line p = go (leb 8 p)
  where
    go : (b : Bool) → 1 ≤ choose b 7 10
    go true = omega arith
    go false = omega arith

in_chunk : (r : Reader) (l : Line) → Sound r → Stands r.place l → 8 ≤ place_after (kind l) r.place → place_after (kind l) r.place ≤ 9
    → 0 < length (add r.so_far l).chunks
unfolding place_after kind choose add Stands
in_chunk r (first_line h) s p a b = absurd (omega arith)
in_chunk r (slot_line x) s p a b = absurd (omega arith)
in_chunk r (shared_line x) s p a b = absurd (omega arith)
in_chunk r (private_line x) s p a b = absurd (omega arith)
in_chunk r (enum_line x) s p a b = absurd (omega arith)
in_chunk r (native_line x) s p a b = absurd (omega arith)
in_chunk r (sig_line x) s p a b = absurd (omega arith)
in_chunk r (chunk_line x) s p a b = rw length-append (omega arith)
in_chunk r (const_line x) s p a b = rw (kept_long (add_const x) r.so_far.chunks) (s.chunk p.0 p.1)
in_chunk r (op_line x) s p a b = rw (kept_long (add_op x) r.so_far.chunks) (s.chunk p.0 p.1)
in_chunk r close_line s p a b = absurd (go (leb 8 r.place) a b)
  where
    go : (x : Bool) → 8 ≤ choose x 7 10 → choose x 7 10 ≤ 9 → ⊥
    go true a b = omega arith
    go false a b = omega arith

pub sound_next : (r : Reader) (l : Line) (q : ℕ) → q ≡ place_after (kind l) r.place → Sound r → Stands r.place l
    → Sound (record { place = q; so_far = add r.so_far l })
sound_next r l q e s p =
    record { empty = λ z. absurd (omega (arith, after_pos l r.place)); chunk = λ a b. in_chunk r l s p (omega arith) (omega arith) }

-- ── The row is stored: the tables hold the next reader ────────────────────────────────────

ten : (r : Reader) → length (lists r) ≡ tables
unfolding lists
ten r = refl

pub held_next : (t u vals vs : List ℕ) (r : Reader) (l : Line) (f q : ℕ) → Fits l f vs → form_kind f < tables → q ≡ place_after (form_kind f) r.place
    → Held t (lists r) → Sound r → Stands r.place l → get_or t (form_kind f) 0 < cap (form_kind f) → Appended t (form_kind f) vals u
    → ((j : ℕ) → j < stride (form_kind f) → get_or vals j 0 ≡ get_or (row_words r.so_far f vs) j 0)
    → Held u (lists (record { place = q; so_far = add r.so_far l }))
unfolding padded
held_next t u vals vs r l f q fit h e held s p room a same =
    let k : kind l ≡ form_kind f = fit.table in
    let small : kind l < tables = omega arith in
    let w : words r.so_far l ≡ row_words r.so_far f vs = fit.row r.so_far small in
    let pos : 1 ≤ q = subst (λ (x : ℕ). 1 ≤ x) (ap (λ (x : ℕ). place_after x r.place) k ∙ sym e) (after_pos l r.place) in
    let is = more_is r l q small s p pos in
    subst (λ (ls : List (List (List ℕ))). Held u ls)
    (ap (λ (x : ℕ). more x (row_words r.so_far f vs) (lists r)) (sym k) ∙ ap (λ (x : List ℕ). more (kind l) x (lists r)) (sym w) ∙ sym is)
    (held_more t u vals (row_words r.so_far f vs) (lists r) (form_kind f) h (ten r) held room a
    (cells_eq vals (row_words r.so_far f vs) 0 0 (stride (form_kind f)) (λ j x. rw zero-add (same j x))))

-- ── What the code's tests say ─────────────────────────────────────────────────────────────

-- where a form says nothing of its own
own_other : (form : Head) (vs : List ℕ) → (form ≡ H.Form F.Signature → ⊥) → (form ≡ H.Form F.Chunk → ⊥) → own_limit (head_number form) vs ≡ none
unfolding own_limit
own_other (H.Form F.Module) vs a b = refl
own_other (H.Form F.SharedSlot) vs a b = refl
own_other (H.Form F.PrivateSlot) vs a b = refl
own_other (H.Form F.Shared) vs a b = refl
own_other (H.Form F.Private) vs a b = refl
own_other (H.Form F.Enum) vs a b = refl
own_other (H.Form F.Native) vs a b = refl
own_other (H.Form F.Signature) vs a b = absurd (a refl)
own_other (H.Form F.Chunk) vs a b = absurd (b refl)
own_other (H.Form F.Constant) vs a b = refl
own_other (H.Form F.Close) vs a b = refl
own_other (H.Op row) vs a b =
    rw (own_limit, ne_eqb (11 + row.number) 7 (λ e. absurd (omega arith)), ne_eqb (11 + row.number) 8 (λ e. absurd (omega arith)))

say_other : (float : ℕ) (form : Head) (vs : List ℕ) → (form ≡ H.Form F.Module → ⊥) → ((row : Row) → form ≡ H.Op row → ⊥) → may_say float (head_number form) vs ≡ true
unfolding may_say
say_other float (H.Form F.Module) vs a b = absurd (a refl)
say_other float (H.Form F.SharedSlot) vs a b = refl
say_other float (H.Form F.PrivateSlot) vs a b = refl
say_other float (H.Form F.Shared) vs a b = refl
say_other float (H.Form F.Private) vs a b = refl
say_other float (H.Form F.Enum) vs a b = refl
say_other float (H.Form F.Native) vs a b = refl
say_other float (H.Form F.Signature) vs a b = refl
say_other float (H.Form F.Chunk) vs a b = refl
say_other float (H.Form F.Constant) vs a b = refl
say_other float (H.Form F.Close) vs a b = refl
say_other float (H.Op row) vs a b = absurd (b row refl)

module _ (form : Head) (v : Values) (vs : List ℕ) (st : Stored v vs) where
  pub count_small : v.count ≤ 18 → length vs ≤ 18
  count_small h = elim (dec_lt 18 (length vs)) [ yes p ↦ absurd (omega (arith, st.over p)) | no q ↦ omega arith ]

  pub count_large : 18 < v.count → 18 < length vs
  count_large h = elim (dec_lt 18 (length vs)) [ yes p ↦ p | no q ↦ absurd (omega (arith, st.count (omega arith))) ]

  pub limit_many : form ≡ H.Form F.Signature → 18 < v.count → own_limit (head_number form) vs ≡ some (limit 2)
  unfolding own_limit unless
  limit_many g h = rw (g, lt-leb (length vs) 18 (count_large h))

  pub limit_few : form ≡ H.Form F.Signature → v.count ≤ 18 → own_limit (head_number form) vs ≡ none
  unfolding own_limit unless
  limit_few g h = rw (g, le-leb (length vs) 18 (count_small h))

  first_value : get_or vs 0 0 ≡ get_or v.words 1 0
  first_value = sym (st.here 0 (omega arith))

  pub limit_locals : form ≡ H.Form F.Chunk → 32 < get_or v.words 1 0 → own_limit (head_number form) vs ≡ some (limit 3)
  unfolding own_limit unless
  limit_locals g h = rw (g, first_value, lt-leb (get_or v.words 1 0) 32 h)

  pub limit_fine : form ≡ H.Form F.Chunk → get_or v.words 1 0 ≤ 32 → own_limit (head_number form) vs ≡ none
  unfolding own_limit unless
  limit_fine g h = rw (g, first_value, le-leb (get_or v.words 1 0) 32 h)

  pub limit_none : (form ≡ H.Form F.Signature → ⊥) → (form ≡ H.Form F.Chunk → ⊥) → own_limit (head_number form) vs ≡ none
  limit_none a b = own_other form vs a b

  -- ── Whether the line may stand ────────────────────────────────────────────────────────────

  module _ (float p : ℕ) where
    pub stands_not : within (get_or lows (form_kind (head_number form)) 0) (get_or highs (form_kind (head_number form)) 0) p ≡ false
        → may_stand float p (head_number form) vs ≡ false
    unfolding may_stand
    stands_not w = rw w

    module _ (w : within (get_or lows (form_kind (head_number form)) 0) (get_or highs (form_kind (head_number form)) 0) p ≡ true) where
      says : may_stand float p (head_number form) vs ≡ may_say float (head_number form) vs
      unfolding may_stand
      says = rw w

      -- I and H
      pub stands_first : form ≡ H.Form F.Module → may_stand float p (head_number form) vs ≡ not (eqb (get_or v.words 6 0) (get_or v.words 7 0))
      unfolding may_say
      stands_first g =
          says ∙ ap (λ (x : Head). may_say float (head_number x) vs) g
          ∙ (rw (← st.here 5 (omega arith), ← st.here 6 (omega arith)))

      -- the kinds that an op names
      pub stands_op : (row : Row) → form ≡ H.Op row → may_stand float p (head_number form) vs ≡ has_kinds float (maxima_of row.number) vs
      unfolding may_say
      stands_op row g =
          let d : 11 + row.number - 11 ≡ row.number = omega arith in
          says ∙ ap (λ (x : Head). may_say float (head_number x) vs) g
          ∙ (rw (may_say, ne_eqb (11 + row.number) 0 (λ e. absurd (omega arith)), le-leb 11 (11 + row.number) (omega arith), d))

      pub stands_other : (form ≡ H.Form F.Module → ⊥) → ((row : Row) → form ≡ H.Op row → ⊥) → may_stand float p (head_number form) vs ≡ true
      stands_other g h = says ∙ say_other float form vs g h

pub ruleset limit_laws = (limit_many, limit_few, limit_locals, limit_fine, limit_none)

pub ruleset stand_laws = (stands_not, stands_first, stands_op, stands_other)

-- ── The words of a row ────────────────────────────────────────────────────────────────────

module _ (f : ℕ) (v : Values) (vs : List ℕ) (st : Stored v vs) where
  module _ (l : Line) (fit : Fits l f vs) (own : own_limit f vs ≡ none) where
    -- the count is right wherever the first word is one
    count_right : f < 11 → v.count ≡ length vs
    unfolding own_limit unless
    count_right h = st.count (go (eq_or f 7))
      where
        small : (b : Bool) → leb (length vs) 18 ≡ b → unless b (2 ∷ 0 ∷ 0 ∷ 2 ∷ []) ≡ none → length vs ≤ 18
        small true q d = leb-true (length vs) 18 q
        small false q d = absurd (let z : ◌≡◌ {A = ℕ} 0 1 = cc in omega arith)

        go : (f ≡ 7) ⊎ (f ≢ 7) → length vs ≤ 18
        go (inl q) = small (leb (length vs) 18) refl (sym (rw q) ∙ own)
        go (inr q) = fit.short h q

    head_right : head_word f v.count ≡ head_word f (length vs)
    unfolding head_word choose
    head_right = elim (dec_lt f 11) [
      | yes p ↦ ap (head_word f) (count_right p)
      | no q ↦ (rw (le-leb 11 f (omega arith)))
    ]

    abbrev headed : List ℕ
    headed = set v.words 0 (head_word f v.count)

    headed_first : get_or headed 0 0 ≡ head_word f (length vs)
    headed_first = get_or-set_same v.words 0 (head_word f v.count) 0 (omega (arith, st.long)) ∙ head_right

    headed_other : (j : ℕ) → j < 18 → get_or headed (suc j) 0 ≡ get_or vs j 0
    headed_other j h =
        get_or-set_other v.words 0 (suc j) (head_word f v.count) 0 (λ x. absurd (omega arith))
        ∙ ap (λ (k : ℕ). get_or v.words k 0) (let z : suc j ≡ j + 1 = omega arith in z) ∙ st.here j h

    pub words_plain : (m : Module) → tail_words m f ≡ [] → SameWords headed (row_words m f vs)
    unfolding row_words
    words_plain m n zero h = headed_first
    words_plain m n (suc j) h =
        headed_other j (omega arith)
        ∙ ap (λ (ws : List ℕ). get_or ws j 0) (sym (append-nil vs) ∙ ap (λ (x : List ℕ). vs ++ x) (sym n))

    module _ (g : f ≡ 8) (m : Module) (a b : ℕ) (p : a ≡ length (all_consts m.chunks)) (q : b ≡ length (all_ops m.chunks)) where
      abbrev filled_row : List ℕ
      filled_row = set (set headed 2 a) 3 b

      one_value : (xs : List ℕ) → length xs ≡ 1 → xs ≡ get_or xs 0 0 ∷ []
      one_value [] g = absurd (omega arith)
      one_value (x ∷ []) g = refl
      one_value (x ∷ y ∷ xs) g = absurd (omega arith)

      chunk_row : row_words m f vs ≡ head_word f (length vs) ∷ get_or vs 0 0 ∷ a ∷ b ∷ []
      unfolding row_words tail_words
      chunk_row =
          let v : vs ≡ get_or vs 0 0 ∷ [] = one_value vs (fit.single g) in
          let t : tail_words m f ≡ a ∷ b ∷ [] = rw (tail_words, eq-eqb f 8 g, p, q) in
          ap (λ (x : List ℕ). head_word f (length vs) ∷ (vs ++ x)) t
          ∙ ap (λ (x : List ℕ). head_word f (length vs) ∷ (x ++ (a ∷ b ∷ []))) v

      long_row : length (set headed 2 a) ≡ 19
      long_row = length-set headed 2 a ∙ length-set v.words 0 (head_word f v.count) ∙ st.long

      pub words_chunk : SameWords filled_row (row_words m f vs)
      words_chunk j h = at j h ∙ ap (λ (ws : List ℕ). get_or ws j 0) (sym chunk_row)
        where
          past_one : (k : ℕ) → get_or vs (suc k) 0 ≡ 0
          past_one k = get_or-eq_default vs 0 {n = suc k} (omega (arith, fit.single g))

          at : (j : ℕ) → j < 19 → get_or filled_row j 0 ≡ get_or (head_word f (length vs) ∷ get_or vs 0 0 ∷ a ∷ b ∷ []) j 0
          at zero h =
              get_or-set_other (set headed 2 a) 3 0 b 0 (λ x. absurd (omega arith)) ∙ get_or-set_other headed 2 0 a 0 (λ x. absurd (omega arith)) ∙ headed_first
          at (suc zero) h =
              get_or-set_other (set headed 2 a) 3 1 b 0 (λ x. absurd (omega arith)) ∙ get_or-set_other headed 2 1 a 0 (λ x. absurd (omega arith))
              ∙ headed_other 0 (omega arith)
          at (suc (suc zero)) h =
              get_or-set_other (set headed 2 a) 3 2 b 0 (λ x. absurd (omega arith))
              ∙ get_or-set_same headed 2 a 0 (omega (arith, length-set v.words 0 (head_word f v.count), st.long))
          at (suc (suc (suc zero))) h = get_or-set_same (set headed 2 a) 3 b 0 (omega (arith, long_row))
          at (suc (suc (suc (suc j)))) h =
              get_or-set_other (set headed 2 a) 3 (suc (suc (suc (suc j)))) b 0 (λ x. absurd (omega arith))
              ∙ get_or-set_other headed 2 (suc (suc (suc (suc j)))) a 0 (λ x. absurd (omega arith))
              ∙ headed_other (suc (suc (suc j))) (omega arith) ∙ past_one (suc (suc j))

tail_none : (m : Module) (form : Head) → (form ≡ H.Form F.Chunk → ⊥) → tail_words m (head_number form) ≡ []
unfolding tail_words
tail_none m (H.Form F.Module) n = refl
tail_none m (H.Form F.SharedSlot) n = refl
tail_none m (H.Form F.PrivateSlot) n = refl
tail_none m (H.Form F.Shared) n = refl
tail_none m (H.Form F.Private) n = refl
tail_none m (H.Form F.Enum) n = refl
tail_none m (H.Form F.Native) n = refl
tail_none m (H.Form F.Signature) n = refl
tail_none m (H.Form F.Chunk) n = absurd (n refl)
tail_none m (H.Form F.Constant) n = refl
tail_none m (H.Form F.Close) n = refl
tail_none m (H.Op row) n = rw (tail_words, ne_eqb (11 + row.number) 8 (λ e. absurd (omega arith)))

-- the words as the code writes them
module _ (m : Module) (form : Head) (v : Values) (vs : List ℕ) (l : Line) (st : Stored v vs) (fit : Fits l (head_number form) vs) (own : own_limit (head_number form) vs ≡ none)
    (head : ℕ) (e : head ≡ head_word (head_number form) v.count) where
  pub row_plain : (form ≡ H.Form F.Chunk → ⊥) → SameWords (set v.words 0 head) (row_words m (head_number form) vs)
  row_plain n =
      subst (λ (x : ℕ). SameWords (set v.words 0 x) (row_words m (head_number form) vs)) (sym e)
      (words_plain (head_number form) v vs st l fit own m (tail_none m form n))

  pub row_chunk : form ≡ H.Form F.Chunk → (a b : ℕ) → a ≡ length (all_consts m.chunks) → b ≡ length (all_ops m.chunks)
      → SameWords (set (set (set v.words 0 head) 2 a) 3 b) (row_words m (head_number form) vs)
  row_chunk g a b p q =
      subst (λ (x : ℕ). SameWords (set (set (set v.words 0 x) 2 a) 3 b) (row_words m (head_number form) vs)) (sym e)
      (words_chunk (head_number form) v vs st l fit own (ap head_number g) m a b p q)

-- ── The header already read ───────────────────────────────────────────────────────────────

-- only an op asks which kinds are lacking, and no op stands before the header
say_low : (a b f : ℕ) (vs : List ℕ) → f < 11 → may_say a f vs ≡ may_say b f vs
unfolding may_say
say_low a b f vs h = go (eqb f 0) (leb 11 f) _ _ _ (lt-leb 11 f h)
  where
    go : (x y p q r : Bool) → y ≡ false
        → ◌≡◌ {A = Bool} (elim x [ true ↦ p | false ↦ elim y [ true ↦ q | false ↦ true ] ]) (elim x [ true ↦ p | false ↦ elim y [ true ↦ r | false ↦ true ] ])
    go true y p q r e = refl
    go false true p q r e = absurd (let z : ◌≡◌ {A = ℕ} 0 1 = cc in omega arith)
    go false false p q r e = refl

say-op : (a b f : ℕ) (vs : List ℕ) → 11 ≤ f → ((k : ℕ) → is_lacking a k ≡ is_lacking b k) → may_say a f vs ≡ may_say b f vs
unfolding may_say
say-op a b f vs h s = rw (may_say, ne_eqb f 0 (λ z. absurd (omega arith)), le-leb 11 f h, named_same a b (maxima_of (f - 11)) vs s)

stand_same : (a b p f : ℕ) (vs : List ℕ) → (1 ≤ p → (k : ℕ) → is_lacking a k ≡ is_lacking b k) → may_stand a p f vs ≡ may_stand b p f vs
unfolding may_stand form_kind within
stand_same a b zero f vs h = elim (dec_lt f 11) [
  | yes l ↦ ap (λ (x : Bool). within (get_or lows (form_kind f) 0) (get_or highs (form_kind f) 0) 0 && x) (say_low a b f vs l)
  | no n ↦ (rw (get_or-eq_default kinds 9 {n = f} (omega arith)))
]
stand_same a b (suc p) f vs h =
    ap (λ (x : Bool). within (get_or lows (form_kind f) 0) (get_or highs (form_kind f) 0) (suc p) && x)
    (elim (dec_lt f 11) [ yes l ↦ say_low a b f vs l | no n ↦ say-op a b f vs (omega arith) (h (omega arith)) ])

module _ (t : List ℕ) (q : Reader) (held : Held t (lists q)) where
  header_first : 1 ≤ q.place → get_or (lists q) 0 [] ≡ header_words q.so_far.header ∷ []
  unfolding lists header_rows
  header_first l = rw (le-leb 1 q.place l)

  float_held : 1 ≤ q.place → cell t 0 0 2 ≡ q.so_far.header.float
  unfolding stride header_words
  float_held l =
      cell_is t (lists q) 0 0 2 held (omega arith) (omega (arith, ap length (header_first l))) (omega arith)
      ∙ ap (λ (rs : List (List ℕ)). get_or (get_or rs 0 []) 2 0) (header_first l)

  -- The tables hold the header once it is read, so a line may stand by their bytes of a float exactly where it may by the reader's.
  stand_held : (f : ℕ) (vs : List ℕ) → may_stand (table_header t).float q.place f vs ≡ may_stand q.so_far.header.float q.place f vs
  unfolding table_header
  stand_held f vs =
      stand_same _ _ q.place f vs
      (λ l k. lacking_limited 8 (cell t 0 0 2) k (omega arith) ∙ ap (λ (x : ℕ). is_lacking x k) (float_held l))

  -- the same from what was found by the tables and by the place beside them
  pub stood : (place float f : ℕ) (vs : List ℕ) (r b : Bool) → q.place ≡ place → float ≡ (table_header t).float → r ≡ may_stand float place f vs → r ≡ b
      → may_stand q.so_far.header.float q.place f vs ≡ b
  stood place float f vs r b p e s d =
      sym (stand_held f vs) ∙ ap (λ (x : ℕ). may_stand x q.place f vs) (sym e) ∙ ap (λ (x : ℕ). may_stand float x f vs) p ∙ sym s ∙ d

-- ── One step ──────────────────────────────────────────────────────────────────────────────

kind-form : (l : Line) → kind l ≡ 10 → (m : Module) → add m l ≡ m
unfolding kind add
kind-form (first_line h) e m = absurd (omega arith)
kind-form (slot_line x) e m = absurd (omega arith)
kind-form (shared_line x) e m = absurd (omega arith)
kind-form (private_line x) e m = absurd (omega arith)
kind-form (enum_line x) e m = absurd (omega arith)
kind-form (native_line x) e m = absurd (omega arith)
kind-form (sig_line x) e m = absurd (omega arith)
kind-form (chunk_line x) e m = absurd (omega arith)
kind-form (const_line x) e m = absurd (omega arith)
kind-form (op_line x) e m = absurd (omega arith)
kind-form close_line e m = refl

lists-same : (r : Reader) (p : ℕ) (m : Module) → m ≡ r.so_far → 1 ≤ p → 1 ≤ r.place → lists r ≡ lists (record { place = p; so_far = m })
unfolding lists
lists-same r p m e a b = rw (e, le-leb 1 p a, le-leb 1 r.place b)

module _ (n : ℕ) (q : Reader) (s : Bytes) where
  pub step_unread : read_line s ≡ none → (u : List ℕ) → StepIs (next_line n q s) (Err (R.CannotFollow n)) u
  unfolding StepIs numbers with_chunk fields
  step_unread h u = not_read n q s h

  module _ (line : Line) (reads : read_line s ≡ some line) (f : ℕ) (v : Values) (vs : List ℕ) (fit : Fits line f vs) (st : Stored v vs) where
    pub step_misplaced : may_stand q.so_far.header.float q.place f vs ≡ false → (u : List ℕ) → StepIs (next_line n q s) (Err (R.CannotFollow n)) u
    unfolding StepIs numbers with_chunk fields
    step_misplaced m u = out_of_place n q s line reads f vs fit m

    module _ (m : may_stand q.so_far.header.float q.place f vs ≡ true) (t : List ℕ) (held : Held t (lists q)) (sound : Sound q) where
      where_line : (get_or lows (form_kind f) 0 ≤ q.place) × (q.place ≤ get_or highs (form_kind f) 0)
      where_line = standing q.so_far.header.float q.place f (form_kind f) vs refl m

      line_stands : Stands q.place line
      line_stands = stands q.place line (standing q.so_far.header.float q.place f (kind line) vs fit.table m)

      pub step_close : form_kind f ≡ 10 → (p : Place) → place_number p ≡ place_after (form_kind f) q.place → StepIs (next_line n q s) (Ok p) t
      unfolding StepIs
      step_close k p x =
          let kl : kind line ≡ 10 = fit.table ∙ k in
          let same : add q.so_far line ≡ q.so_far = kind-form line kl q.so_far in
          let one : 1 ≤ q.place = omega (arith, subst (λ (i : ℕ). get_or lows i 0 ≤ q.place) k where_line.0) in
          let y : place_number p ≡ place_after (kind line) q.place = x ∙ ap (λ (i : ℕ). place_after i q.place) (sym fit.table) in (
            record { place = place_number p; so_far = add q.so_far line },
            closed_line n q s line reads f vs fit m k ∙ ap (λ (i : ℕ). ok (record { place = i; so_far = add q.so_far line })) (sym x),
            refl,
            subst (Held t) (lists-same q (place_number p) (add q.so_far line) same (omega (arith, y, after_pos line q.place)) one) held,
            sound_next q line (place_number p) y sound line_stands,
          )

      module _ (k : form_kind f < 10) where
        no_header : form_kind f ≡ 0 → get_or t (form_kind f) 0 ≡ get_or (counts q.so_far) (form_kind f) 0
        unfolding counts
        no_header z =
            let p : q.place ≡ 0 = omega (arith, subst (λ (i : ℕ). q.place ≤ get_or highs i 0) z where_line.1) in
            subst (λ (i : ℕ). get_or t i 0 ≡ get_or (counts q.so_far) i 0) (sym z)
            (held_count t (lists q) 0 (omega arith) held ∙ ap (λ (ls : List (List (List ℕ))). length (get_or ls 0 [])) (sound.empty p))

        counted : get_or t (form_kind f) 0 ≡ get_or (counts q.so_far) (form_kind f) 0
        counted = ⊎_elim no_header (λ z. count_is t q (form_kind f) held (pos_of (form_kind f) z) k) (eq_or (form_kind f) 0)
          where
            pos_of : (i : ℕ) → i ≢ 0 → 1 ≤ i
            pos_of zero z = absurd (z refl)
            pos_of (suc i) z = omega arith

        pub step_full : cap (form_kind f) ≤ get_or t (form_kind f) 0 → (u : List ℕ) → StepIs (next_line n q s) (Err (R.LimitPassed 0 L.Table)) u
        unfolding StepIs numbers with_chunk fields
        step_full c u = table_full n q s line reads f vs fit m k (omega (arith, counted))

        module _ (room : get_or t (form_kind f) 0 < cap (form_kind f)) where
          has_space : get_or (counts q.so_far) (form_kind f) 0 < cap (form_kind f)
          has_space = omega (arith, counted)

          pub step_limit : (l : Limit) → own_limit f vs ≡ some (limit (limit_number l)) → (u : List ℕ) → StepIs (next_line n q s) (Err (R.LimitPassed 0 l)) u
          unfolding StepIs numbers with_chunk fields
          step_limit l o u = own_refused n q s line reads f vs fit m k has_space (limit (limit_number l)) o

          pub step_stored : own_limit f vs ≡ none → (row u : List ℕ) → (p : Place) → place_number p ≡ place_after (form_kind f) q.place
              → ((mo : Module) (vs : List ℕ) (l : Line) → Stored v vs → Fits l f vs → own_limit f vs ≡ none
              → get_or t 8 0 ≡ length (all_consts mo.chunks) → get_or t 9 0 ≡ length (all_ops mo.chunks) → SameWords row (row_words mo f vs))
              → Appended t (form_kind f) row u → StepIs (next_line n q s) (Ok p) u
          unfolding StepIs counts
          step_stored o row u p x w a =
              let y : place_number p ≡ place_after (kind line) q.place = x ∙ ap (λ (i : ℕ). place_after i q.place) (sym fit.table) in
              let ws : SameWords row (row_words q.so_far f vs) =
              w q.so_far vs line st fit o (count_is t q 8 held (omega arith) (omega arith)) (count_is t q 9 held (omega arith) (omega arith)) in (
                record { place = place_number p; so_far = add q.so_far line },
                stored_line n q s line reads f vs fit m k has_space o
                    ∙ ap (λ (i : ℕ). ok (record { place = i; so_far = add q.so_far line })) (sym x),
                refl,
                held_next t u row vs q line f (place_number p) fit k x held sound line_stands room a (λ j l. ws j (omega (arith, stride_small (form_kind f) k))),
                sound_next q line (place_number p) y sound line_stands,
              )

-- The same as the code asks it: b says whether the line may stand.
module _ (n : ℕ) (q : Reader) (s : Bytes) (place : Place) (t : List ℕ) (form : Head) (v : Values)
    (is : (l : Line) × (vs : List ℕ) × (read_line s ≡ some l) × Fits l (head_number form) vs × Stored v vs)
    (p : q.place ≡ place_number place) (held : Held t (lists q)) (sound : Sound q) (float : ℕ) (same : float ≡ (table_header t).float)
    (b : Bool) (may : (vs : List ℕ) → Stored v vs → b ≡ may_stand float (place_number place) (head_number form) vs) where
  abbrev f : ℕ
  f = head_number form

  said : (d : Bool) → b ≡ d → may_stand q.so_far.header.float q.place f is.1 ≡ d
  said d g = stood t q held (place_number place) float f is.1 b d p same (may is.1 is.4) g

  pub line_misplaced : b ≡ false → (u : List ℕ) → StepIs (next_line n q s) (Err (R.CannotFollow n)) u
  line_misplaced g u = step_misplaced n q s is.0 is.2 f v is.1 is.3 is.4 (said false g) u

  module _ (g : b ≡ true) (next : Place) (after : place_number next ≡ place_after (form_kind f) (place_number place)) where
    leads : place_number next ≡ place_after (form_kind f) q.place
    leads = after ∙ ap (place_after (form_kind f)) (sym p)

    pub line_close : form_kind f ≡ 10 → StepIs (next_line n q s) (Ok next) t
    line_close k = step_close n q s is.0 is.2 f v is.1 is.3 is.4 (said true g) t held sound k next leads

    module _ (k : ℕ) (of : k ≡ form_kind f) (small : k < 10) (most : ℕ) (cap_is : most ≡ cap k) where
      low : form_kind f < 10
      low = omega arith

      pub line_full : most ≤ get_or t k 0 → (u : List ℕ) → StepIs (next_line n q s) (Err (R.LimitPassed 0 L.Table)) u
      line_full h u =
          step_full n q s is.0 is.2 f v is.1 is.3 is.4 (said true g) t held sound low
          (subst (λ (x : ℕ). cap x ≤ get_or t x 0) of (subst (λ (x : ℕ). x ≤ get_or t k 0) cap_is h)) u

      module _ (h : get_or t k 0 < most) (own : CodeOption Limit) (own_is : (vs : List ℕ) → Stored v vs → own_limit f vs ≡ limit_of own) where
        room : get_or t (form_kind f) 0 < cap (form_kind f)
        room = subst (λ (x : ℕ). get_or t x 0 < cap x) of (subst (λ (x : ℕ). get_or t k 0 < x) cap_is h)

        pub line_limit : (l : Limit) → own ≡ Some l → (u : List ℕ) → StepIs (next_line n q s) (Err (R.LimitPassed 0 l)) u
        line_limit l o u =
            step_limit n q s is.0 is.2 f v is.1 is.3 is.4 (said true g) t held sound low room l (own_is is.1 is.4 ∙ ap limit_of o) u

        pub line_stored : own ≡ None → (row u : List ℕ) → RowIs form v (get_or t 8 0) (get_or t 9 0) row → Appended t k row u → StepIs (next_line n q s) (Ok next) u
        line_stored o row u words a =
            step_stored n q s is.0 is.2 f v is.1 is.3 is.4 (said true g) t held sound low room (own_is is.1 is.4 ∙ ap limit_of o) row u next leads words
            (subst (λ (x : ℕ). Appended t x row u) of a)

-- ── Forms of ops ──────────────────────────────────────────────────────────────────────────

pub kind_op : (f : ℕ) → 11 ≤ f → form_kind f ≡ 9
unfolding form_kind
kind_op f h = get_or-eq_default kinds 9 {n = f} h

-- ── Tables of kinds and places ────────────────────────────────────────────────────────────

pub kind-listed : (f : ℕ) → f < 11 → (get_or kinds f 0 ≡ form_kind f) × (get_or kinds f 0 < 11)
unfolding form_kind all_below
kind-listed f h =
    let t : T (eqb (get_or kinds f 0) (get_or kinds f 9) && ltb (get_or kinds f 0) 11) =
    at_each 11 (λ i. eqb (get_or kinds i 0) (get_or kinds i 9) && ltb (get_or kinds i 0) 11) tt f h in (
      eqb→eq (get_or kinds f 0) (get_or kinds f 9) (and_l (eqb (get_or kinds f 0) (get_or kinds f 9)) _ t),
      ltb→lt (get_or kinds f 0) 11 (and_r (eqb (get_or kinds f 0) (get_or kinds f 9)) _ t),
    )

module _ (k p : ℕ) where
  pub after_chunk : k ≡ 10 → 8 ≤ p → 7 ≡ place_after k p
  unfolding place_after choose
  after_chunk e h = rw (e, le-leb 8 p h)

  pub after_module : k ≡ 10 → p < 8 → 10 ≡ place_after k p
  unfolding place_after choose
  after_module e h = rw (e, lt-leb 8 p h)

  pub after_row : (k ≡ 10 → ⊥) → get_or nexts k 0 ≡ place_after k p
  unfolding place_after choose
  after_row n = rw (ne_eqb k 10 n)

module _ (a b p : ℕ) where
  pub before_low : p < a → false ≡ within a b p
  unfolding within
  before_low h = rw (lt-leb a p h)

  pub from_low : a ≤ p → leb p b ≡ within a b p
  unfolding within
  from_low h = rw (le-leb a p h)

module _ (f n : ℕ) where
  pub head_op : 11 ≤ f → f - 11 ≡ head_word f n
  unfolding head_word choose
  head_op h = rw (le-leb 11 f h)

  pub head_shared : f ≡ 1 → 0 ≡ head_word f n
  unfolding head_word choose
  head_shared e = rw e

  pub head_private : f ≡ 2 → 1 ≡ head_word f n
  unfolding head_word choose
  head_private e = rw e

  pub head_count : f < 11 → (f ≡ 1 → ⊥) → (f ≡ 2 → ⊥) → n ≡ head_word f n
  unfolding head_word choose
  head_count h a b = rw (lt-leb 11 f h, ne_eqb f 1 a, ne_eqb f 2 b)

-- What a form's number and the words read by it say of the line: its table, its row, where it may stand, which limits it meets.
use Rattle.std.proofs.Math.Path.{◌≡◌, sym, ap, subst}
use Rattle.std.specs.Prelude.{refl, T, Bool, true, false, not, ◌&&◌, leb, ltb, eqb, get_or, drop}
use Rattle.std.proofs.Common.{◌∙◌}
use Rattle.std.proofs.Math.Option.{Option, none, some}
use Rattle.std.proofs.Math.Logic.{⊎_elim}
use mathlib.Core.List.{List, [], ◌∷◌, ◌++◌, map, append-nil}
use Prim.Native.Nat.{ℕ, zero, suc, ◌+◌, ◌-◌, ◌≤◌, ◌<◌}
use native.Mathlib.Omega.{arith}
use Rattle.std.proofs.Math.Dec.{leb-suc-suc}
use Rattle.std.specs.Float.Ieee.Fits.{and_l, and_r}
use Rattle.definition.specs.Shapes.{Wire}
use Rattle.std.proofs.Math.ListN.{length, get_elem?, get_or-eq_default}
use borrow.Author.Tests.{le-leb, ne_eqb}
use Rattle.definition.specs.Basics.{choose, is_member, unless, first}
use Rattle.definition.specs.Format.{Bytes, bytes, Form as LineForm, form, parse, shape_at}
use Rattle.definition.specs.Format.{◌and_then◌, nothing_after, whole, provided}
use Rattle.definition.specs.Ops.{ops, Op, instr, named_kind, has_kind}
use Rattle.definition.specs.Module.{Header, Module, all_consts, all_ops}
use Rattle.definition.specs.Read.{Line, op_line, line_forms, within, follow, limits, has_room}
use Rattle.theorems.specs.Keys.{key, keys, apart_from, all_apart}
use Rattle.theorems.specs.KindOf.{has_kinds, kinds_by_maxima}
use Rattle.theorems.specs.Rendered.{Values, at_values}
use Rattle.bytecode.specs.Tables.{cap}
use Rattle.bytecode.specs.Meaning.{maxima_of}
use Rattle.bytecode.specs.Operands.{row_of}
use Rattle.bytecode.specs.Held.{wire_word, kind, words, length-map, header_words, slot_words, shared_words, private_words, one_word, native_words}
use Rattle.bytecode.specs.Held.{sig_words, chunk_words, op_words}
use Rattle.listing.specs.Scan.{among_code, codes, admitted, item, scan, form_codes}
use Rattle.listing.specs.declared.form.Form.{Form}
use Rattle.listing.specs.declared.form.Form.TheVariants as F
use Rattle.listing.specs.declared.entry.Head.{Head}
use Rattle.listing.specs.declared.entry.Head.TheVariants as H
use Rattle.listing.specs.declared.place.Place.{Place}
use Rattle.listing.specs.declared.place.Place.TheVariants as P
use Rattle.listing.specs.Agree.{as_words, ascii, known_max, Known, Agree, agree}

-- ── Numbers of forms and places ───────────────────────────────────────────────────────────

abbrev pub form_number : Form → ℕ
form_number F.Module = 0
form_number F.SharedSlot = 1
form_number F.PrivateSlot = 2
form_number F.Shared = 3
form_number F.Private = 4
form_number F.Enum = 5
form_number F.Native = 6
form_number F.Signature = 7
form_number F.Chunk = 8
form_number F.Constant = 9
form_number F.Close = 10

-- an op by the row of its name
abbrev pub head_number : Head → ℕ
head_number (H.Form f) = form_number f
head_number (H.Op row) = 11 + row.number

abbrev pub place_number : Place → ℕ
place_number P.Start = 0
place_number P.Slots = 1
place_number P.Shared = 2
place_number P.Private = 3
place_number P.Enums = 4
place_number P.Natives = 5
place_number P.Signatures = 6
place_number P.Chunks = 7
place_number P.Constants = 8
place_number P.Instructions = 9
place_number P.End = 10

-- ── What is read off a form's number ──────────────────────────────────────────────────────

abbrev pub kinds : List ℕ
kinds = 0 ∷ 1 ∷ 1 ∷ 2 ∷ 3 ∷ 4 ∷ 5 ∷ 6 ∷ 7 ∷ 8 ∷ 10 ∷ []

-- its table; 10 for the closing line
unfoldable pub form_kind : ℕ → ℕ
form_kind f = get_or kinds f 9

-- The first word of a row: 0 or 1 for a slot, the op's number, else how many values follow.
unfoldable pub head_word : ℕ → ℕ → ℕ
head_word f n = choose (leb 11 f) (f - 11) (choose (eqb f 1) 0 (choose (eqb f 2) 1 n))

-- what follows a row's values: before a chunk, the numbers of constants and of instructions
unfoldable pub tail_words : Module → ℕ → List ℕ
tail_words m f = elim (eqb f 8) [ true ↦ length (all_consts m.chunks) ∷ length (all_ops m.chunks) ∷ [] | false ↦ [] ]

unfoldable pub row_words : Module → ℕ → List ℕ → List ℕ
row_words m f vs = head_word f (length vs) ∷ (vs ++ tail_words m f)

-- the places at which a line of a table may stand, and the place after it
abbrev pub lows : List ℕ
lows = 0 ∷ 1 ∷ 1 ∷ 1 ∷ 1 ∷ 1 ∷ 1 ∷ 1 ∷ 8 ∷ 8 ∷ 1 ∷ []

abbrev pub highs : List ℕ
highs = 0 ∷ 1 ∷ 2 ∷ 3 ∷ 4 ∷ 5 ∷ 6 ∷ 7 ∷ 8 ∷ 9 ∷ 9 ∷ []

abbrev pub nexts : List ℕ
nexts = 1 ∷ 1 ∷ 2 ∷ 3 ∷ 4 ∷ 5 ∷ 6 ∷ 8 ∷ 8 ∷ 9 ∷ []

unfoldable pub place_after : ℕ → ℕ → ℕ
place_after k p = choose (eqb k 10) (choose (leb 8 p) 7 10) (get_or nexts k 0)

-- I and H are unequal; and where a float has so many bytes, an op names no kind that is lacking
unfoldable pub may_say : ℕ → ℕ → List ℕ → Bool
may_say float f vs =
    elim (eqb f 0) [
      | true ↦ not (eqb (get_or vs 5 0) (get_or vs 6 0))
      | false ↦ elim (leb 11 f) [ true ↦ has_kinds float (maxima_of (f - 11)) vs | false ↦ true ]
    ]

unfoldable pub may_stand : ℕ → ℕ → ℕ → List ℕ → Bool
may_stand float p f vs = within (get_or lows (form_kind f) 0) (get_or highs (form_kind f) 0) p && may_say float f vs

-- entries of each table so far; of the header none count
unfoldable pub counts : Module → List ℕ
counts m =
    0 ∷ length m.slots ∷ length m.shareds ∷ length m.privates ∷ length m.enums ∷ length m.natives ∷ length m.sigs
    ∷ length m.chunks ∷ length (all_consts m.chunks) ∷ length (all_ops m.chunks) ∷ []

unfoldable pub own_limit : ℕ → List ℕ → Option (List ℕ)
own_limit f vs =
    elim (eqb f 7) [
      | true ↦ unless (leb (length vs) 18) (2 ∷ 0 ∷ 0 ∷ 2 ∷ [])
      | false ↦
          elim (eqb f 8) [ true ↦ unless (leb (get_or vs 0 0) 32) (2 ∷ 0 ∷ 0 ∷ 3 ∷ []) | false ↦ none ]
    ]

pub record Fits (l : Line) (f : ℕ) (vs : List ℕ) : Type 0 where
  pub table : kind l ≡ form_kind f
  pub row : (m : Module) → kind l < 10 → words m l ≡ row_words m f vs
  pub follows : (h : Header) (p : ℕ) → follow h p l ≡ provided (may_stand h.float p f vs) (place_after (form_kind f) p)
  pub limited : (m : Module) → kind l < 10 → limits m l ≡ first (unless (ltb (get_or (counts m) (form_kind f) 0) (cap (form_kind f))) (2 ∷ 0 ∷ 0 ∷ 2 ∷ [])) (own_limit f vs)
  pub unlimited : (m : Module) → kind l ≡ 10 → limits m l ≡ none
  pub short : f < 11 → (f ≡ 7 → ⊥) → length vs ≤ 18
  pub single : f ≡ 8 → length vs ≡ 1

-- ── Every form ────────────────────────────────────────────────────────────────────────────

pub record Right (f : ℕ) (fm : LineForm Line) : Type 0 where
  pub known : Known fm.items
  pub fits : (v : Values fm.items) → Fits (at_values fm.items fm.make v) f (as_words fm.items v)

abbrev pub AllRight : ℕ → List (LineForm Line) → Type 0
AllRight n [] = Unit {0}
AllRight n (f ∷ fs) = Right n f × AllRight (suc n) fs

no_limit : (o : Option (List ℕ)) → first o none ≡ o
unfolding first
no_limit none = refl
no_limit (some r) = refl

true_and : (b : Bool) → (b && true) ≡ b
true_and true = refl
true_and false = refl

sig_row : (a b : ℕ) (ps : List Wire)
    → (2 + length ps) ∷ a ∷ b ∷ map wire_word ps ≡ length (a ∷ b ∷ (map wire_word ps ++ [])) ∷ ((a ∷ b ∷ (map wire_word ps ++ [])) ++ [])
sig_row a b ps =
    rw (append-nil (map wire_word ps ++ []), append-nil (map wire_word ps), length-map wire_word ps)
    (ap (λ (n : ℕ). n ∷ a ∷ b ∷ map wire_word ps) (let e : 2 + length ps ≡ suc (suc (length ps)) = omega arith in e))

sig_limit : (o : Option (List ℕ)) (a b : ℕ) (ps : List Wire)
    → first o (unless (leb (length ps) 16) (2 ∷ 0 ∷ 0 ∷ 2 ∷ []))
    ≡ first o (unless (leb (length (a ∷ b ∷ (map wire_word ps ++ []))) 18) (2 ∷ 0 ∷ 0 ∷ 2 ∷ []))
sig_limit o a b ps =
    rw (append-nil (map wire_word ps), length-map wire_word ps)
    (ap (λ (x : Bool). first o (unless x (2 ∷ 0 ∷ 0 ∷ 2 ∷ []))) (sym (leb-suc-suc (suc (length ps)) 17 ∙ leb-suc-suc (length ps) 16)))

pub line_fits : AllRight 0 line_forms
unfolding line_forms form Known known_max is_member ascii bytes admitted among_code choose item as_words kind form_kind words row_words head_word tail_words header_words slot_words shared_words private_words one_word native_words sig_words chunk_words follow may_stand place_after may_say limits has_room counts cap own_limit first unless
line_fits = (
  record { known = (tt, (λ n. refl, λ b. refl, (λ n. refl, λ b. refl, (λ n. refl, λ b. refl, (tt, (tt, (tt, (tt, tt)))))))); fits = λ v. record { table = refl; row = λ m b. refl; follows = λ h p. refl; limited = λ m b. refl; unlimited = λ m e. absurd (omega arith); short = λ a b. omega arith; single = λ e. absurd (omega arith) } },
  (
    record { known = (tt, tt); fits = λ v. record { table = refl; row = λ m b. refl; follows = λ h p. rw (true_and (within 1 1 p)); limited = λ m b. sym (no_limit _); unlimited = λ m e. absurd (omega arith); short = λ a b. omega arith; single = λ e. absurd (omega arith) } },
    (
      record { known = (tt, tt); fits = λ v. record { table = refl; row = λ m b. refl; follows = λ h p. rw (true_and (within 1 1 p)); limited = λ m b. sym (no_limit _); unlimited = λ m e. absurd (omega arith); short = λ a b. omega arith; single = λ e. absurd (omega arith) } },
      (
        record { known = (tt, (tt, (tt, (tt, (tt, tt))))); fits = λ v. record { table = refl; row = λ m b. refl; follows = λ h p. rw (true_and (within 1 2 p)); limited = λ m b. sym (no_limit _); unlimited = λ m e. absurd (omega arith); short = λ a b. omega arith; single = λ e. absurd (omega arith) } },
        (
          record { known = (tt, (tt, (tt, (tt, tt)))); fits = λ v. record { table = refl; row = λ m b. refl; follows = λ h p. rw (true_and (within 1 3 p)); limited = λ m b. sym (no_limit _); unlimited = λ m e. absurd (omega arith); short = λ a b. omega arith; single = λ e. absurd (omega arith) } },
          (
            record { known = (tt, (tt, (tt, tt))); fits = λ v. record { table = refl; row = λ m b. refl; follows = λ h p. rw (true_and (within 1 4 p)); limited = λ m b. sym (no_limit _); unlimited = λ m e. absurd (omega arith); short = λ a b. omega arith; single = λ e. absurd (omega arith) } },
            (
              record { known = (tt, (tt, tt)); fits = λ v. record { table = refl; row = λ m b. refl; follows = λ h p. rw (true_and (within 1 5 p)); limited = λ m b. sym (no_limit _); unlimited = λ m e. absurd (omega arith); short = λ a b. omega arith; single = λ e. absurd (omega arith) } },
              (
                record { known = (tt, (tt, tt)); fits = λ v. record { table = refl; row = λ m b. sig_row (wire_word v.0) (wire_word v.1.0) v.1.1.0; follows = λ h p. rw (true_and (within 1 6 p)); limited = λ m b. sig_limit (unless (ltb (length m.sigs) 64) (2 ∷ 0 ∷ 0 ∷ 2 ∷ [])) (wire_word v.0) (wire_word v.1.0) v.1.1.0; unlimited = λ m e. absurd (omega arith); short = λ a b. absurd (b refl); single = λ e. absurd (omega arith) } },
                (
                  record { known = (tt, (tt, tt)); fits = λ v. record { table = refl; row = λ m b. refl; follows = λ h p. rw (true_and (within 1 7 p)); limited = λ m b. refl; unlimited = λ m e. absurd (omega arith); short = λ a b. omega arith; single = λ e. refl } },
                  (
                    record { known = (tt, (λ n. refl, λ b. refl, (tt, tt))); fits = λ v. record { table = refl; row = λ m b. refl; follows = λ h p. rw (true_and (within 8 8 p)); limited = λ m b. sym (no_limit _); unlimited = λ m e. absurd (omega arith); short = λ a b. omega arith; single = λ e. absurd (omega arith) } },
                    (record { known = (tt, tt); fits = λ v. record { table = refl; row = λ m b. absurd (omega arith); follows = λ h p. rw (true_and (within 1 9 p)); limited = λ m b. absurd (omega arith); unlimited = λ m e. refl; short = λ a b. omega arith; single = λ e. absurd (omega arith) } }, tt),
                  ),
                ),
              ),
            ),
          ),
        ),
      ),
    ),
  ),
)

-- An op's form, at any number from 11 on.
module _ (f n : ℕ) (e : f ≡ 11 + n) (low : n < 75) (o : Op) (c : o.code ≡ n) (long : length o.operands ≡ length (maxima_of n)) where
  op_kind : form_kind f ≡ 9
  unfolding form_kind
  op_kind = get_or-eq_default kinds 9 {n = f} (omega arith)

  not_form : (k : ℕ) → k < 11 → eqb f k ≡ false
  not_form k h = ne_eqb f k (λ x. absurd (omega arith))

  -- the kind that it names, by the maxima of its row
  named : (float : ℕ) → has_kind float (named_kind (instr o)) ≡ has_kinds float (maxima_of o.code) o.operands
  unfolding maxima_of
  named float =
      let q = row_of n low in
      let m : maxima_of o.code ≡ q.this.maxima = ap maxima_of c ∙ q.maxima in
      kinds_by_maxima float o q.this (ap (get_elem? ops) c ∙ q.here) (omega (arith, long, ap length q.maxima))
      ∙ ap (λ (ms : List ℕ). has_kinds float ms o.operands) (sym m)

  pub op_fits : Fits (op_line o) f o.operands
  unfolding kind words row_words head_word tail_words op_words follow may_stand place_after may_say limits has_room counts cap own_limit choose
  op_fits =
      let d : f - 11 ≡ o.code = omega arith in
      record {
        table = sym op_kind;
        row =
            λ m b. rw (tail_words, le-leb 11 f (omega arith), not_form 8 (omega arith), d, append-nil o.operands);
        follows = λ h p. rw (op_kind, may_say, not_form 0 (omega arith), le-leb 11 f (omega arith), d, named h.float);
        limited = λ m b. rw (op_kind, own_limit, not_form 7 (omega arith), not_form 8 (omega arith)) (sym (no_limit _));
        unlimited = λ m x. absurd (omega arith);
        short = λ a b. absurd (omega arith);
        single = λ a. absurd (omega arith);
      }

-- ── One form of the list ──────────────────────────────────────────────────────────────────

pub record FormAt (n k : ℕ) (fs : List (LineForm Line)) : Type 0 where
  pub this : LineForm Line
  pub here : drop k fs ≡ this ∷ drop (suc k) fs
  pub right : Right n this
  pub coded : get_or (form_codes fs) k [] ≡ codes this.items

pub form-at : (n k m : ℕ) (fs : List (LineForm Line)) → m ≡ n + k → AllRight n fs → k < length fs → FormAt m k fs
unfolding form_codes
form-at n k m [] e a h = absurd (omega arith)
form-at n zero m (f ∷ fs) e a h =
    let d : n ≡ m = omega arith in
    record { this = f; here = refl; right = subst (λ (i : ℕ). Right i f) d a.0; coded = refl }
form-at n (suc k) m (f ∷ fs) e a h =
    let r = form-at (suc n) k m fs (omega arith) a.1 (omega arith) in
    record { this = r.this; here = r.here; right = r.right; coded = r.coded }

-- its text, which no form after it begins with
pub record Apart (k : ℕ) (fs : List (LineForm Line)) (this : LineForm Line) : Type 0 where
  pub keyed : get_or (keys fs) k [] ≡ key this.items
  pub apart : T (apart_from (key this.items) (keys (drop (suc k) fs)))

pub form-apart : (k : ℕ) (fs : List (LineForm Line)) (f : LineForm Line) → drop k fs ≡ f ∷ drop (suc k) fs → T (all_apart (keys fs)) → Apart k fs f
unfolding keys all_apart
form-apart zero [] f e t = absurd (omega (arith, ap length e))
form-apart (suc k) [] f e t = absurd (omega (arith, ap length e))
form-apart zero (g ∷ gs) f e t =
    let q : g ≡ f = cc in
    subst (Apart zero (g ∷ gs)) q (record { keyed = refl; apart = and_l (apart_from (key g.items) (keys gs)) (all_apart (keys gs)) t })
form-apart (suc k) (g ∷ gs) f e t =
    let r = form-apart k gs f e (and_r (apart_from (key g.items) (keys gs)) (all_apart (keys gs)) t) in
    record { keyed = r.keyed; apart = r.apart }

-- ── Reading by a form ─────────────────────────────────────────────────────────────────────

no_some : {A : Type 0} {x : A} → none ≡ some x → ⊥
no_some e = let z : ◌≡◌ {A = ℕ} 0 1 = cc in omega arith

module _ (bs : Bytes) (k : ℕ) (fs : List (LineForm Line)) (en : FormAt k k fs) where
  outcome : Option (Line × Bytes)
  outcome = parse shape_at en.this.items en.this.make bs

  agreed : Agree en.this.items en.this.make outcome (scan (codes en.this.items) bs)
  unfolding outcome
  agreed = agree Line en.this.items en.this.make bs en.right.known

  -- the line, if the form takes it whole
  unfoldable pub taken : Option Line
  taken = parse shape_at en.this.items en.this.make bs and_then nothing_after

  pub taken_none : scan (codes en.this.items) bs ≡ none → taken ≡ none
  unfolding taken outcome Agree ◌and_then◌
  taken_none p =
      ⊎_elim (λ e. ap (λ (o : Option (Line × Bytes)). o and_then nothing_after) e.0)
      (λ e. absurd (no_some (sym p ∙ e.3))) agreed

  pub taken_more : (vs : List ℕ) (b : ℕ) (rest : Bytes) → scan (codes en.this.items) bs ≡ some (vs, b ∷ rest) → taken ≡ none
  unfolding taken outcome Agree ◌and_then◌ nothing_after
  taken_more vs b rest p =
      ⊎_elim (λ e. absurd (no_some (sym e.1 ∙ p)))
      (λ e.
      let q : ◌≡◌ {A = List ℕ × Bytes} (as_words en.this.items e.0, e.1) (vs, b ∷ rest) = cc in
      let d : e.1 ≡ b ∷ rest = ap (λ (x : List ℕ × Bytes). x.1) q in
      ap (λ (o : Option (Line × Bytes)). o and_then nothing_after) e.2
      ∙ ap (λ (r : Bytes). nothing_after (at_values en.this.items en.this.make e.0, r)) d) agreed

  pub taken_all : (vs : List ℕ) → scan (codes en.this.items) bs ≡ some (vs, []) → (l : Line) × (taken ≡ some l) × Fits l k vs
  unfolding taken outcome Agree ◌and_then◌ nothing_after
  taken_all vs p =
      ⊎_elim (λ e. absurd (no_some (sym e.1 ∙ p)))
      (λ e.
      let q : ◌≡◌ {A = List ℕ × Bytes} (as_words en.this.items e.0, e.1) (vs, []) = cc in
      let d : e.1 ≡ [] = ap (λ (x : List ℕ × Bytes). x.1) q in
      let w : as_words en.this.items e.0 ≡ vs = ap (λ (x : List ℕ × Bytes). x.0) q in
      let l : Line = at_values en.this.items en.this.make e.0 in (
        l,
        ap (λ (o : Option (Line × Bytes)). o and_then nothing_after) e.2 ∙ ap (λ (r : Bytes). nothing_after (l, r)) d,
        subst (λ (x : List ℕ). Fits l k x) w (en.right.fits e.0),
      )) agreed

  -- ── Trying it before the forms after it ─────────────────────────────────────────────────

  skipped : taken ≡ none → whole shape_at (drop k fs) bs ≡ whole shape_at (drop (suc k) fs) bs
  unfolding taken whole
  skipped e = rw en.here (by_first _ _ e)
    where
      by_first : (o x : Option Line) → o ≡ none → ◌≡◌ {A = Option Line} (elim o [ some a ↦ some a | none ↦ x ]) x
      by_first none x e = refl
      by_first (some a) x e = absurd (no_some (sym e))

  pub tried_none : scan (codes en.this.items) bs ≡ none → whole shape_at (drop k fs) bs ≡ whole shape_at (drop (suc k) fs) bs
  tried_none p = skipped (taken_none p)

  pub tried_more : (vs : List ℕ) (b : ℕ) (rest : Bytes) → scan (codes en.this.items) bs ≡ some (vs, b ∷ rest)
      → whole shape_at (drop k fs) bs ≡ whole shape_at (drop (suc k) fs) bs
  tried_more vs b rest p = skipped (taken_more vs b rest p)

  pub tried_all : (vs : List ℕ) → scan (codes en.this.items) bs ≡ some (vs, []) → (l : Line) × (whole shape_at (drop k fs) bs ≡ some l) × Fits l k vs
  unfolding taken whole
  tried_all vs p = let t = taken_all vs p in (t.0, rw en.here (at_first _ _ t.0 t.1), t.2)
    where
      at_first : (o x : Option Line) (l : Line) → o ≡ some l → ◌≡◌ {A = Option Line} (elim o [ some a ↦ some a | none ↦ x ]) (some l)
      at_first none x l e = absurd (no_some e)
      at_first (some a) x l e = e

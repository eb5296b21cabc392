-- The form that takes a line whole, and what the line then says.
use Rattle.std.specs.Prelude.{◌≡◌, refl, Bool, false, List, [], ◌∷◌, ◌++◌, ℕ, suc, ◌+◌, ◌≤◌, ◌<◌, T, eqb, length, get_or, drop, Option as CodeOption, Some, None}
use Rattle.std.proofs.Common.{sym, ap, ◌∙◌, subst, arith, add-one, eqb→eq, ne_eqb, drop_of_length-le}
use Rattle.std.proofs.Math.Option.{Option, none, some}
use Rattle.std.specs.Bool.{then_some}
use Rattle.definition.specs.Format.{Bytes, bytes, form, strip, parse, whole, shape_at, ◌and_then◌, nothing_after, Form as LineForm}
use Rattle.definition.specs.Read.{Line, line_forms}
use Rattle.theorems.specs.Keys.{key, keys, apart, apart_from, all_apart, starts, commit}
use Rattle.bytecode.specs.Tables.{all_below, at_each}
use Rattle.listing.specs.Scan.{Words, scan, codes, form_codes, no_word, then_words, joined}
use Rattle.listing.specs.Agree.{ascii, joined_nothing, scan_both, text_scan}
use Rattle.listing.specs.Forms.{Fits, form_number, FormAt, form-at, Apart, form-apart, line_fits, taken, taken_none, taken_more, taken_all, head_number}
use Rattle.listing.specs.declared.form.Form.TheVariants as F
use Rattle.listing.specs.Stored.{Stored}
use Rattle.listing.specs.declared.form.Form.{Form}
use Rattle.listing.specs.declared.entry.Values.{Values}
use Rattle.listing.specs.declared.entry.Entry.{Entry}
use Rattle.listing.specs.declared.entry.Head.TheVariants as H

abbrev pub whole_line : List (LineForm Line) → Bytes → Option Line
whole_line fs s = whole shape_at fs s

-- What an entry says of the line that the definition reads.
abbrev pub Entered : Option Line → CodeOption Entry → Type 0
Entered o None = o ≡ none
Entered o (Some e) = (l : Line) × (vs : List ℕ) × (o ≡ some l) × Fits l (head_number e.head) vs × Stored e.values vs

-- ── A form for a line that is taken whole ─────────────────────────────────────────────────

pub entered_none : (o : Option Line) (q : CodeOption Entry) → q ≡ None → o ≡ none → Entered o q
entered_none o None e n = n
entered_none o (Some r) e n = absurd (let z : ◌≡◌ {A = ℕ} 0 1 = cc in omega arith)

pub entered_then : (o u : Option Line) (q : CodeOption Entry) (r : Entry) (b d : Bool) → q ≡ then_some b r → b ≡ d → o ≡ u
    → Entered u (then_some d r) → Entered o q
entered_then o u q r b d e g h x =
    subst (λ (y : CodeOption Entry). Entered o y) (ap (λ (k : Bool). then_some k r) (sym g) ∙ sym e)
    (subst (λ (y : Option Line). Entered y (then_some d r)) (sym h) x)

-- ── Lines that are no ops ─────────────────────────────────────────────────────────────────

abbrev pub lines : List Form
lines = F.Module ∷ F.SharedSlot ∷ F.PrivateSlot ∷ F.Shared ∷ F.Private ∷ F.Enum ∷ F.Native ∷ F.Signature ∷ F.Chunk ∷ F.Constant ∷ F.Close ∷ []

number_at : (i : ℕ) → i < 11 → form_number (get_or lines i F.Module) ≡ i
unfolding all_below
number_at i h = eqb→eq _ i (at_each 11 (λ k. eqb (form_number (get_or lines k F.Module)) k) tt i h)

forms_long : length line_forms ≡ 11
unfolding line_forms
forms_long = refl

lines_apart : T (all_apart (keys line_forms))
unfolding all_apart apart_from apart keys key line_forms form bytes
lines_apart = tt

keys_ascii : (i : ℕ) → i < 11 → T (ascii (get_or (keys line_forms) i []))
unfolding all_below ascii keys key line_forms form bytes
keys_ascii i h = at_each 11 (λ k. ascii (get_or (keys line_forms) k [])) tt i h

module _ (s : Bytes) where
  -- what the forms from number i on read
  pub left_forms : ℕ → Option Line
  left_forms i = whole_line (drop i line_forms) s

  pub forms_start : whole_line line_forms s ≡ left_forms 0
  unfolding left_forms
  forms_start = refl

  pub forms_end : (i : ℕ) → 11 ≤ i → left_forms i ≡ none
  unfolding left_forms whole
  forms_end i h = ap (λ (fs : List (LineForm Line)). whole_line fs s) (drop_of_length-le line_forms {i = i} (omega (arith, forms_long)))

  module _ (i : ℕ) (h : i < 11) (text : Bytes) (k : text ≡ get_or (keys line_forms) (form_number (get_or lines i F.Module)) []) where
    at : FormAt i i line_forms
    at = form-at 0 i i line_forms (omega arith) line_fits (omega (arith, forms_long))

    alone : Apart i line_forms at.this
    alone = form-apart i line_forms at.this at.here lines_apart

    text_is : text ≡ key at.this.items
    text_is = k ∙ ap (λ (j : ℕ). get_or (keys line_forms) j []) (number_at i h) ∙ alone.keyed

    pub passed : strip text s ≡ none → left_forms i ≡ left_forms (i + 1)
    unfolding left_forms whole ◌and_then◌
    passed e =
        ap (λ (fs : List (LineForm Line)). whole_line fs s) at.here
        ∙ over (parse shape_at at.this.items at.this.make s) refl
        ∙ ap left_forms (sym (add-one i))
      where
        over : (o : Option (Line × Bytes)) → parse shape_at at.this.items at.this.make s ≡ o
            → ◌≡◌ {A = Option Line} (elim (o and_then nothing_after) [ some a ↦ some a | none ↦ left_forms (suc i) ]) (left_forms (suc i))
        over none q = refl
        over (some r) q = absurd (let z : ◌≡◌ {A = ℕ} 0 1 = (let w : none ≡ some (starts shape_at at.this.items at.this.make s r q).0 = sym e ∙ ap (λ (x : Bytes). strip x s) text_is ∙ (starts shape_at at.this.items at.this.make s r q).1 in cc) in omega arith)

    module _ (rest cs : Bytes) (e : strip text s ≡ some rest)
        (c : get_or (keys line_forms) (form_number (get_or lines i F.Module)) [] ++ cs ≡ get_or (form_codes line_forms) (form_number (get_or lines i F.Module)) []) where
      chosen : left_forms i ≡ taken s i line_forms at
      unfolding left_forms taken apart_from keys
      chosen =
          ap (λ (fs : List (LineForm Line)). whole_line fs s) at.here
          ∙ commit shape_at s rest [] (drop (suc i) line_forms) at.this (sym (ap (λ (x : Bytes). strip x s) text_is) ∙ e) tt alone.apart

      scanned : scan (codes at.this.items) s ≡ scan cs rest
      unfolding no_word then_words joined ◌and_then◌
      scanned =
          ap (λ (x : List ℕ). scan x s) (sym at.coded ∙ ap (λ (j : ℕ). get_or (form_codes line_forms) j []) (sym (number_at i h)) ∙ sym c ∙ ap (λ (x : Bytes). x ++ cs) (sym k))
          ∙ scan_both text cs s
          ∙ ap (λ (x : Words). then_words x (scan cs)) (text_scan text s front ∙ ap no_word e)
          ∙ joined_nothing (scan cs rest)
        where
          front : T (ascii text)
          front = subst (λ (x : Bytes). T (ascii x)) (sym (k ∙ ap (λ (j : ℕ). get_or (keys line_forms) j []) (number_at i h))) (keys_ascii i h)

      pub chosen_none : scan cs rest ≡ none → left_forms i ≡ none
      chosen_none x = chosen ∙ taken_none s i line_forms at (scanned ∙ x)

      module _ (ws : List ℕ) (x : Bytes) (y : scan cs rest ≡ some (ws, x)) where
        module _ (v : Values) (st : Stored v ws) where
          abbrev entry : Entry
          entry = record { head = H.Form (get_or lines i F.Module); values = v }

          pub chosen_entered : Entered (left_forms i) (then_some (eqb (length x) 0) entry)
          chosen_entered = go x y
            where
              go : (z : Bytes) → scan cs rest ≡ some (ws, z) → Entered (left_forms i) (then_some (eqb (length z) 0) entry)
              go [] q =
                  let t = taken_all s i line_forms at ws (scanned ∙ q) in
                  (t.0, ws, chosen ∙ t.1, subst (λ (j : ℕ). Fits t.0 j ws) (sym (number_at i h)) t.2, st)
              go (b ∷ z) q =
                  entered_then _ _ _ _ _ false refl (ne_eqb (length (b ∷ z)) 0 (λ e. absurd (omega arith)))
                  (chosen ∙ taken_more s i line_forms at ws b z (scanned ∙ q)) refl

pub ruleset line_laws = (forms_start, passed, forms_end, chosen_none, entered_none)

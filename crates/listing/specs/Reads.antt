-- All lines, and what reading a listing gives.
use Rattle.std.specs.Prelude.{◌≡◌, Bool, ◌&&◌, ◌⊎◌, List, [], ◌∷◌, ◌++◌, ◌≢◌, eqb, ltb, length, replicate, set, drop, Option as CodeOption, Some, None, Result as Outcome, Ok, Err}
use Rattle.std.proofs.Math.Path.{refl, sym, ap, subst}
use Rattle.std.proofs.Common.{◌∙◌, inl, inr, ⊎_elim, add-one, length-append, length-set, get_or-set_same, get_or-set_other, le-leb, eq-eqb, ne_eqb, length-take-le, le-ltb, lt-ltb, Bor}
use Rattle.std.proofs.lemmas.List.{take_all}
use Rattle.std.proofs.Math.Bool.{true, false}
use Prim.Native.Nat.{ℕ, zero, suc, ◌+◌, ◌-◌, ◌≤◌, ◌<◌}
use native.Mathlib.Omega.{arith}
use Rattle.std.proofs.Math.Decide.{dec_lt}
use Rattle.std.specs.List.{position_or_len}
use Rattle.std.proofs.Math.Bool.{not, cond}
use borrow.Rule.Slice.PartMut.{post_of}
use Rattle.std.proofs.lemmas.List.{get_or-replicate}
use Rattle.std.proofs.lemmas.Bool.{lt-leb}
use Rattle.std.proofs.Math.ListN.{get_or, take, length-drop, get_or-append}
use Rattle.definition.specs.Basics.{Result, ok, refused, ◌>>=◌, unless, pass}
use Rattle.definition.specs.Format.{Bytes, provided}
use Rattle.definition.specs.Module.{Module, all_consts, all_ops}
use Rattle.definition.specs.Read.{Lines, line, end, byte_before, cut, Reader, at_start, or_line, next_line, is_empty, read_lines, read}
use Rattle.bytecode.specs.Tables.{size, table, rows, eq_or}
use Rattle.bytecode.specs.Held.{Held, lists, Sound, header_rows, chunk_rows}
use Rattle.listing.specs.Step.{StepIs}
use Rattle.listing.specs.Forms.{place_number}
use Rattle.listing.specs.declared.place.Place.{Place}
use Rattle.answer.specs.Answer.{numbers, with_chunk, fields}
use Rattle.answer.specs.declared.Refusal.{Refusal}
use Rattle.answer.specs.declared.Refusal.TheVariants as R
use Rattle.answer.specs.declared.limit.Limit.TheVariants as L

-- 01's number and values of a refusal; where a module is read, the tables u hold it.
unfoldable pub ReadIs : Result Module → Outcome Unit Refusal → List ℕ → Type 0
ReadIs res (Ok _) u = (q : Reader) × (res ≡ ok q.so_far) × (1 ≤ q.place) × Held u (lists q)
ReadIs res (Err r) u = res ≡ refused (numbers 0 r)

unfoldable pub read_all : Bytes → Result Module
read_all s = read_lines 0 at_start (cut s)

-- The first line and what follows it, or that no LF ends it.
abbrev pub FirstLine : Bytes → CodeOption (Bor Bytes × Bor Bytes) → Type 0
FirstLine s None = cut s ≡ end s
FirstLine s (Some r) = (cut s ≡ line r.0.now (cut r.1.now)) × (length r.0.now + length r.1.now + 1 ≡ length s)

abbrev pub is_lf : ℕ → Bool
is_lf b = eqb b 10

abbrev CutAt : Bytes → Lines → ℕ → Type 0
CutAt s ls p = ((p ≡ length s) × (ls ≡ end s)) ⊎ ((p < length s) × (ls ≡ line (take p s) (cut (drop (suc p) s))))

cut_at : (s : Bytes) → CutAt s (cut s) (position_or_len is_lf s)
unfolding cut byte_before
cut_at [] = inl (refl, refl)
cut_at (b ∷ bs) = go (eqb b 10) (cut_at bs)
  where
    lf : ℕ
    lf = position_or_len is_lf bs

    go : (x : Bool) → CutAt bs (cut bs) lf
        → CutAt (b ∷ bs) (elim x as (λ _. Lines) [ true ↦ line [] (cut bs) | false ↦ byte_before b (cut bs) ]) (cond (not x) (1 + lf) 0)
    go true h = inr (omega arith, refl)
    go false (inl h) = inl (omega (arith, h.0), ap (byte_before b) h.1)
    go false (inr h) =
        let e : 1 + lf ≡ suc lf = omega arith in
        inr (omega (arith, h.0), ap (byte_before b) h.1 ∙ ap (λ (k : ℕ). line (take k (b ∷ bs)) (cut (drop (suc k) (b ∷ bs)))) (sym e))

abbrev FirstAt : Bytes → CodeOption ℕ → Type 0
FirstAt s None = cut s ≡ end s
FirstAt s (Some i) = (i < length s) × (cut s ≡ line (take i s) (cut (drop (suc i) s)))

first_at : (s : Bytes) → FirstAt s (cond (ltb (position_or_len is_lf s) (length s)) (Some (position_or_len is_lf s)) None)
first_at s = go (cut_at s)
  where
    p : ℕ
    p = position_or_len is_lf s

    go : CutAt s (cut s) p → FirstAt s (cond (ltb p (length s)) (Some p) None)
    go (inl h) = rw (le-ltb p (length s) (omega arith)) h.1
    go (inr h) = rw (lt-ltb p (length s) h.0) h

-- where the code finds the first LF
module _ (s : Bytes) (r : CodeOption ℕ) (e : r ≡ cond (ltb (position_or_len is_lf s) (length s)) (Some (position_or_len is_lf s)) None) where
  first : FirstAt s r
  first = subst (FirstAt s) (sym e) (first_at s)

  pub lf_none : r ≡ None → (l : CodeOption (Bor Bytes × Bor Bytes)) → l ≡ None → FirstLine s l
  lf_none q None d = subst (FirstAt s) q first
  lf_none q (Some x) d = absurd (let z : ◌≡◌ {A = ℕ} 0 1 = cc in omega arith)

  pub lf_some : (i : ℕ) → r ≡ Some i
      → (cut s ≡ line (take i s) (cut (take (length s - (i + 1)) (drop (i + 1) s))))
      × (length (take i s) + length (take (length s - (i + 1)) (drop (i + 1) s)) + 1 ≡ length s)
  lf_some i q =
      let f : FirstAt s (Some i) = subst (FirstAt s) q first in
      let d : length (drop (i + 1) s) ≡ length s - (i + 1) = length-drop (i + 1) s in
      let t : take (length s - (i + 1)) (drop (i + 1) s) ≡ drop (i + 1) s = take_all (length s - (i + 1)) (drop (i + 1) s) (omega arith) in (
        f.1 ∙ ap (λ (k : ℕ). line (take i s) (cut (drop k s))) (sym (add-one i)) ∙ ap (λ (x : Bytes). line (take i s) (cut x)) (sym t),
        omega (arith, f.0, d, ap length t, length-take-le i s (omega (arith, f.0))),
      )

-- ── Empty tables ──────────────────────────────────────────────────────────────────────────

abbrev AllEmpty : List (List (List ℕ)) → Type 0
AllEmpty [] = Unit {0}
AllEmpty (x ∷ xs) = (x ≡ []) × AllEmpty xs

empty_at : (ls : List (List (List ℕ))) → AllEmpty ls → (k : ℕ) → get_or ls k [] ≡ []
empty_at [] a k = refl
empty_at (x ∷ xs) a zero = a.0
empty_at (x ∷ xs) a (suc k) = empty_at xs a.1 k

start_empty : (k : ℕ) → get_or (lists at_start) k [] ≡ []
unfolding lists at_start header_rows chunk_rows all_consts all_ops
start_empty k = empty_at (lists at_start) (refl, (refl, (refl, (refl, (refl, (refl, (refl, (refl, (refl, (refl, tt)))))))))) k

pub start_sound : Sound at_start
unfolding lists at_start header_rows chunk_rows all_consts all_ops
start_sound = record { empty = λ e. refl; chunk = λ a b. absurd (omega arith) }

-- the counts of the first k tables are cleared
pub Cleared : List ℕ → ℕ → Type 0
Cleared t k = (length t ≡ size) × ((j : ℕ) → j < k → get_or t j 0 ≡ 0)

pub clear_none : (t : List ℕ) → length t ≡ size → Cleared t 0
unfolding Cleared
clear_none t l = (l, λ j h. absurd (omega arith))

pub clear_more : (t : List ℕ) (k : ℕ) → k < 10 → Cleared t k → Cleared (set t k 0) (k + 1)
unfolding Cleared
clear_more t k h c = (
  length-set t k 0 ∙ c.0,
  λ j l. ⊎_elim
      (λ (e : j ≡ k). subst (λ (i : ℕ). get_or (set t k 0) i 0 ≡ 0) (sym e) (get_or-set_same t k 0 0 (omega (arith, c.0))))
      (λ (n : j ≢ k). get_or-set_other t k j 0 0 n ∙ c.1 j (below j k l n))
      (eq_or j k),
)
  where
    below : (j k : ℕ) → j < k + 1 → j ≢ k → j < k
    below j k l n = elim (dec_lt j k) [ yes p ↦ p | no q ↦ absurd (n (omega arith)) ]

pub clear_long : (t : List ℕ) (k : ℕ) → Cleared t k → length t ≡ size
unfolding Cleared
clear_long t k c = c.0

pub clear_done : (t : List ℕ) (k : ℕ) → 10 ≤ k → Cleared t k → Held t (lists at_start)
unfolding Cleared table rows
clear_done t k h c =
    record {
      long = c.0;
      same = λ j l. (rw (c.1 j (omega arith), start_empty j));
      full = λ j l. omega (arith, c.1 j (omega arith));
    }

-- all of them at once
pub cleared : (t counts : List ℕ) → length t ≡ size → counts ≡ replicate 10 0 → Held (counts ++ post_of 0 10 t) (lists at_start)
unfolding Cleared
cleared t counts l e =
    let n : length counts ≡ 10 = ap length e in
    clear_done (counts ++ post_of 0 10 t) 10 (omega arith) (
      length-append counts (post_of 0 10 t) ∙ omega (arith, n, length-drop 10 t),
      λ j h. get_or-append counts (post_of 0 10 t) 0 j (omega arith) ∙ ap (λ (x : List ℕ). get_or x j 0) e ∙ get_or-replicate 10 j 0 0 h,
    )

-- ── The lines so far ──────────────────────────────────────────────────────────────────────

-- after so many lines, before the bytes `rest`
pub record Going (s t : List ℕ) (place lines : ℕ) (rest : Bytes) : Type 0 where
  pub reader : Reader
  pub place_is : reader.place ≡ place
  pub held : Held t (lists reader)
  pub sound : Sound reader
  pub left : read_all s ≡ read_lines lines reader (cut rest)
  pub few : lines + length rest ≤ length s

pub going_start : (s t : List ℕ) → Held t (lists at_start) → Going s t 0 0 s
unfolding read_all at_start
going_start s t h =
    record { reader = at_start; place_is = refl; held = h; sound = start_sound; left = refl; few = omega arith }

module _ (s t : List ℕ) (place lines : ℕ) (rest : Bytes) (g : Going s t place lines rest) where
  pub no_lf : cut rest ≡ end rest → 0 < length rest → (u : List ℕ) → ReadIs (read_all s) (Err (R.CannotFollow lines)) u
  unfolding ReadIs numbers with_chunk fields read_lines or_line provided is_empty
  no_lf e h u = start rest refl h
    where
      false_and : (b : Bool) → (b && false) ≡ false
      false_and true = refl
      false_and false = refl

      start : (x : Bytes) → rest ≡ x → 0 < length rest → read_all s ≡ refused (1 ∷ 0 ∷ lines ∷ [])
      start [] y l = absurd (omega (arith, ap length y))
      start (b ∷ bs) y l =
          g.left ∙ ap (read_lines lines g.reader) (e ∙ ap end y)
          ∙ ap (λ (z : Bool). or_line lines (provided z g.reader.so_far)) (false_and (eqb g.reader.place 10))

  ended : length rest ≡ 0 → read_all s ≡ or_line lines (provided (eqb g.reader.place 10 && true) g.reader.so_far)
  unfolding read_lines cut is_empty
  ended h = start rest refl h
    where
      start : (x : Bytes) → rest ≡ x → length rest ≡ 0 → read_all s ≡ or_line lines (provided (eqb g.reader.place 10 && true) g.reader.so_far)
      start [] y l = g.left ∙ ap (λ (z : Bytes). read_lines lines g.reader (cut z)) y
      start (b ∷ bs) y l = absurd (omega (arith, ap length y))

  pub all_read : length rest ≡ 0 → place ≡ 10 → ReadIs (read_all s) (Ok tt) t
  unfolding ReadIs or_line provided
  all_read h p = (
    g.reader,
    ended h ∙ (rw (eq-eqb g.reader.place 10 (g.place_is ∙ p))),
    omega (arith, g.place_is),
    g.held,
  )

  pub end_missing : length rest ≡ 0 → (place ≡ 10 → ⊥) → (u : List ℕ) → ReadIs (read_all s) (Err (R.CannotFollow lines)) u
  unfolding ReadIs numbers with_chunk fields or_line provided
  end_missing h n u = ended h ∙ (rw (ne_eqb g.reader.place 10 (λ e. n (sym g.place_is ∙ e))))

  module _ (this after : Bytes) (c : cut rest ≡ line this (cut after)) (l : length this + length after + 1 ≡ length rest) where
    first_line_of : read_all s ≡ (next_line lines g.reader this >>= λ q. read_lines (suc lines) q (cut after))
    unfolding read_lines
    first_line_of = g.left ∙ ap (read_lines lines g.reader) c

    module _ (u : List ℕ) where
      pub line_refused : (r : Refusal) → StepIs (next_line lines g.reader this) (Err r) u → (v : List ℕ) → ReadIs (read_all s) (Err r) v
      unfolding ReadIs StepIs ◌>>=◌
      line_refused r d v = first_line_of ∙ (rw d)

      pub line_done : (p : Place) → StepIs (next_line lines g.reader this) (Ok p) u → Going s u (place_number p) (lines + 1) after
      unfolding StepIs ◌>>=◌
      line_done p d =
          record {
            reader = d.0;
            place_is = d.2;
            held = d.3;
            sound = d.4;
            left =
                first_line_of
                ∙ ap (λ (y : Result Reader). y >>= λ q. read_lines (suc lines) q (cut after)) d.1
                ∙ ap (λ (n : ℕ). read_lines n d.0 (cut after)) (sym (add-one lines));
            few = omega (arith, g.few);
          }

pub read_fine : (s : Bytes) → length s ≤ 65536 → read s ≡ read_all s
unfolding read read_all pass unless ◌>>=◌
read_fine s h = rw (le-leb (length s) 65536 h)

pub read_long : (s : Bytes) → 65536 < length s → (u : List ℕ) → ReadIs (read s) (Err (R.LimitPassed 0 L.Bytes)) u
unfolding ReadIs numbers with_chunk fields read pass unless ◌>>=◌
read_long s h u = rw (lt-leb (length s) 65536 h)

pub read_short : (s : Bytes) → length s ≤ 65536 → (r : Outcome Unit Refusal) (u : List ℕ) → ReadIs (read_all s) r u → ReadIs (read s) r u
read_short s h r u x = subst (λ (y : Result Module). ReadIs y r u) (sym (read_fine s h)) x

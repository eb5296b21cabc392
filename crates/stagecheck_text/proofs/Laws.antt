-- From the answer of the check to the text, and why 65,537 bytes of a listing are enough to read.
use mathlib.Core.Path.{◌≡◌, refl, sym, ap, ◌∙◌, subst}
use mathlib.Core.Bool.{Bool, true, false}
use mathlib.Core.List.{List, [], ◌∷◌, ◌++◌, map}
use Prim.Native.Nat.{ℕ, ◌-◌, ◌≤◌, ◌<◌}
use native.Mathlib.Omega.{arith}
use lib.ListN.{length, take, replicate, length-append, length-take, length-replicate}
use lib.Seq.{take_all, take-append_seam, length-take-le}
use lib.Dec.{T, leb, leb→le}
use borrow.Author.Tests.{leb-false}
use Rattle.definition.specs.Basics.{Result, ok, refused, ◌>>=◌}
use Rattle.definition.specs.Format.{Bytes, bytes, decimal}
use Rattle.definition.specs.Module.{Module, all_ops, chunks_of}
use Rattle.definition.specs.Read.{read, limit}
use Rattle.definition.specs.Check.{Answer as AnyAnswer, accepted, Checked, check_module, conclude, check}
use Rattle.definition.specs.Printed.{words, sizes, sizes_read, print_answer, printed}
use Rattle.theorems.specs.Cover.{ok_inj}
use Rattle.theorems.specs.Accepted.{Accepts, accepts, totals}
use Rattle.bytecode.specs.Meaning.{module_of}
use Rattle.listing.specs.Reads.{read_long}
use Rattle.listing.specs.Answer.{result_of, answered}
use Rattle.answer.specs.declared.Refusal.{Refusal}
use Rattle.answer.specs.declared.Refusal.TheVariants as R
use Rattle.std.specs.Prelude.{Result as Outcome, Ok, Err}
use Rattle.answer.specs.declared.Refused.{Refused}
use Rattle.answer.specs.declared.Accepted.{Accepted}
use Rattle.answer.specs.declared.limit.Limit.TheVariants.{Bytes as LongListing}
use Rattle.answer.specs.declared.Numbers.{Numbers}
use Rattle.answer.specs.Answer.{numbers, fields, with_chunk, refused_numbers, answer_of}
use Rattle.answer.specs.Numbers.{row_of}
use Rattle.typed_check.specs.Equal.{checked_of, Tabled}
use Rattle.printed.specs.Texts.{acceptance, accepted_text}
use Rattle.printed.specs.Writes.{Holds}

-- the same text under another name
pub renamed : {out : List ℕ} {n : ℕ} {text other : Bytes} → text ≡ other → Holds out n text → Holds out n other
renamed {out} {n} e h = subst (Holds out n) e h

-- ── The numbers of a refusal ──────────────────────────────────────────────────────────────

pub few : (k : ℕ) (r : Refusal) → length (numbers k r) ≤ 8
unfolding numbers fields with_chunk
few k (R.CannotFollow a) = omega arith
few k (R.LimitPassed a b) = omega arith
few k (R.NotNested a) = omega arith
few k (R.SheetTooShort a b) = omega arith
few k (R.StackUnderflow a) = omega arith
few k (R.OffsetOutOfBounds a b c d) = omega arith
few k (R.ExpectedComposite a) = omega arith
few k (R.NewCompositeSizeMismatch a b c) = omega arith
few k (R.TextFieldMismatch a b) = omega arith
few k (R.BranchHeightMismatch a b c) = omega arith
few k (R.LoopNotNeutral a b c) = omega arith
few k (R.LoopFloorBreach a b c d) = omega arith
few k (R.LocalTypeMismatch a b) = omega arith
few k (R.CallArgMismatch a b c) = omega arith
few k (R.ArrayStrideMismatch a b c) = omega arith
few k (R.SharedSlotOutOfBounds a b c d) = omega arith
few k (R.EnumBodySizeMismatch a b) = omega arith
few k (R.PrivateCompositeLayoutInvalid a b c) = omega arith
few k (R.SharedLayoutCountMismatch a b c) = omega arith
few k (R.BufferTooShort a) = omega arith

eight : (xs : List ℕ) → length xs ≤ 8 → length (xs ++ replicate (8 - length xs) 0) ≡ 8
eight xs l = omega (arith, length-append xs (replicate (8 - length xs) 0), length-replicate {A = ℕ} (8 - length xs) 0)

pub first_few : (k : ℕ) (ws : List ℕ) → length ws ≡ 8 → length (take k ws) ≤ 8
first_few k ws l = omega (arith, length-take k ws)

-- the words that count are the numbers
module _ (k : ℕ) (r : Refusal) (n : Numbers) (e : n ≡ row_of (numbers k r)) where
  words_are : take n.count n.words ≡ numbers k r
  unfolding row_of
  words_are = ap (λ (z : Numbers). take z.count z.words) e ∙ take-append_seam (numbers k r) _

  pub words_eight : length n.words ≡ 8
  unfolding row_of
  words_eight = ap (λ (z : Numbers). length z.words) e ∙ eight (numbers k r) (few k r)

  pub count_few : n.count ≤ 8
  unfolding row_of
  count_few = omega (arith, few k r, ap (λ (z : Numbers). z.count) e)

-- ── The text ──────────────────────────────────────────────────────────────────────────────

-- what is printed for what the check says
abbrev told : Bytes → Checked → Bytes
told s r = print_answer r (sizes_read (read s)) r.answer

-- The check of a listing with two sheets, and the tables that it leaves.
module _ (s : Bytes) (t heights blinds : List ℕ) (a : Outcome Accepted Refused) (e : checked_of a heights blinds ≡ check s 4096 4096) where
  pub refused_text : {r : Refused} (n : Numbers) → a ≡ Err r → n ≡ row_of (refused_numbers r) →
      words (bytes "refused" ∷ map decimal (take n.count n.words)) ≡ printed s
  unfolding printed print_answer answer_of
  refused_text {r} n g f =
      ap (λ (xs : List ℕ). words (bytes "refused" ∷ map decimal xs)) (words_are r.chunk r.refusal n f)
      ∙ ap (λ (z : Outcome Accepted Refused). told s (checked_of z heights blinds)) (sym g)
      ∙ ap (told s) e

  module _ {x : Accepted} (g : a ≡ Ok x) (k : Tabled a s t) where
    chunks : ℕ
    chunks = x.chunks

    instructions : ℕ
    instructions = x.instructions

    is_accepted : answer_of a ≡ accepted chunks instructions
    unfolding answer_of chunks instructions
    is_accepted = ap answer_of g

    accepts_it : Accepts s 4096 4096
    accepts_it = accepts s 4096 4096 chunks instructions (ap (λ (z : Checked). z.answer) (sym e) ∙ is_accepted)

    held : accepts_it.gives ≡ module_of t
    held = ok_inj (sym accepts_it.reads ∙ (k chunks instructions is_accepted).0)

    pub room : length (all_ops (module_of t).chunks) ≤ 4096
    unfolding chunks_of
    room =
        let n = totals accepts_it.gives 0 0 accepts_it.gives.chunks in
        omega (arith, accepts_it.room_h, n, ap (λ (z : Module). length (all_ops z.chunks)) held)

    answer_is : answer_of a ≡ acceptance t
    unfolding acceptance
    answer_is =
        ap (λ (z : Checked). z.answer) (e ∙ accepts_it.answers)
        ∙ ap (λ (z : Module). accepted (length z.chunks) (length (all_ops z.chunks))) held

    pub accepted_is : accepted_text t heights blinds ≡ printed s
    unfolding printed accepted_text sizes_read
    accepted_is =
        ap (λ (z : AnyAnswer). print_answer (record { answer = z; heights = heights; blinds = blinds }) (sizes (module_of t).chunks) z) (sym answer_is)
        ∙ ap (λ (z : Result Module). print_answer (checked_of a heights blinds) (sizes_read z) (answer_of a)) (sym (k chunks instructions is_accepted).0)
        ∙ ap (told s) e

-- ── Long listings ─────────────────────────────────────────────────────────────────────────

-- what is printed depends on what is read alone
by_read : (s u : Bytes) → read s ≡ read u → printed s ≡ printed u
unfolding printed check
by_read s u e = ap text e
  where
    text : Result Module → Bytes
    text z =
        let r = conclude 4096 4096 (z >>= λ m. check_module 4096 4096 m >>= λ sh. ok (m.chunks, sh)) in
        print_answer r (sizes_read z) r.answer

limit_1 : (s : Bytes) → 65536 < length s → read s ≡ refused (limit 1)
unfolding result_of numbers with_chunk fields
limit_1 s l = (answered s (Err (R.LimitPassed 0 LongListing)) [] (read_long s l [])).0

-- One byte more than the limit is enough to read of any listing.
pub enough : (s : Bytes) → printed (take 65537 s) ≡ printed s
enough s = go (leb (length s) 65536) refl
  where
    go : (b : Bool) → leb (length s) 65536 ≡ b → printed (take 65537 s) ≡ printed s
    go true e = ap printed (take_all 65537 s (omega (arith, leb→le (length s) 65536 (subst (λ (z : Bool). T z) (sym e) tt))))
    go false e =
        let l : 65536 < length s = leb-false (length s) 65536 e in
        by_read (take 65537 s) s
        (limit_1 (take 65537 s) (omega (arith, length-take-le 65537 s (omega arith))) ∙ sym (limit_1 s l))

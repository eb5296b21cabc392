-- What the caller is given.
use mathlib.Core.Path.{◌≡◌, sym, ap, ◌∙◌, subst}
use mathlib.Core.List.{List}
use Prim.Native.Nat.{ℕ}
use lib.ListN.{length, get_or}
use Rattle.definition.specs.Basics.{Result, ok, refused}
use Rattle.definition.specs.Check.{Checked, Answer as AnyAnswer, accepted}
use Rattle.definition.specs.Format.{Bytes}
use Rattle.definition.specs.Module.{Module}
use Rattle.definition.specs.Read.{read}
use Rattle.definition.specs.Write.{Written as AnyWritten}
use Rattle.theorems.specs.Cover.{no_ok, ok_inj}
use Rattle.bytecode.specs.Meaning.{count, module_of}
use Rattle.bytecode.specs.Exact.{none_exact}
use Rattle.std.specs.Prelude.{Result as Outcome, Ok, Err}
use Rattle.answer.specs.declared.Refusal.{Refusal}
use Rattle.answer.specs.declared.Refused.{Refused}
use Rattle.answer.specs.declared.Accepted.{Accepted}
use Rattle.answer.specs.declared.Numbers.{Numbers}
use Rattle.answer.specs.Answer.{answer_of, numbers, written_of}
use Rattle.answer.specs.Numbers.{values_of, values_of_written, row_of}
use Rattle.listing.specs.Answer.{StandsIn, result_of, LeftIn}
use Rattle.typed_check.specs.Equal.{checked_of, counted, Sound}
use Rattle.writer.specs.Tables.{write_tables, answer_written, WrittenBack, ReadAgain}
use Rattle.stagecheck_c.specs.Row.{Numbered, Given, read_answer, ReadInto, ReadGiven, WriteGiven, BackGiven, AgainGiven}

numbered : (xs : List ℕ) (n : Numbers) (words : List ℕ) → n ≡ row_of xs → words ≡ n.words → Numbered xs n.count words
numbered xs n words e g = record { count_is = ap (λ (z : Numbers). z.count) e; words_are = g ∙ ap (λ (z : Numbers). z.words) e }

-- ── The check ─────────────────────────────────────────────────────────────────────────────

-- What the check gives, in the caller's words and sheets.
pub given_all : (c : Checked) (a : Outcome Accepted Refused) (n : Numbers) (words heights blinds : List ℕ) → checked_of a heights blinds ≡ c →
    n ≡ row_of (values_of (answer_of a)) → words ≡ n.words → Given c n.count words heights blinds
given_all c a n words heights blinds e f g =
    let h : answer_of a ≡ c.answer = ap (λ (z : Checked). z.answer) e in
    record {
      numbers = numbered (values_of c.answer) n words (f ∙ ap (λ z. row_of (values_of z)) h) g;
      heights_are = ap (λ (z : Checked). z.heights) e;
      blinds_are = ap (λ (z : Checked). z.blinds) e;
    }

pub sound_all : (c : Checked) (s : Bytes) (a : Outcome Accepted Refused) (heights blinds : List ℕ) → checked_of a heights blinds ≡ c → Sound (answer_of a) s heights blinds →
    Sound c.answer s heights blinds
sound_all c s a heights blinds e f chunks instructions q = f chunks instructions (ap (λ (z : Checked). z.answer) e ∙ q)

-- ── Reading ───────────────────────────────────────────────────────────────────────────────

module _ (s : Bytes) (o : Outcome Unit Refusal) (t : List ℕ) (e : read s ≡ result_of o t) where
  pub read_ok : (a : Accepted) → o ≡ Ok tt → LeftIn o t → a ≡ counted t → ReadInto (read s) (Ok a) t
  unfolding answer_of read_answer result_of LeftIn
  read_ok a g l f =
      let st : StandsIn t = subst (λ (z : Outcome Unit Refusal). LeftIn z t) g l in
      let reads : read s ≡ ok (module_of t) = e ∙ ap (λ (z : Outcome Unit Refusal). result_of z t) g in
      record {
        answer =
            ap (λ (z : Accepted). accepted z.chunks z.instructions) f
            ∙ ap (λ (x : ℕ). accepted x (count t 9)) st.chunk_number
            ∙ ap (accepted (length (module_of t).chunks)) st.op_number
            ∙ ap read_answer (sym reads);
        module_is = λ m x. (ok_inj (sym reads ∙ x), st.exact);
        no_module = λ r x. absurd (no_ok (sym x ∙ reads));
        no_header = λ r x. absurd (no_ok (sym x ∙ reads));
      }

  pub read_err : (r : Refusal) (u : List ℕ) → o ≡ Err r → get_or u 0 0 ≡ 0 → ReadInto (read s) (Err (record { chunk = 0; refusal = r })) u
  unfolding answer_of read_answer result_of
  read_err r u g z =
      let reads : read s ≡ refused (numbers 0 r) = e ∙ ap (λ (z : Outcome Unit Refusal). result_of z t) g in
      record {
        answer = ap read_answer (sym reads);
        module_is = λ m x. absurd (no_ok (sym reads ∙ x));
        no_module = λ xs x. none_exact u z;
        no_header = λ xs x. z;
      }

-- What reading leaves, in the caller's words and tables.
pub read_all : (o : Result Module) (a : Outcome Accepted Refused) (n : Numbers) (words tables : List ℕ) → ReadInto o a tables → n ≡ row_of (values_of (answer_of a)) →
    words ≡ n.words → ReadGiven o n.count words tables
read_all o a n words tables r f g =
    record {
      numbers = numbered (values_of (read_answer o)) n words (f ∙ ap (λ (z : AnyAnswer). row_of (values_of z)) r.answer) g;
      module_is = r.module_is;
      no_module = r.no_module;
      no_header = r.no_header;
    }

-- ── Writing ───────────────────────────────────────────────────────────────────────────────

module _ (t : List ℕ) (before after : Bytes) (a : Outcome ℕ Refusal) (n : Numbers) (words : List ℕ) (f : n ≡ row_of (values_of_written (written_of a))) (g : words ≡ n.words) where
  pub write_all : answer_written a after ≡ write_tables t before → WriteGiven (write_tables t before) n.count words after
  unfolding answer_written
  write_all e =
      let h : written_of a ≡ (write_tables t before).answer = ap (λ (z : AnyWritten). z.answer) e in
      record {
        numbers = numbered (values_of_written (write_tables t before).answer) n words (f ∙ ap (λ (z : Result ℕ). row_of (values_of_written z)) h) g;
        buffer_is = ap (λ (z : AnyWritten). z.buffer) e;
      }

  pub back_all : WrittenBack t before a after → BackGiven t before n.count words after
  unfolding values_of_written
  back_all w bs r x l =
      let p = w bs r x l in (
        numbered (values_of_written (ok (length bs))) n words (f ∙ ap (λ (z : Result ℕ). row_of (values_of_written z)) p.0) g,
        p.1,
      )

  pub again_all : answer_written a after ≡ write_tables t before → ReadAgain t a after → AgainGiven t (write_tables t before) after
  unfolding answer_written
  again_all e w m x = w m (ap (λ (z : AnyWritten). z.answer) e ∙ x)

-- From what was read, and from the module's check, to the whole.
use mathlib.Core.Path.{◌≡◌, sym, ap, ◌∙◌, subst}
use mathlib.Core.List.{List}
use Prim.Native.Nat.{ℕ}
use native.Mathlib.Omega.{arith}
use lib.ListN.{length, replicate, length-replicate}
use mathlib.Core.Bool.{true, false}
use Rattle.std.specs.Prelude.{Result as Outcome, Ok, Err}
use Rattle.std.specs.Result.{is_err}
use Rattle.theorems.specs.Cover.{no_false}
use Rattle.definition.specs.Basics.{Result, ok, refused, ◌>>=◌, pass}
use Rattle.definition.specs.Format.{Bytes}
use Rattle.definition.specs.Module.{Module, Code}
use Rattle.definition.specs.Read.{read}
use Rattle.definition.specs.Walk.{Sheets}
use Rattle.definition.specs.Check.{Answer as AnyAnswer, accepted, refusal, check_module, conclude, check}
use Rattle.theorems.specs.Accepted.{demand_3_of}
use Rattle.bytecode.specs.Meaning.{count, module_of}
use Rattle.listing.specs.Answer.{StandsIn, LeftIn, result_of}
use Rattle.answer.specs.declared.Refusal.{Refusal}
use Rattle.answer.specs.declared.Refused.{Refused}
use Rattle.answer.specs.declared.Accepted.{Accepted}
use Rattle.answer.specs.Answer.{refused_numbers, found, answer_of}
use Rattle.typed_check.specs.Equal.{checked_of, counted, CheckedIs, Sound, Tabled}

-- ── Before the module's check ─────────────────────────────────────────────────────────────

pub zeros-count : (n : ℕ) (xs : List ℕ) → xs ≡ replicate n 0 → length xs ≡ n
zeros-count n xs e = ap length e ∙ length-replicate {A = ℕ} n 0

pub zeros_long : (n : ℕ) (xs : List ℕ) → xs ≡ replicate n 0 → xs ≡ replicate (length xs) 0
zeros_long n xs e = e ∙ ap (λ (k : ℕ). replicate k 0) (sym (zeros-count n xs e))

-- the check of a module, and what is told of it
abbrev with_sheets : Module → Sheets → Result (List Code × Sheets)
with_sheets m sh = ok (m.chunks, sh)

abbrev checked : ℕ → ℕ → Module → Result (List Code × Sheets)
checked h b m = check_module h b m >>= with_sheets m

-- ── What the check of a listing answers ───────────────────────────────────────────────────

module _ (s : Bytes) (h b : ℕ) (t heights blinds : List ℕ) where
  refused_all : (r : Refused) → read s >>= checked h b ≡ refused (refused_numbers r) → CheckedIs s h b (Err r) t heights blinds
  unfolding check CheckedIs
  refused_all r e = ap (conclude h b) e

  -- refused in reading
  pub unread : (r : Refusal) (o : Outcome Unit Refusal) → o ≡ Err r → read s ≡ result_of o t → CheckedIs s h b (Err (record { chunk = 0; refusal = r })) t heights blinds
  unfolding ◌>>=◌ result_of
  unread r o g e =
      refused_all (record { chunk = 0; refusal = r }) (ap (λ (z : Result Module). z >>= checked h b) (e ∙ ap (λ (z : Outcome Unit Refusal). result_of z t) g))

  -- A module that was read.
  module _ (o : Outcome Unit Refusal) (e : read s ≡ result_of o t) (g : o ≡ Ok tt) (l : LeftIn o t) where
    pub stands : StandsIn t
    unfolding LeftIn
    stands = subst (λ (z : Outcome Unit Refusal). LeftIn z t) g l

    module_read : read s ≡ ok (module_of t)
    unfolding result_of
    module_read = e ∙ ap (λ (z : Outcome Unit Refusal). result_of z t) g

    module _ (f : Outcome Unit Refused) (sh : Sheets) (x : pass (found f) sh ≡ check_module h b (module_of t)) where
      going : {o : Result Sheets} → check_module h b (module_of t) ≡ o → read s >>= checked h b ≡ o >>= with_sheets (module_of t)
      unfolding ◌>>=◌
      going y = ap (λ (z : Result Module). z >>= checked h b) module_read ∙ ap (λ (z : Result Sheets). z >>= with_sheets (module_of t)) y

      -- refused by a test or in the walk
      pub unfit : (r : Refused) → f ≡ Err r → CheckedIs s h b (Err r) t heights blinds
      unfolding ◌>>=◌ found pass
      unfit r y = refused_all r (going (sym x ∙ ap (λ (z : Outcome Unit Refused). pass (found z) sh) y))

      pub fit : f ≡ Ok tt → CheckedIs s h b (Ok (counted t)) t sh.heights sh.blinds
      unfolding check conclude answer_of found pass ◌>>=◌ CheckedIs
      fit y =
          let st : StandsIn t = stands in (
            ap (λ (n : ℕ). checked_of (Ok (record { chunks = n; instructions = count t 9 })) sh.heights sh.blinds) st.chunk_number
                ∙ ap (λ (n : ℕ). checked_of (Ok (record { chunks = length (module_of t).chunks; instructions = n })) sh.heights sh.blinds) st.op_number
                ∙ ap (conclude h b) (sym (going (sym x ∙ ap (λ (z : Outcome Unit Refused). pass (found z) sh) y))),
            λ n m z. (module_read, st),
          )

-- ── The entry ─────────────────────────────────────────────────────────────────────────────

not_accepted : {r : List ℕ} {n k : ℕ} → refusal r ≡ accepted n k → ⊥
not_accepted e = let z : ◌≡◌ {A = ℕ} 0 1 = cc in omega arith

-- Demand 3 follows from the answer and both sheets.
sound : (s : Bytes) (h b : ℕ) (a : Outcome Accepted Refused) (heights blinds : List ℕ) → checked_of a heights blinds ≡ check s h b → Sound (answer_of a) s heights blinds
sound s h b a heights blinds e n k q =
    demand_3_of s h b n k heights blinds (sym e ∙ ap (λ (z : AnyAnswer). record { answer = z; heights = heights; blinds = blinds }) q)

-- the promises of the check with lent tables
abbrev pub Promised : Bytes → List ℕ → ℕ → ℕ → Outcome Accepted Refused → List ℕ → List ℕ → Type 0
Promised s t h b a heights blinds = (checked_of a heights blinds ≡ check s h b) × (Sound (answer_of a) s heights blinds × Tabled a s t)

module _ (s : Bytes) (t : List ℕ) (h b : ℕ) (x y heights blinds : List ℕ) where
  -- a refusal, whose sheets are cleared after it
  pub promised_refused : (a : Outcome Accepted Refused) → is_err a ≡ true → CheckedIs s h b a t x y → heights ≡ replicate h 0 → blinds ≡ replicate b 0 →
      Promised s t h b a heights blinds
  unfolding CheckedIs answer_of conclude
  promised_refused (Err q) e c p g =
      let same : checked_of (Err q) heights blinds ≡ check s h b = rw (p, g) (sym c) in
      (same, (sound s h b (Err q) heights blinds same, λ n m z. absurd (not_accepted z)))
  promised_refused (Ok q) e c p g = absurd (no_false e)

  pub promised_accepted : (a : Outcome Accepted Refused) → is_err a ≡ false → CheckedIs s h b a t heights blinds → Promised s t h b a heights blinds
  unfolding CheckedIs
  promised_accepted (Ok z) e c = (c.0, (sound s h b (Ok z) heights blinds c.0, c.1))
  promised_accepted (Err z) e c = absurd (no_false (sym e))

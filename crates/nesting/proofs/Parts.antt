-- The part of an instruction by its code, computed once for all codes that have none. Assumes nothing.
use Rattle.std.proofs.Common.{◌≡◌, refl, sym, ap, ◌∙◌, subst, Bool, true, false, ◌⊎◌, inl, inr, List, [], ◌∷◌, ℕ, ◌+◌, ◌-◌, ◌≤◌, ◌<◌, arith, T, leb, get_or, lt-ltb, le-ltb}
use Rattle.std.proofs.Common.{leb-true}
use Rattle.definition.specs.Instructions.{control, jump_control, control_at, control_of, instr_at, ends, Instr as AnyInstr}
use Rattle.definition.specs.Ops.{ops, row, instr, instr_of, make_at}
use Rattle.bytecode.specs.Tables.{all_below, at_each}
use Rattle.bytecode.specs.Meaning.{maxima_of, table_instr_at, chunk_of, op_count, code_length, code_some, code_none}
use Rattle.bytecode.specs.Parts.{any_instr_of, InstrIs}
use Rattle.bytecode.specs.declared.Instr.{Instr}
use Rattle.theorems.specs.Agree.{lt_or_ge}
use Rattle.nesting.specs.Codes.{part_of, control_in, part_in, Coded, CodeIs}
use Rattle.nesting.specs.declared.code.Code.{Code}
use Rattle.nesting.specs.declared.part.Part.{Part}
use Rattle.nesting.specs.declared.part.Part.TheVariants.{Other, If, Else, EndIf, Loop, EndLoop, Break}

-- ── Codes ─────────────────────────────────────────────────────────────────────────────────

is_other : Part → Bool
is_other Other = true
is_other (If t) = false
is_other (Else t) = false
is_other EndIf = false
is_other (Loop t) = false
is_other EndLoop = false
is_other (Break t) = false

other_is : (x : Part) → T (is_other x) → Other ≡ x
unfolding is_other
other_is Other h = refl
other_is (If _) h = elim h [ ]
other_is (Else _) h = elim h [ ]
other_is EndIf h = elim h [ ]
other_is (Loop _) h = elim h [ ]
other_is EndLoop h = elim h [ ]
other_is (Break _) h = elim h [ ]

module _ (i : Instr) where
  abbrev the_part : ℕ → Part
  the_part k = part_of (control (instr (record { code = k; operands = i.a ∷ i.b ∷ i.c ∷ [] })))

  plain_codes : T (all_below 65 (λ k. is_other (the_part k)))
  unfolding all_below is_other part_of control jump_control instr instr_of make_at ops row
  plain_codes = tt

  last_codes : T (all_below 3 (λ k. is_other (the_part (72 + k))))
  unfolding all_below is_other part_of control jump_control instr instr_of make_at ops row
  last_codes = tt

  other_low : i.code < 65 → Other ≡ part_of (control (any_instr_of i))
  unfolding any_instr_of
  other_low h = other_is (the_part i.code) (at_each 65 (λ k. is_other (the_part k)) plain_codes i.code h)

  past_parts : i.code < 75 → 72 ≤ i.code → Other ≡ part_of (control (any_instr_of i))
  unfolding any_instr_of
  past_parts l h =
      let z : 72 + (i.code - 72) ≡ i.code = omega arith in
      subst (λ (k : ℕ). Other ≡ the_part k) z
      (other_is (the_part (72 + (i.code - 72))) (at_each 3 (λ k. is_other (the_part (72 + k))) last_codes (i.code - 72) (omega arith)))

  -- none of the codes that have a part
  pub other_rest : i.code < 75 → (i.code ≡ 65 → ⊥) → (i.code ≡ 66 → ⊥) → (i.code ≡ 67 → ⊥) → (i.code ≡ 68 → ⊥) → (i.code ≡ 69 → ⊥)
      → (i.code ≡ 70 → ⊥) → (i.code ≡ 71 → ⊥) → Other ≡ part_of (control (any_instr_of i))
  other_rest l a b c d e f g = go (lt_or_ge i.code 65)
    where
      go : (i.code < 65) ⊎ (65 ≤ i.code) → Other ≡ part_of (control (any_instr_of i))
      go (inl h) = other_low h
      go (inr h) = past_parts l (omega arith)

  -- a target has 16 bits
  pub target_low : (k : ℕ) → i.code ≡ k → i.a ≤ get_or (maxima_of i.code) 0 0 → leb (get_or (maxima_of k) 0 0) 65535 ≡ true → i.a ≤ 65535
  target_low k e h l = let m : i.a ≤ get_or (maxima_of k) 0 0 = subst (λ (x : ℕ). i.a ≤ get_or (maxima_of x) 0 0) e h in omega (arith, leb-true (get_or (maxima_of k) 0 0) 65535 l)

-- ── The instructions of a chunk ───────────────────────────────────────────────────────────

module _ (code : Code) (p : ℕ) where
  control_inside : p < code.size → control_in code p ≡ control (table_instr_at code.tables.now (code.first + p))
  unfolding control_in
  control_inside l = rw (lt-ltb p code.size l, control_in) refl

  control_past : code.size ≤ p → control_in code p ≡ ends
  unfolding control_in
  control_past l = rw (le-ltb p code.size l, control_in) refl

  pub part_inside : (x : Part) (i : Instr) → p < code.size → InstrIs code.tables.now (code.first + p) i → x ≡ part_of (control (any_instr_of i)) → x ≡ part_in code p
  part_inside x i l I e = e ∙ ap (λ (j : AnyInstr). part_of (control j)) I.same ∙ ap part_of (sym (control_inside l))

  pub part_past : code.size ≤ p → Other ≡ part_in code p
  unfolding part_of
  part_past l = ap part_of (sym (control_past l))

pub coded : (t : List ℕ) (k : ℕ) (code : Code) → CodeIs t k code → Coded (chunk_of t k) code
unfolding control_at control_of instr_at
coded t k code I =
    record { size_is = code_length t k ∙ sym I.size_is; control_is = λ p. go p (lt_or_ge p (op_count t k)) }
  where
    go : (p : ℕ) → (p < op_count t k) ⊎ (op_count t k ≤ p) → control_at (chunk_of t k) p ≡ control_in code p
    go p (inl l) =
        ap control_of (code_some t k p l) ∙ (rw (← I.first_is, ← I.tables_are) refl)
        ∙ sym (control_inside code p (omega (arith, I.size_is)))
    go p (inr l) = ap control_of (code_none t k p l) ∙ sym (control_past code p (omega (arith, I.size_is)))

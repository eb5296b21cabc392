-- The rule of names that take what they need and push unknowns.
use Rattle.std.proofs.Common.{◌≡◌, refl, sym, ap, ◌∙◌, ℕ, suc, zero, pos, ◌-ℤ◌, true, List, [], ◌∷◌, ◌++◌, map, length, replicate, Ok, arith}
use Rattle.std.proofs.lemmas.Int.{ints}
use Rattle.std.proofs.Math.ListN.{length-replicate}
use Rattle.definition.specs.Basics.{first}
use Rattle.definition.specs.Shapes.{Shape as AnyShape, unknown, scalar}
use Rattle.definition.specs.Instructions.{Instr, Chunk, plain, shaped, jump, PopN, SetLocal, Call, NewFlat, NewBoxed, GetFlat, GetBoxed, GetIndex}
use Rattle.definition.specs.Effects.{need, takes, net, pushes, shape_of, exact, set_local, effect}
use Rattle.definition.specs.Tests.{reading, reading_test, other_tests}
use Rattle.definition.specs.Walk.{State as AnyState}
use Rattle.shapes.specs.Model.{value_of}
use Rattle.answer.specs.Answer.{refusal}
use Rattle.rules.specs.declared.Moves.{Moves}
use Rattle.rules.specs.Rules.{Rules, is_generic}

copies : (n : ℕ) (x : AnyShape) → replicate n x ≡ map shape_of (replicate n (exact x))
unfolding shape_of
copies zero x = refl
copies (suc n) x = ap (λ (l : List AnyShape). x ∷ l) (copies n x)

-- how many are pushed
abbrev pushed : Chunk → Instr → ℕ
pushed c i = length (pushes c i [] [])

pub generic_net : (c : Chunk) (i : Instr) → is_generic i ≡ true → net c i ≡ pos (pushed c i) -ℤ pos (need c i)
unfolding is_generic net takes need
generic_net c (plain p a) e = refl
generic_net c (shaped z) e = absurd (cc)
generic_net c (jump j) e = refl
generic_net c (PopN n) e = refl
generic_net c (SetLocal k) e = refl
generic_net c (Call k n) e = refl
generic_net c (NewFlat k n z) e = refl
generic_net c (NewBoxed k n m) e = refl
generic_net c (GetFlat o f) e = refl
generic_net c (GetBoxed o n) e = refl
generic_net c (GetIndex z) e = refl

module _ (c : Chunk) (s : AnyState) where
  abbrev unknowns : Instr → Moves → Type 0
  unknowns i m = (m.take ≡ need c i) × (m.times ≡ pushed c i) × (value_of m.value ≡ unknown) × (m.ints ≡ 0)

  made : (i : Instr) (m : Moves) → unknowns i m → replicate m.ints (scalar 3) ++ replicate m.times (value_of m.value) ≡ replicate (pushed c i) unknown
  made i m h = rw (h.3, h.1, h.2)

  by_name : (ip : ℕ) (i : Instr) (m : Moves) → is_generic i ≡ true → unknowns i m → Rules c ip i s (Ok m)
  unfolding refusal first reading reading_test is_generic other_tests set_local takes need pushes shape_of
  by_name ip (plain p a) m e h =
      record {
        tests = refl;
        moves = record { keeps = refl; takes = sym h.0; pushes = made (plain p a) m h ∙ rw (length-replicate (effect p).1 (exact unknown)) (copies (effect p).1 unknown) };
      }
  by_name ip (shaped z) m e h = absurd (cc)
  by_name ip (jump j) m e h = record { tests = refl; moves = record { keeps = refl; takes = sym h.0; pushes = made (jump j) m h } }
  by_name ip (PopN n) m e h = record { tests = refl; moves = record { keeps = refl; takes = sym h.0; pushes = made (PopN n) m h } }
  by_name ip (SetLocal k) m e h = absurd (cc)
  by_name ip (Call k n) m e h = absurd (cc)
  by_name ip (NewFlat k n z) m e h = absurd (cc)
  by_name ip (NewBoxed k n z) m e h = record { tests = refl; moves = record { keeps = refl; takes = sym h.0; pushes = made (NewBoxed k n z) m h } }
  by_name ip (GetFlat o f) m e h = absurd (cc)
  by_name ip (GetBoxed o n) m e h = record { tests = refl; moves = record { keeps = refl; takes = sym h.0; pushes = made (GetBoxed o n) m h } }
  by_name ip (GetIndex z) m e h = absurd (cc)

  pub generic_rules : (ip : ℕ) (i : Instr) (m : Moves) → is_generic i ≡ true → m.take ≡ need c i → net c i ≡ pos m.times -ℤ pos m.take → value_of m.value ≡ unknown → m.ints ≡ 0
      → Rules c ip i s (Ok m)
  generic_rules ip i m g e f v n =
      let h : pos m.times -ℤ pos (need c i) ≡ pos (pushed c i) -ℤ pos (need c i) = rw (← e) (sym f) ∙ generic_net c i g in
      by_name ip i m g (e, omega (arith, ints), v, n)

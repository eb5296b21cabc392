-- A refusal of an examination names the instruction that was examined: in each test's refusal the ip stands behind the number.
use Rattle.std.proofs.Common.{◌≡◌, refl, ap, ◌∙◌, Bool, true, false, not, ◌&&◌, ◌||◌, ℕ, zero, suc, ◌+◌, ◌*◌, ◌/◌, ◌%◌, List, [], ◌∷◌, length, get_or, take, reverse, map, leb, ltb, eqb, Err}
use Rattle.std.proofs.Math.Option.{Option, none, some}
use Rattle.std.proofs.Math.ListN.{get_elem?}
use Rattle.definition.specs.Basics.{refused, first, unless, pass, is_member}
use Rattle.definition.specs.Shapes.{Shape, unknown, scalar, composite, Wire, from_wire}
use Rattle.definition.specs.Instructions.{Instr as AnyInstr, Chunk, Sig, plain, shaped, jump, PopN, SetLocal, Call, NewFlat, NewBoxed, GetFlat, GetBoxed, GetIndex, Flat, FlatNested, ElemFlat, ElemNested}
use Rattle.definition.specs.Effects.{need, width, packed, text_unless_enum}
use Rattle.definition.specs.Tests.{Reading, no_flat, field, index, reading, reading_test, field_test, index_test, text_field_test, text_elements, text_index_test, test_if, size_test, enum_test}
use Rattle.definition.specs.Tests.{fits_declared, args_test, call_test, places_test, other_tests}
use Rattle.definition.specs.Walk.{State as AnyState, height, after, floor_test, need_test, height_test, tests, examine}
use Rattle.bytecode.specs.declared.Instr.{Instr}
use Rattle.frame.specs.declared.State.{State}
use Rattle.answer.specs.declared.Refusal.{Refusal}
use Rattle.answer.specs.Answer.{refusal, fields}
use Rattle.rules.specs.declared.chunk.Context.{Context}
use Rattle.rules.specs.Answers.{Examined}

-- a test's refusal, if there is one, names ip
abbrev Names : ℕ → Option (List ℕ) → Type 0
Names ip none = Unit {0}
Names ip (some r) = get_or r 1 0 ≡ ip

module _ (ip : ℕ) where
  first_names : (a b : Option (List ℕ)) → Names ip a → Names ip b → Names ip (first a b)
  unfolding first
  first_names none b h g = g
  first_names (some r) b h g = h

  unless_names : (b : Bool) (r : List ℕ) → get_or r 1 0 ≡ ip → Names ip (unless b r)
  unfolding unless
  unless_names true r e = tt
  unless_names false r e = e

  if_names : (b : Bool) (t : Option (List ℕ)) → Names ip t → Names ip (test_if b t)
  unfolding test_if
  if_names true t h = h
  if_names false t h = tt

  -- ── Each test ─────────────────────────────────────────────────────────────────────────────

  field_names : (at end : ℕ) (x : Shape) → Names ip (field_test ip at end x)
  unfolding field_test
  field_names at end unknown = tt
  field_names at end (scalar k) = refl
  field_names at end (composite k n t) = unless_names (leb end n) _ refl

  index_names : (w : ℕ) (x : Shape) → Names ip (index_test ip w x)
  unfolding index_test
  index_names w unknown = tt
  index_names w (scalar k) = refl
  index_names w (composite k n t) = unless_names (eqb w 0 || eqb (n % w) 0) _ refl

  reading_names : (r : Reading) (st : List Shape) → Names ip (reading_test ip r st)
  unfolding reading_test
  reading_names no_flat st = tt
  reading_names (field at end) st = field_names at end (get_or st 0 unknown)
  reading_names (index w) st = index_names w (get_or st 1 unknown)

  text_field_names : (at : ℕ) (x : Shape) → Names ip (text_field_test ip at x)
  unfolding text_field_test
  text_field_names at unknown = tt
  text_field_names at (scalar k) = tt
  text_field_names at (composite k n none) = tt
  text_field_names at (composite k n (some os)) = unless_names (is_member at os) _ refl

  elements_names : (w e left : ℕ) (os : List ℕ) → Names ip (text_elements ip w e left os)
  unfolding text_elements
  elements_names w e zero os = tt
  elements_names w e (suc left) os = first_names _ _ (unless_names (is_member (e * w) os) _ refl) (elements_names w (suc e) left os)

  text_index_names : (w : ℕ) (x : Shape) → Names ip (text_index_test ip w x)
  unfolding text_index_test
  text_index_names w unknown = tt
  text_index_names w (scalar k) = tt
  text_index_names w (composite k n none) = tt
  text_index_names w (composite k n (some os)) = elements_names w 0 (n / w) os

  size_names : (s : ℕ) (o : Option ℕ) → Names ip (size_test ip s o)
  unfolding size_test
  size_names s none = tt
  size_names s (some n) = unless_names (eqb n s) _ refl

  enum_names : (s : ℕ) (ns : List ℕ) → Names ip (enum_test ip s ns)
  unfolding enum_test
  enum_names s [] = tt
  enum_names s (n ∷ ns) = unless_names (is_member s (n ∷ ns)) _ refl

  args_names : (k a : ℕ) (xs : List Shape) (ps : List Wire) → Names ip (args_test ip k a xs ps)
  unfolding args_test
  args_names k a [] ps = tt
  args_names k a (x ∷ xs) [] = tt
  args_names k a (x ∷ xs) (p ∷ ps) = first_names _ _ (unless_names (fits_declared x (from_wire p)) _ refl) (args_names k (suc a) xs ps)

  call_names : (k : ℕ) (xs : List Shape) (g : Option Sig) → Names ip (call_test ip k xs g)
  unfolding call_test
  call_names k xs none = tt
  call_names k xs (some g) = args_names k 0 xs g.params

  places_names : (t : Option (List ℕ)) → Names ip (places_test ip t)
  unfolding places_test
  places_names none = tt
  places_names (some os) = unless_names (leb (length os) 16) _ refl

  other_names : (c : Chunk) (i : AnyInstr) (st : List Shape) → Names ip (other_tests c ip i st)
  unfolding other_tests
  other_names c (plain p a) st = tt
  other_names c (shaped s) st = tt
  other_names c (jump j) st = tt
  other_names c (PopN n) st = tt
  other_names c (SetLocal k) st = unless_names (fits_declared (get_or st 0 unknown) (get_or (map from_wire c.sig.params) k unknown)) _ refl
  other_names c (Call k n) st = call_names k (reverse (take n st)) (get_elem? c.sigs k)
  other_names c (NewFlat k n s) st =
      first_names _ _ (first_names _ _ (if_names (eqb k 3) _ (enum_names s c.enum_sizes)) (if_names (not (eqb k 3)) _ (size_names s (packed c (take n st)))))
      (places_names (text_unless_enum c k (reverse (take n st))))
  other_names c (NewBoxed k n m) st = tt
  other_names c (GetFlat o (Flat at k)) st = if_names (eqb k 6) _ (text_field_names at (get_or st 0 unknown))
  other_names c (GetFlat o (FlatNested at n k)) st = tt
  other_names c (GetBoxed o n) st = tt
  other_names c (GetIndex (ElemFlat k)) st = if_names (eqb k 6 && ltb 0 (width c k)) _ (text_index_names (width c k) (get_or st 1 unknown))
  other_names c (GetIndex (ElemNested n k)) st = tt

  -- ── An examination ────────────────────────────────────────────────────────────────────────

  tests_name : (c : Chunk) (floor : ℕ) (i : AnyInstr) (s : AnyState) → Names ip (tests c ip floor i s)
  unfolding tests floor_test need_test height_test
  tests_name c floor i s =
      first_names _ _ (unless_names (eqb floor 0 || leb (floor + need c i) (height s)) _ refl)
      (first_names _ _ (unless_names (leb (need c i) (height s)) _ refl)
      (first_names _ _ (reading_names (reading c i) s.stack)
      (first_names _ _ (other_names c i s.stack)
      (unless_names (leb (height (after c i s)) 64) _ refl))))

  examined_name : (c : Chunk) (floor : ℕ) (i : AnyInstr) (s : AnyState) (r : List ℕ) → refused r ≡ examine c ip floor i s → get_or r 1 0 ≡ ip
  unfolding examine pass
  examined_name c floor i s r e = go (tests c ip floor i s) (tests_name c floor i s) e
    where
      go : (o : Option (List ℕ)) → Names ip o → refused r ≡ pass o (after c i s) → get_or r 1 0 ≡ ip
      go none h e = absurd (cc)
      go (some q) h e = let same : r ≡ q = cc in ap (λ (l : List ℕ). get_or l 1 0) same ∙ h

-- the refusal of an instruction at ip
pub refused_at : (x : Context) (i : Instr) (ip floor : ℕ) (s u : State) (f : Refusal) → Examined x i ip floor s (Err f) u → get_or (fields f) 1 0 ≡ ip
unfolding refusal pass
refused_at x i ip floor s u f E = examined_name ip _ floor _ _ (fields f) E.result

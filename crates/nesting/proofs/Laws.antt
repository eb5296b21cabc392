-- Laws for the proofs of the code: the part that an instruction has, and what each step means. Assumes nothing.
use Rattle.std.proofs.Common.{◌≡◌, refl, sym, ap, ◌∙◌, subst, ◌⊎◌, inl, inr, Bool, true, false, ℕ, ◌-◌, ◌≤◌, ◌<◌, arith, length, T}
use Rattle.std.proofs.Common.{lt-ltb, le-ltb, Option as Maybe, Some, None, IsTrue}
use Rattle.std.proofs.Math.Option.{Option, none, some}
use Rattle.definition.specs.Instructions.{Chunk, control_at, Control, onward, stops, returns, resets, end_if, end_loop, ends, if_to, else_to, loop_to}
use Rattle.definition.specs.Instructions.{break_to, break_if_to}
use Rattle.definition.specs.Nesting.{else_at, else_if, else_of, loop_target, if_target, rule_holds}
use Rattle.theorems.specs.Place.{else_is}
use Rattle.nesting.proofs.BlockLaws.{Free}
use Rattle.nesting.proofs.TopLaws.{around_top, three}
use Rattle.nesting.proofs.Decide.{no_block, not_end, else_must, else_may, end_if_must, end_if_may, end_loop_must, end_loop_may, break_to_must}
use Rattle.nesting.proofs.Decide.{break_to_may, break_if_to_must, break_if_to_may, two_must, two_may, one_must, one_may, loop_must, loop_may}
use Rattle.nesting.specs.Codes.{part_of, control_in, part_in, Coded}
use Rattle.std.specs.Bool.{then_some}
use Rattle.std.specs.Option.{MatchOption, IsSomeAnd}
use Rattle.nesting.specs.Steps.{Opens, Good, At, Closes}
use Rattle.nesting.specs.declared.code.Code.{Code}
use Rattle.nesting.specs.declared.place.Open.{Open}
use Rattle.nesting.specs.declared.part.Part.{Part}
use Rattle.nesting.specs.declared.part.Part.TheVariants.{Other, If, Else, EndIf, Loop, EndLoop, Break}
use Rattle.nesting.specs.declared.place.Place.{Place}
use Rattle.nesting.specs.declared.place.Step.{Step}
use Rattle.nesting.specs.declared.place.Step.TheVariants.{Stay, Pop, Push}
use Rattle.nesting.specs.Blocks.{Block, Keeps, Names}

-- ── What a part says of an instruction ────────────────────────────────────────────────────

-- an instruction that keeps its rule, whatever is open
abbrev Quiet : Chunk → ℕ → Control → Type 0
Quiet c p k = T (rule_holds c p k) × (if_target k ≡ none) × (loop_target k ≡ none) × (k ≡ end_if → ⊥) × (k ≡ end_loop → ⊥)

abbrev Says : Chunk → ℕ → Part → Control → Type 0
Says c p Other k = Quiet c p k
Says c p (If t) k = k ≡ if_to t
Says c p (Else t) k = k ≡ else_to t
Says c p EndIf k = k ≡ end_if
Says c p (Loop t) k = k ≡ loop_to t
Says c p EndLoop k = k ≡ end_loop
Says c p (Break t) k = (k ≡ break_to t) ⊎ (k ≡ break_if_to t)

says : (c : Chunk) (p : ℕ) (k : Control) → Says c p (part_of k) k
unfolding part_of rule_holds if_target loop_target
says c p onward = (tt, refl, refl, λ d. cc, λ d. cc)
says c p stops = (tt, refl, refl, λ d. cc, λ d. cc)
says c p returns = (tt, refl, refl, λ d. cc, λ d. cc)
says c p resets = (tt, refl, refl, λ d. cc, λ d. cc)
says c p ends = (tt, refl, refl, λ d. cc, λ d. cc)
says c p end_if = refl
says c p end_loop = refl
says c p (if_to t) = refl
says c p (else_to t) = refl
says c p (loop_to t) = refl
says c p (break_to t) = inl refl
says c p (break_if_to t) = inr refl

module _ (c : Chunk) (code : Code) (C : Coded c code) (q : ℕ) where
  pub told : (x : Part) → x ≡ part_in code q → Says c q x (control_at c q)
  told x e =
      subst (Says c q x) (sym (C.control_is q))
      (subst (λ (y : Part). Says c q y (control_in code q)) (sym e) (says c q (control_in code q)))

  pub part_is : (k : Control) → control_at c q ≡ k → part_in code q ≡ part_of k
  part_is k e = ap part_of (sym (C.control_is q) ∙ e)

-- ── Steps ─────────────────────────────────────────────────────────────────────────────────

-- a block that is given where a test holds
pub opens_if : (c : Chunk) (p : ℕ) (b : Bool) (o : Open) (r : Maybe Open) → r ≡ then_some b o → (IsTrue b → Opens c p (Some o)) → ((IsTrue b → ⊥) → Keeps c p → ⊥) → Opens c p r
opens_if c p true o r e f g = rw e (f refl)
opens_if c p false o r e f g = rw e (g (λ d. cc))

-- the same of a step that opens none
pub good_if : (c : Chunk) (p e : ℕ) (b : Bool) (s : Step) (r : Maybe Step) → r ≡ then_some b s → (IsTrue b → Good c p e (Some s)) → ((IsTrue b → ⊥) → Keeps c p → ⊥) → Good c p e r
good_if c p e true s r x f g = rw x (f refl)
good_if c p e false s r x f g = rw x (g (λ d. cc))

pub pushed : (c : Chunk) (p e : ℕ) (o : Maybe Open) (r : Maybe Step) → Opens c p o → MatchOption o (r ≡ None) (λ x. IsSomeAnd r (λ s. s ≡ Push x)) → Good c p e r
pushed c p e None r x h = rw h x
pushed c p e (Some o) (Some s) x h = rw h x
pushed c p e (Some o) None x h = absurd h

-- The instruction at a place.
module _ (c : Chunk) (i : Place) (H : At c i) where
  abbrev code : Code
  code = i.code.now

  abbrev p : ℕ
  p = i.at

  abbrev m : ℕ
  m = i.inner.middle

  abbrev e : ℕ
  e = i.inner.closer

  abbrev b : Maybe ℕ
  b = i.inner.target

  inside : p < length c.code
  inside = omega (arith, H.coded.size_is, H.there)

  -- the instruction at p is another than that at q
  after : (q : ℕ) (k l : Control) → control_at c p ≡ k → control_at c q ≡ l → (k ≡ l → ⊥) → p ≤ q → p < q
  after q k l x y n u = go (three p q)
    where
      go : (p < q) ⊎ ((p ≡ q) ⊎ (q < p)) → p < q
      go (inl a) = a
      go (inr (inl a)) = absurd (n (sym x ∙ ap (control_at c) a ∙ y))
      go (inr (inr a)) = absurd (omega arith)

  pub else_yes : (target q : ℕ) → p < target → control_at c p ≡ if_to target → part_in code (target - 1) ≡ Else q → else_at c p target ≡ some q
  unfolding else_at else_if else_of
  else_yes target q l x y =
      let z : control_at c (target - 1) ≡ else_to q = told c code H.coded (target - 1) (Else q) (sym y) in
      let u : p < target - 1 = after (target - 1) (if_to target) (else_to q) x z (λ d. cc) (omega arith) in
      rw (lt-ltb p (target - 1) u, z)

  pub else_no : (target : ℕ) → ((q : ℕ) → part_in code (target - 1) ≡ Else q → ⊥) → else_at c p target ≡ none
  unfolding part_of
  else_no target f = go (else_at c p target) refl
    where
      go : (o : Option ℕ) → else_at c p target ≡ o → o ≡ none
      go none x = refl
      go (some y) x = let h = else_is c p target y x in absurd (f y (part_is c code H.coded (target - 1) (else_to y) h.1))

  names_if : (target : ℕ) → control_at c p ≡ if_to target → Names c p b
  unfolding loop_target
  names_if target x = inr (rw x refl, around_top c p H.rules m e b (subst Free (sym x) tt) H.top)

  pub if_short : (target : ℕ) → target ≤ p → control_at c p ≡ if_to target → Keeps c p → ⊥
  unfolding else_at else_if
  if_short target l x k =
      let n : else_at c p target ≡ none = rw (le-ltb p (target - 1) (omega arith)) in
      omega (arith, (one_must c p m e b H.rules inside H.top target x n k).0)

  -- An If with an Else.
  module _ (target q : ℕ) (x : control_at c p ≡ if_to target) (y : else_at c p target ≡ some q) where
    pub two_short : q ≤ target - 1 → Keeps c p → ⊥
    two_short l k = omega (arith, (two_must c p m e b H.rules inside H.top target q x y k).0)

    pub two_push : target - 1 < q → Closes i EndIf q → Keeps c p × Block c p (target - 1) q × Names c p b
    two_push l (z, f) =
        let g = two_may c p m e b H.rules inside H.top target q x y l (told c code H.coded q EndIf (sym z)) f in
        (g.0, g.1, names_if target x)

    pub two_open : (Closes i EndIf q → ⊥) → Keeps c p → ⊥
    unfolding part_of
    two_open n k =
        let g = two_must c p m e b H.rules inside H.top target q x y k in
        n (part_is c code H.coded q end_if g.1, g.2)

  -- An If without one.
  module _ (target : ℕ) (x : control_at c p ≡ if_to target) (y : else_at c p target ≡ none) where
    pub one_push : p < target → Closes i EndIf target → Keeps c p × Block c p target target × Names c p b
    one_push l (z, f) =
        let g = one_may c p m e b H.rules inside H.top target x y l (told c code H.coded target EndIf (sym z)) f in
        (g.0, g.1, names_if target x)

    pub one_open : (Closes i EndIf target → ⊥) → Keeps c p → ⊥
    unfolding part_of
    one_open n k =
        let g = one_must c p m e b H.rules inside H.top target x y k in
        n (part_is c code H.coded target end_if g.1, g.2)

  module _ (target : ℕ) (x : control_at c p ≡ loop_to target) where
    pub loop_short : target ≤ p → Keeps c p → ⊥
    loop_short l k = omega (arith, (loop_must c p m e b H.rules inside H.top target x k).0)

    pub loop_push : p < target → Closes i EndLoop (target - 1) → Keeps c p × Block c p (target - 1) (target - 1) × Names c p (Some target)
    loop_push l (z, f) =
        let w : control_at c (target - 1) ≡ end_loop = told c code H.coded (target - 1) EndLoop (sym z) in
        let u : p < target - 1 = after (target - 1) (loop_to target) end_loop x w (λ d. cc) (omega arith) in
        let g = loop_may c p m e b H.rules inside H.top target x (omega arith) w f in
        (g.0, g.1, inl (target, x, refl))

    pub loop_open : (Closes i EndLoop (target - 1) → ⊥) → Keeps c p → ⊥
    unfolding part_of
    loop_open n k =
        let g = loop_must c p m e b H.rules inside H.top target x k in
        n (part_is c code H.coded (target - 1) end_loop g.1, g.2)

  -- an instruction that opens and closes nothing
  stays : (k : Control) → control_at c p ≡ k → if_target k ≡ none → loop_target k ≡ none → (k ≡ end_if → ⊥) → (k ≡ end_loop → ⊥) → Keeps c p
      → Good c p e (Some Stay)
  stays k x f l u v h = (h, not_end c p k x m e b inside H.top u v, no_block c p k x f l)

  pub other_good : Other ≡ part_in code p → Good c p e (Some Stay)
  other_good y =
      let g = told c code H.coded p Other y in
      stays (control_at c p) refl g.1 g.2 g.3 g.4 g.0

  module _ (q : ℕ) (y : Else q ≡ part_in code p) where
    else_told : control_at c p ≡ else_to q
    else_told = told c code H.coded p (Else q) y

    pub else_good : m ≡ p → Good c p e (Some Stay)
    unfolding if_target loop_target
    else_good z = stays (else_to q) else_told refl refl (λ d. cc) (λ d. cc) (else_may c p m e b H.rules inside H.top q else_told z)

    pub else_bad : Keeps c p → m ≡ p
    else_bad h = else_must c p m e b H.rules inside H.top q else_told h

  pub end_if_good : EndIf ≡ part_in code p → e ≡ p → Good c p e (Some Pop)
  unfolding if_target loop_target
  end_if_good y z =
      let x : control_at c p ≡ end_if = told c code H.coded p EndIf y in
      (end_if_may c p m e b H.rules inside H.top x z, z, no_block c p end_if x refl refl)

  pub end_if_bad : EndIf ≡ part_in code p → Keeps c p → e ≡ p
  end_if_bad y h = end_if_must c p m e b H.rules inside H.top (told c code H.coded p EndIf y) h

  pub end_loop_good : EndLoop ≡ part_in code p → e ≡ p → Good c p e (Some Pop)
  unfolding if_target loop_target
  end_loop_good y z =
      let x : control_at c p ≡ end_loop = told c code H.coded p EndLoop y in
      (end_loop_may c p m e b H.rules inside H.top x z, z, no_block c p end_loop x refl refl)

  pub end_loop_bad : EndLoop ≡ part_in code p → Keeps c p → e ≡ p
  end_loop_bad y h = end_loop_must c p m e b H.rules inside H.top (told c code H.coded p EndLoop y) h

  module _ (target : ℕ) (y : Break target ≡ part_in code p) where
    pub break_good : b ≡ Some target → Good c p e (Some Stay)
    unfolding if_target loop_target
    break_good z = go (told c code H.coded p (Break target) y)
      where
        go : (control_at c p ≡ break_to target) ⊎ (control_at c p ≡ break_if_to target) → Good c p e (Some Stay)
        go (inl x) = stays (break_to target) x refl refl (λ d. cc) (λ d. cc) (break_to_may c p m e b H.rules inside H.top target x z)
        go (inr x) = stays (break_if_to target) x refl refl (λ d. cc) (λ d. cc) (break_if_to_may c p m e b H.rules inside H.top target x z)

    pub break_bad : Keeps c p → b ≡ Some target
    break_bad h = go (told c code H.coded p (Break target) y)
      where
        go : (control_at c p ≡ break_to target) ⊎ (control_at c p ≡ break_if_to target) → b ≡ Some target
        go (inl x) = break_to_must c p m e b H.rules inside H.top target x h
        go (inr x) = break_if_to_must c p m e b H.rules inside H.top target x h

-- The walk over a chunk's instructions: what holds at each, how a step keeps it, and what it gives at the end.
use Rattle.std.proofs.Common.{◌≡◌, refl, sym, ap, ◌∙◌, subst, ◌⊎◌, inl, inr, Bool, true, false, not, ◌&&◌, List, ℕ, zero, suc, ◌+◌, ◌-◌, ◌≤◌, ◌<◌, arith, add-one, below_more, length, get_or, set}
use Rattle.std.proofs.Common.{get_or-set_same, get_or-set_other, T, ltb, lt-ltb, Result as Outcome, Ok, Err, Option as Maybe, Some, None}
use Rattle.std.proofs.Math.Option.{Option, none, some}
use Rattle.std.specs.Bool.{then_some}
use Rattle.std.specs.Option.{option_or, ok_or}
use Rattle.definition.specs.Instructions.{Chunk, control_at}
use Rattle.definition.specs.Nesting.{rule_holds, closer, is_after, open_blocks, first_from, first_broken, too_deep}
use Rattle.theorems.specs.Agree.{lt_or_ge, →firsts, →not_not}
use Rattle.nesting.proofs.BlockLaws.{order, closer_is, block_of}
use Rattle.nesting.proofs.Stack.{Chain, chain_top, chain_same, chain_stay, chain_push, chain_pop, open_after}
use Rattle.nesting.specs.Codes.{Coded}
use Rattle.nesting.specs.Steps.{Good, Here, Right}
use Rattle.nesting.specs.declared.code.Code.{Code}
use Rattle.nesting.specs.declared.place.Open.{Open}
use Rattle.nesting.specs.declared.place.Step.{Step}
use Rattle.nesting.specs.declared.place.Step.TheVariants.{Stay, Pop, Push}
use Rattle.nesting.specs.Blocks.{Block, Keeps, Rules, Names, NoBlock}
use Rattle.nesting.specs.Answer.{NestingIs, broken_of, deep_of}

-- the test of `too_deep` at p
abbrev pub deep_at : Chunk → ℕ → Bool
deep_at c p = is_after p (closer c p) && ltb 8 (open_blocks c p)

-- what was found below p: the first place that makes too many open blocks, or none
abbrev pub First : Chunk → ℕ → Maybe ℕ → Type 0
First c p (Some q) = (q < p) × (deep_at c q ≡ true) × ((i : ℕ) → i < q → deep_at c i ≡ false)
First c p None = (i : ℕ) → i < p → deep_at c i ≡ false

-- entry i of the stack
abbrev pub open_at : List Open → ℕ → Open
open_at stack i = get_or stack i (record { middle = 0; closer = 0; target = None })

-- A push leaves the entry of the whole chunk.
pub whole_kept : (stack : List Open) (h : ℕ) (o : Open) → open_at (set stack (h + 1) o) 0 ≡ open_at stack 0
whole_kept stack h o = get_or-set_other stack (h + 1) 0 o _ (λ e. omega arith)

-- What holds before the instruction at p is examined.
pub record State (c : Chunk) (stack : List Open) (p h : ℕ) (found : Maybe ℕ) : Type 0 where
  pub rules : Rules c p
  pub blocks : Chain c (open_at stack) p h
  pub first : First c p found

below_suc : (P : ℕ → Type 0) (p : ℕ) → ((i : ℕ) → i < p → P i) → P p → (i : ℕ) → i < suc p → P i
below_suc P p f g i l = below_more P p f g i (omega arith)

-- ── Limit 4 ───────────────────────────────────────────────────────────────────────────────

quiet_deep : (c : Chunk) (p : ℕ) → Keeps c p → NoBlock c p → deep_at c p ≡ false
unfolding is_after
quiet_deep c p h n = go (closer c p) refl
  where
    go : (o : Option ℕ) → closer c p ≡ o → (is_after p o && ltb 8 (open_blocks c p)) ≡ false
    go none e = refl
    go (some q) e = let b = block_of c p q h e in absurd (n b.0 q b.1)

first_quiet : (c : Chunk) (p : ℕ) (found : Maybe ℕ) → deep_at c p ≡ false → First c p found → First c (suc p) found
first_quiet c p (Some q) e (l, t, f) = (omega arith, t, f)
first_quiet c p None e f = below_suc (λ (i : ℕ). deep_at c i ≡ false) p f e

first_push : (c : Chunk) (p h : ℕ) (found : Maybe ℕ) → deep_at c p ≡ ltb 8 h → First c p found → First c (suc p) (option_or found (then_some (ltb 8 h) p))
first_push c p h (Some q) e (l, t, f) = (omega arith, t, f)
first_push c p h None e f = go (ltb 8 h) refl
  where
    go : (b : Bool) → ltb 8 h ≡ b → First c (suc p) (then_some b p)
    go true x = (omega arith, e ∙ x, f)
    go false x = below_suc (λ (i : ℕ). deep_at c i ≡ false) p f (e ∙ x)

-- ── The first that passes a test ──────────────────────────────────────────────────────────

pub first_is : (n k p : ℕ) (f : ℕ → Bool) → k ≤ p → p < k + n → ((i : ℕ) → k ≤ i → i < p → f i ≡ false) → f p ≡ true → first_from k n f ≡ some p
unfolding first_from
first_is zero k p f l u g h = absurd (omega arith)
first_is (suc n) k p f l u g h = go (λ x. first_is n (suc k) p f x (omega arith) (λ i a v. g i (omega arith) v) h) (lt_or_ge k p)
  where
    one : (b : Bool) (r : Option ℕ) → f k ≡ b → first_from (suc k) n f ≡ r → first_from k (suc n) f ≡ elim b as (λ _. Option ℕ) [ true ↦ some k | false ↦ r ]
    one b r x y = rw (x, first_from) (ap (λ (w : Option ℕ). elim b as (λ _. Option ℕ) [ true ↦ some k | false ↦ w ]) y)

    go : (k < p → first_from (suc k) n f ≡ some p) → (k < p) ⊎ (p ≤ k) → first_from k (suc n) f ≡ some p
    go ih (inl x) = one false (some p) (g k (omega arith) x) (ih x)
    go ih (inr x) = let e : p ≡ k = omega arith in one true (first_from (suc k) n f) (subst (λ (i : ℕ). f i ≡ true) e h) refl ∙ ap some (sym e)

not_held_true : (b : Bool) → (T b → ⊥) → not b ≡ true
not_held_true true f = absurd (f tt)
not_held_true false f = refl

held_not : (b : Bool) → T b → not b ≡ false
held_not true h = refl
held_not false h = absurd h

not_T : (b : Bool) → b ≡ false → T (not b)
not_T true e = cc
not_T false e = tt

-- ── The walk ──────────────────────────────────────────────────────────────────────────────

module _ (c : Chunk) (code : Code) (C : Coded c code) where
  pub start : (stack : List Open) → 0 < length stack → State c (set stack 0 (record { middle = code.size; closer = code.size; target = None })) 0 0 None
  unfolding Chain
  start stack l =
      let e = get_or-set_same stack 0 (record { middle = code.size; closer = code.size; target = None }) (record { middle = 0; closer = 0; target = None }) l in
      record {
        rules = λ i u. absurd (omega arith);
        blocks = record {
          mid = ap (λ (o : Open). o.middle) e ∙ sym C.size_is;
          end = ap (λ (o : Open). o.closer) e ∙ sym C.size_is;
          brk = ap (λ (o : Open). o.target) e;
          shut = λ i u. absurd (omega arith);
        };
        first = λ i u. absurd (omega arith);
      }

  module _ (stack : List Open) (p h : ℕ) (found : Maybe ℕ) (S : State c stack p h found) where
    pub here : p < code.size → Here c code (open_at stack h) p
    here l = record { coded = C; rules = S.rules; there = l; top = chain_top c (open_at stack) p h S.blocks }

    rules_on : Keeps c p → Rules c (suc p)
    rules_on k = below_suc (Keeps c) p S.rules k

    pub stay : Good c p (open_at stack h).closer (Some Stay) → State c stack (p + 1) h found
    stay (k, n, f) =
        rw add-one
        record {
          rules = rules_on k;
          blocks = chain_stay c (open_at stack) p h S.blocks n f;
          first = first_quiet c p found (quiet_deep c p k f) S.first;
        }

    pub pop : p < code.size → Good c p (open_at stack h).closer (Some Pop) → State c stack (p + 1) (h - 1) found
    pop l (k, n, f) =
        rw add-one
        record {
          rules = rules_on k;
          blocks = (chain_pop c (open_at stack) p h (omega (arith, C.size_is)) S.blocks n f).1;
          first = first_quiet c p found (quiet_deep c p k f) S.first;
        }

    push_blocks : (o : Open) → suc h < length stack → Block c p o.middle o.closer → Names c p o.target → Chain c (open_at (set stack (suc h) o)) (suc p) (suc h)
    push_blocks o l B N =
        let e : open_at (set stack (suc h) o) (suc h) ≡ o = get_or-set_same stack (suc h) o _ l in
        chain_push c (open_at (set stack (suc h) o)) p h
        (chain_same c (open_at stack) (open_at (set stack (suc h) o)) p h (λ i u. sym (get_or-set_other stack (suc h) i o _ (λ d. omega arith))) S.blocks)
        (rw e B) (rw e N)

    push_deep : (m q : ℕ) → Block c p m q → deep_at c p ≡ ltb 8 (suc h)
    unfolding is_after
    push_deep m q B =
        let o : (p < m) × (m ≤ q) = order c p m q B in
        rw (closer_is c p m q B, lt-ltb p q (omega arith), open_after c (open_at stack) p h m q S.rules S.blocks B)

    pub push : (o : Open) → h + 1 < length stack → Good c p (open_at stack h).closer (Some (Push o)) → State c (set stack (h + 1) o) (p + 1) (h + 1) (option_or found (then_some (ltb 8 (h + 1)) p))
    push o l (k, B, N) =
        rw (add-one p, add-one h)
        record {
          rules = rules_on k;
          blocks = push_blocks o (omega arith) B N;
          first = first_push c p (suc h) found (push_deep o.middle o.closer B) S.first;
        }

    pub broken : p < code.size → Good c p (open_at stack h).closer None → NestingIs c (Err p)
    unfolding first_broken broken_of
    broken l g =
        let e : first_broken c ≡ some p =
        first_is (length c.code) 0 p (λ q. not (rule_holds c q (control_at c q))) (omega arith) (omega (arith, C.size_is))
        (λ i a u. held_not (rule_holds c i (control_at c i)) (S.rules i u)) (not_held_true (rule_holds c p (control_at c p)) g) in
        record { broken = e; deep = λ n. cc }

    none_broken : code.size ≤ p → first_broken c ≡ none
    unfolding first_broken
    none_broken l =
        →firsts (length c.code) 0 (λ q. not (rule_holds c q (control_at c q)))
        (λ q a u. →not_not (rule_holds c q (control_at c q)) (S.rules q (omega (arith, C.size_is))))

    pub ends_well : code.size ≤ p → p ≤ code.size → NestingIs c (Ok found)
    unfolding broken_of deep_of too_deep
    ends_well l u = go found S.first
      where
        go : (r : Maybe ℕ) → First c p r → NestingIs c (Ok r)
        go (Some q) (x, y, f) =
            record {
              broken = none_broken l;
              deep = λ _. first_is (length c.code) 0 q (deep_at c) (omega arith) (omega (arith, C.size_is)) (λ i a v. f i v) y;
            }
        go None f =
            record {
              broken = none_broken l;
              deep = λ _. →firsts (length c.code) 0 (deep_at c) (λ q a v. not_T (deep_at c q) (f q (omega (arith, C.size_is))));
            }

-- ── Every chunk that has the instructions ─────────────────────────────────────────────────

pub record States (code : Code) (stack : List Open) (p h : ℕ) (found : Maybe ℕ) : Type 0 where
  pub in_chunk : (c : Chunk) → Coded c code → State c stack p h found

none_at : (s : Maybe Step) (p q : ℕ) → ◌≡◌ {A = Outcome Step ℕ} (Err q) (ok_or s p) → (s ≡ None) × (q ≡ p)
none_at None p q e = (refl, cc)
none_at (Some s) p q e = cc

-- a step that is right, at the innermost open block
module _ {code : Code} {stack : List Open} {p h : ℕ} {found : Maybe ℕ} (S : States code stack p h found) (l : p < code.size) (s : Maybe Step)
    (R : Right code (open_at stack h) p s) where
  good : (x : Maybe Step) → s ≡ x → (c : Chunk) → Coded c code → Good c p (open_at stack h).closer x
  good x e c C = subst (Good c p (open_at stack h).closer) e (R c (here c code C stack p h found (S.in_chunk c C) l))

  pub bads : (q : ℕ) → ◌≡◌ {A = Outcome Step ℕ} (Err q) (ok_or s p) → (c : Chunk) → Coded c code → NestingIs c (Err q)
  bads q e c C = let n = none_at s p q e in rw n.1 (broken c code C stack p h found (S.in_chunk c C) l (good None n.0 c C))

  pub stays : s ≡ Some Stay → States code stack (p + 1) h found
  stays e = record { in_chunk = λ c C. stay c code C stack p h found (S.in_chunk c C) (good (Some Stay) e c C) }

  pub pops : s ≡ Some Pop → States code stack (p + 1) (h - 1) found
  pops e = record { in_chunk = λ c C. pop c code C stack p h found (S.in_chunk c C) l (good (Some Pop) e c C) }

  pub pushes : (o : Open) → s ≡ Some (Push o) → h + 1 < length stack → States code (set stack (h + 1) o) (p + 1) (h + 1) (option_or found (then_some (ltb 8 (h + 1)) p))
  pushes o e x = record { in_chunk = λ c C. push c code C stack p h found (S.in_chunk c C) o x (good (Some (Push o)) e c C) }

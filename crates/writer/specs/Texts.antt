-- A text that may be missing, and the condition under which it is there: the laws by which such texts are put together.
use Rattle.std.specs.Prelude.{◌≡◌, refl, Bool, true, false, ◌++◌}
use Rattle.std.proofs.Common.{sym, ap, ◌∙◌, subst}
use Rattle.std.proofs.Math.Option.{Option, none, some}
use Rattle.definition.specs.Format.{Bytes, provided}
use Rattle.theorems.specs.Cover.{no_some, no_false}
use Rattle.writer.specs.Put.{joined}

-- A text is there exactly where P holds, and it is x.
pub record Says (o : Option Bytes) (P : Type 0) (x : Bytes) : Type 0 where
  pub only : (y : Bytes) → o ≡ some y → P × (y ≡ x)
  pub each : P → o ≡ some x

pub some_inj : {A : Type 0} {x y : A} → some x ≡ some y → x ≡ y
some_inj e = cc

-- the same condition, and under it the same text, said otherwise
pub says_as : {o : Option Bytes} {P Q : Type 0} {x y : Bytes} → Says o P x → (P → Q × (x ≡ y)) → (Q → P) → Says o Q y
says_as s f g =
    record {
      only = λ z e. ((f (s.only z e).0).0, (s.only z e).1 ∙ (f (s.only z e).0).1);
      each = λ q. s.each (g q) ∙ ap some (f (g q)).1;
    }

pub says_by : {o p : Option Bytes} {P : Type 0} {x : Bytes} → o ≡ p → Says p P x → Says o P x
says_by {o} {p} {P} {x} e s = subst (λ (r : Option Bytes). Says r P x) (sym e) s

pub says_some : (x : Bytes) → Says (some x) (Unit {0}) x
says_some x = record { only = λ y e. (tt, sym (some_inj e)); each = λ u. refl }

pub says_none : {P : Type 0} (x : Bytes) → (P → ⊥) → Says none P x
says_none x f = record { only = λ y e. absurd (no_some (sym e)); each = λ p. absurd (f p) }

pub says_provided : (b : Bool) (x : Bytes) → Says (provided b x) (b ≡ true) x
unfolding provided
says_provided true x = says_as (says_some x) (λ u. (refl, refl)) (λ e. tt)
says_provided false x = says_none x no_false

-- a text behind a test
pub says_if : {P : Type 0} {x : Bytes} (b : Bool) (o : Option Bytes) → (b ≡ true → Says o P x) →
    Says (elim b as (λ z. Option Bytes) [ true ↦ o | false ↦ none ]) ((b ≡ true) × P) x
says_if true o s = says_as (s refl) (λ p. ((refl, p), refl)) (λ p. p.1)
says_if {P} {x} false o s = says_none x (λ p. no_false p.0)

pub says_both : {o p : Option Bytes} {P Q : Type 0} {x y : Bytes} → Says o P x → Says p Q y → Says (joined o p) (P × Q) (x ++ y)
unfolding joined
says_both {o} {p} {P} {Q} {x} {y} s r = record { only = whole o p s r; each = λ c. ap (λ (q : Option Bytes). joined q p) (s.each c.0) ∙ ap (joined (some x)) (r.each c.1) ∙ both_there }
  where
    both_there : joined (some x) (some y) ≡ some (x ++ y)
    both_there = refl

    whole : (o p : Option Bytes) → Says o P x → Says p Q y → (z : Bytes) → joined o p ≡ some z → (P × Q) × (z ≡ x ++ y)
    whole none p s r z e = absurd (no_some (sym e))
    whole (some a) none s r z e = absurd (no_some (sym e))
    whole (some a) (some b) s r z e =
        let u = s.only a refl in
        let v = r.only b refl in
        ((u.0, v.0), sym (some_inj e) ∙ ap (λ (l : Bytes). l ++ b) u.1 ∙ ap (λ (l : Bytes). x ++ l) v.1)

-- a text that is always there, before another
pub says_after : {o : Option Bytes} {P : Type 0} {x : Bytes} (a : Bytes) → Says o P x → Says (joined (some a) o) P (a ++ x)
says_after a s = says_as (says_both (says_some a) s) (λ p. (p.1, refl)) (λ p. (tt, p))

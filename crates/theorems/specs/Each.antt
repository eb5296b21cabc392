-- A fact that holds of each entry of a list.
use mathlib.Core.List.{List, [], ◌∷◌, ◌++◌, reverse, reverse_aux}
use Rattle.std.specs.Prelude.{ℕ, zero, suc, get_or, take, drop, set}

pub data Each {A : Type 0} (P : A → Type 0) : List A → Type 0 where
  nobody : Each P []
  both : {x : A} {xs : List A} → P x → Each P xs → Each P (x ∷ xs)

pub each_more : {A : Type 0} {P : A → Type 0} (xs : List A) (x : A) → Each P xs → P x → Each P (xs ++ (x ∷ []))
each_more [] x e p = both p nobody
each_more (y ∷ xs) x (both q e) p = both q (each_more xs x e p)

pub each_both : {A : Type 0} {P : A → Type 0} {xs ys : List A} → Each P xs → Each P ys → Each P (xs ++ ys)
each_both nobody f = f
each_both (both p e) f = both p (each_both e f)

pub each-drop : {A : Type 0} {P : A → Type 0} (n : ℕ) {xs : List A} → Each P xs → Each P (drop n xs)
each-drop zero e = e
each-drop (suc n) nobody = nobody
each-drop (suc n) (both p e) = each-drop n e

pub each_set : {A : Type 0} {P : A → Type 0} {xs : List A} (k : ℕ) (x : A) → Each P xs → P x → Each P (set xs k x)
each_set k x nobody p = nobody
each_set zero x (both q e) p = both p e
each_set (suc k) x (both q e) p = both q (each_set k x e p)

pub each_get : {A : Type 0} {P : A → Type 0} {xs : List A} (k : ℕ) (x : A) → Each P xs → P x → P (get_or xs k x)
each_get k x nobody p = p
each_get zero x (both q e) p = q
each_get (suc k) x (both q e) p = each_get k x e p

pub each_take : {A : Type 0} {P : A → Type 0} (n : ℕ) {xs : List A} → Each P xs → Each P (take n xs)
each_take zero e = nobody
each_take (suc n) nobody = nobody
each_take (suc n) (both p e) = both p (each_take n e)

each_onto : {A : Type 0} {P : A → Type 0} {xs ys : List A} → Each P xs → Each P ys → Each P (reverse_aux xs ys)
each_onto nobody f = f
each_onto (both p e) f = each_onto e (both p f)

pub each-reverse : {A : Type 0} {P : A → Type 0} {xs : List A} → Each P xs → Each P (reverse xs)
each-reverse e = each_onto e nobody

-- A fact of shapes that unknown, Bool and Int have and that a join keeps: what lists of shapes keep of it in the walk.
use Rattle.std.specs.Prelude.{Bool, get_or, replicate, leb}
use Rattle.std.proofs.Math.Bool.{true, false}
use Rattle.std.proofs.Math.Option.{Option, none, some}
use mathlib.Core.List.{List, [], ◌∷◌, ◌++◌, map}
use Prim.Native.Nat.{ℕ, zero, suc}
use Rattle.std.proofs.Math.ListN.{get_elem?}
use Rattle.definition.specs.Shapes.{Shape, unknown, scalar, join, join_all, from_wire}
use Rattle.definition.specs.Instructions.{instr_at, Shaped, Chunk}
use Rattle.definition.specs.Effects.{Pushed, exact, shape_of, const_shape, returned_native, ints, with_bounds, with_flag, shaped_pushes, set_top, write}
use Rattle.definition.specs.Walk.{start_locals, forget_one, names_local, forget}
use Rattle.theorems.specs.Each.{Each, nobody, both, each_get, each_set}

pub record Kept (P : Shape → Type 0) : Type 0 where
  pub any : P unknown
  pub bool : P (scalar 1)
  pub int : P (scalar 3)
  pub joins : (a b : Shape) → P a → P (join a b)

module _ (P : Shape → Type 0) (kept : Kept P) where
  pub kept_get : {l : List Shape} (n : ℕ) → Each P l → P (get_or l n unknown)
  kept_get n h = each_get n unknown h kept.any

  pub kept_joins : {l : List Shape} (m : List Shape) → Each P l → Each P (join_all l m)
  unfolding join_all
  kept_joins m nobody = nobody
  kept_joins [] (both x r) = nobody
  kept_joins (y ∷ ys) (both {x = s} x r) = both (kept.joins s y x) (kept_joins ys r)

  pub kept_start : (n : ℕ) {ps : List Shape} → Each P ps → Each P (start_locals n ps)
  unfolding start_locals
  kept_start zero h = nobody
  kept_start (suc n) nobody = both kept.any (kept_start n nobody)
  kept_start (suc n) (both x r) = both x (kept_start n r)

  pub kept_write : (o : Option ℕ) {st ls : List Shape} → Each P st → Each P ls → Each P (write o st ls)
  unfolding write set_top
  kept_write none x y = y
  kept_write (some k) nobody y = y
  kept_write (some k) (both {x = s} h r) y = each_set k s y h

  forget_local : (o : Option ℕ) {ls : List Shape} → Each P ls → Each P (forget_one o ls)
  unfolding forget_one
  forget_local none h = h
  forget_local (some k) h = each_set k unknown h kept.any

  pub kept_forget : (c : Chunk) (p n : ℕ) {ls : List Shape} → Each P ls → Each P (forget c p n ls)
  unfolding forget
  kept_forget c p zero h = h
  kept_forget c p (suc n) h = kept_forget c (suc p) n (forget_local (names_local (instr_at c p)) h)

  -- ── Pushes ────────────────────────────────────────────────────────────────────────────────

  pub kept_unknowns : (n : ℕ) → Each P (map shape_of (replicate n (exact unknown)))
  unfolding shape_of
  kept_unknowns zero = nobody
  kept_unknowns (suc n) = both kept.any (kept_unknowns n)

  kept_ints : (n : ℕ) (ps : List Pushed) → Each P (map shape_of ps) → Each P (map shape_of (ints n ++ ps))
  unfolding shape_of
  kept_ints zero ps h = h
  kept_ints (suc n) ps h = both kept.int (kept_ints n ps h)

  only_ints : (n : ℕ) → Each P (map shape_of (ints n))
  unfolding shape_of
  only_ints zero = nobody
  only_ints (suc n) = both kept.int (only_ints n)

  pub kept_bounds : (t : Bool) (p : Pushed) → P (shape_of p) → Each P (map shape_of (with_bounds t p))
  unfolding with_bounds
  kept_bounds true p h = kept_ints 6 (p ∷ []) (both h nobody)
  kept_bounds false p h = both h nobody

  kept_flag : (t : Bool) (p : Pushed) → P (shape_of p) → Each P (map shape_of (with_flag t p))
  unfolding with_flag
  kept_flag true p h = kept_ints 1 (p ∷ []) (both h nobody)
  kept_flag false p h = both h nobody

  -- what a name of `Shaped` pushes, where the chunk's constants, natives and resumed shape are so
  pub kept_shaped : (c : Chunk) → ((k : ℕ) → P (const_shape (get_elem? c.consts k)))
      → ((k : ℕ) → P (shape_of (returned_native (get_elem? c.natives k)))) → P (from_wire c.sig.resume)
      → (i : Shaped) {st ls : List Shape} → Each P st → Each P ls → Each P (map shape_of (shaped_pushes c i st ls))
  unfolding shaped_pushes shape_of
  kept_shaped c cs ns r (Shaped.Const k) x y = both (cs k) nobody
  kept_shaped c cs ns r (Shaped.GetLocal k) x y = both (kept_get k y) nobody
  kept_shaped c cs ns r (Shaped.BoundsCheck k) x y = only_ints 5
  kept_shaped c cs ns r (Shaped.IsStruct k) x y = both kept.bool nobody
  kept_shaped c cs ns r (Shaped.GetDataIndexed a b) x y = kept_ints 6 (exact unknown ∷ []) (both kept.any nobody)
  kept_shaped c cs ns r (Shaped.SetDataIndexed a b) x y = only_ints 6
  kept_shaped c cs ns r (Shaped.Native k n) x y = kept_flag (leb 128 n) (returned_native (get_elem? c.natives k)) (ns k)
  kept_shaped c cs ns r (Shaped.IsEnum a b d) x y = both kept.bool nobody
  kept_shaped c cs ns r Shaped.Dup x y = both (kept_get 0 x) nobody
  kept_shaped c cs ns r Shaped.Yield x y = both r nobody
  kept_shaped c cs ns r Shaped.IndexBoxed x y = kept_bounds true (exact unknown) kept.any

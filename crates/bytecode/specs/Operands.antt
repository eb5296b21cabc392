-- A row has at most three operands, so three numbers are enough to say an instruction.
use Rattle.std.specs.Prelude.{◌≡◌, refl, Bool, true, ◌&&◌, List, [], ◌∷◌, map, ℕ, zero, suc, ◌≤◌, ◌<◌, T, leb, length, get_or}
use Rattle.std.proofs.Common.{arith, leb→le}
use Rattle.std.proofs.Math.Option.{some}
use Rattle.std.specs.Float.Ieee.Fits.{and_l, and_r}
use Rattle.std.proofs.Math.ListN.{get_elem?}
use Rattle.definition.specs.Ops.{Row, ops, row, Makes, make_at, instr_of, instr}
use Rattle.bytecode.specs.Lists.{limited}
use Rattle.bytecode.specs.Meaning.{maxima_in, maxima_of, operands_of, op_of}

unfoldable three : List Row → Bool
three [] = true
three (r ∷ rs) = leb (length r.maxima) 3 && three rs

ops-three : T (three ops)
unfolding three ops row
ops-three = tt

-- ── A row of the table ────────────────────────────────────────────────────────────────────

pub record RowAt (rs : List Row) (c : ℕ) : Type 0 where
  pub this : Row
  pub here : get_elem? rs c ≡ some this
  pub maxima : get_or (map maxima_in rs) c [] ≡ this.maxima
  pub short : length this.maxima ≤ 3

row_in : (rs : List Row) (c : ℕ) → T (three rs) → c < length rs → RowAt rs c
unfolding three
row_in [] c t h = absurd (omega arith)
row_in (r ∷ rs) zero t h =
    record { this = r; here = refl; maxima = refl; short = leb→le (length r.maxima) 3 (and_l (leb (length r.maxima) 3) (three rs) t) }
row_in (r ∷ rs) (suc c) t h =
    let q = row_in rs c (and_r (leb (length r.maxima) 3) (three rs) t) (omega arith) in
    record { this = q.this; here = q.here; maxima = q.maxima; short = q.short }

ops_long : length ops ≡ 75
unfolding ops
ops_long = refl

pub row_of : (c : ℕ) → c < 75 → RowAt ops c
row_of c h = row_in ops c ops-three (omega (arith, ops_long))

-- ── Three operands ────────────────────────────────────────────────────────────────────────

made-same : (ms : List ℕ) (f : Makes ms) (x y z : ℕ) → length ms ≤ 3
    → make_at ms f (limited (get_or ms 0 0) x ∷ limited (get_or ms 1 0) y ∷ limited (get_or ms 2 0) z ∷ []) ≡ make_at ms f (operands_of ms (x ∷ y ∷ z ∷ []))
unfolding make_at operands_of
made-same [] f x y z h = refl
made-same (m ∷ []) f x y z h = refl
made-same (m ∷ n ∷ []) f x y z h = refl
made-same (m ∷ n ∷ o ∷ []) f x y z h = refl
made-same (m ∷ n ∷ o ∷ p ∷ ms) f x y z h = absurd (omega arith)

-- The instruction of three numbers, each cut to its maximum (to 0 where there is none), is that of the row's own operands.
pub three_enough : (c x y z : ℕ) → c < 75
    → instr (record { code = c; operands = limited (get_or (maxima_of c) 0 0) x ∷ limited (get_or (maxima_of c) 1 0) y ∷ limited (get_or (maxima_of c) 2 0) z ∷ [] })
    ≡ instr (op_of c (x ∷ y ∷ z ∷ []))
unfolding instr instr_of op_of maxima_of
three_enough c x y z h =
    let q = row_of c h in
    rw (q.here, q.maxima) (made-same q.this.maxima q.this.make x y z q.short)

use mathlib.Core.Path.{◌≡◌, ◌∙◌}
use mathlib.Core.List.{reverse}
use Prim.Native.Nat.{min}
use borrow.Author.Rules.{rules}
use native.Mathlib.Omega.{arith}
use Rattle.std.specs.List.{slice_range}
use Rattle.bytecode.proofs.Names.{all_of, packed, end, packed_eight}
use Rattle.bytecode.proofs.ops.pack.Goals as goal

pub returns : goal.returns
returns c =
    let s = c.args.s.now in
    let h : c.rfold.result ≡ packed (reverse (slice_range s (min c.args.at (end s c.args.at)) (end s c.args.at))) = search rules in
    h ∙ packed_eight s c.args.at (all_of s (λ i. omega (arith, c.type_inv.s i)))

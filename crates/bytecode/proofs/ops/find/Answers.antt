use mathlib.Core.Path.{refl}
use Rattle.bytecode.proofs.Names.{long_none, all_of}
use native.Mathlib.Omega.{arith}
use borrow.Author.Rules.{rules}
use Rattle.bytecode.specs.Names.{packed_of, words_of}
use Rattle.bytecode.proofs.ops.find.Goals as goal

pub returns-then-length-gt24 : goal.returns-then-length-gt24
returns-then-length-gt24 c = long_none c.args.s.now (search rules)

pub returns : goal.returns
unfolding packed_of words_of
returns c = c.row_of.ensures c.args.s.now
    (record {
      all = all_of c.args.s.now (λ i. omega (arith, c.type_inv.s i));
      packed = rw (c.pack.ensures, c.pack-2.ensures, c.pack-3.ensures) refl;
    })

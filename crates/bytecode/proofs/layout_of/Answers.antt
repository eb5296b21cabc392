-- The static's rows, column by column, are the lists of the definition.
use lib.ListN.{get_or, get_or-map}
use mathlib.Core.List.{List, map}
use mathlib.Core.Path.{◌≡◌, refl, sym, ap, ◌∙◌}
use Prim.Native.Nat.{ℕ}
use Rattle.bytecode.specs.declared.Layout.{Layout}
use Rattle.bytecode.specs.declared.TheConstants.{LAYOUTS}
use Rattle.bytecode.specs.Tables.{strides, caps, bases, stride, cap, base}
use Rattle.bytecode.specs.Parts.{LayoutIs}
use Rattle.bytecode.proofs.layout_of.Goals as goal

column : (f : Layout → ℕ) (ls : List Layout) (ns : List ℕ) (d : Layout) (k : ℕ) → map f ls ≡ ns → f d ≡ 0 → f (get_or ls k d) ≡ get_or ns k 0
column f ls ns d k e z =
    sym (get_or-map f ls k d) ∙ ap (λ (xs : List ℕ). get_or xs k (f d)) e ∙ ap (get_or ns k) z

columns : (ls : List Layout) (d : Layout) (k : ℕ) → map (λ l. l.stride) ls ≡ strides → map (λ l. l.cap) ls ≡ caps → map (λ l. l.base) ls ≡ bases
    → d.stride ≡ 0 → d.cap ≡ 0 → d.base ≡ 0 → LayoutIs k (get_or ls k d)
unfolding stride cap base
columns ls d k s c b x y z =
    record {
      stride_is = column (λ l. l.stride) ls strides d k s x;
      cap_is = column (λ l. l.cap) ls caps d k c y;
      base_is = column (λ l. l.base) ls bases d k b z;
    }

pub returns : goal.returns
returns c = columns LAYOUTS (record { stride = 0; cap = 0; base = 0 }) c.args.k refl refl refl refl refl refl

-- The op names: as bytes, packed into words, and looked up.
use Rattle.std.specs.Prelude.{◌≡◌, true, false, List, [], ◌∷◌, map, ℕ, suc, ◌+◌, ◌*◌, ◌%◌, ◌<◌, length, get_or, take, drop, eqb, ℤ, pos, ◌-ℤ◌, ◌+ℤ◌, Option as CodeOption, Some, None}
use Rattle.std.proofs.Math.Option.{Option, none, some}
use Rattle.bytecode.specs.Lists.{tabulate}
use Rattle.std.proofs.Math.IntN.{ -ℤ-+ℤ_cancel}
use Rattle.definition.specs.Shapes.{same_places}
use Rattle.definition.specs.Format.{Bytes, bytes}
use Rattle.definition.specs.Instructions.{Instr, plain, shaped, jump, PopN, SetLocal, Call, NewFlat, NewBoxed, GetFlat, GetBoxed, GetIndex}
use Rattle.definition.specs.Ops.{Row as OpRow, ops, make_at}
use Rattle.definition.specs.Effects.{effect}
use Rattle.bytecode.specs.Meaning.{maxima_of}
use Rattle.bytecode.specs.declared.ops.Packed.{Packed}
use Rattle.bytecode.specs.declared.ops.row.Row.{Row}
use Rattle.bytecode.specs.declared.ops.rows.Op.{Op}

abbrev pub name_bytes : OpRow → Bytes
name_bytes r = bytes r.name

unfoldable pub names : List Bytes
names = map name_bytes ops

unfoldable pub name_at : ℕ → Bytes
name_at i = get_or names i []

-- The first row, from number n on, whose name the text is.
unfoldable pub lookup_from : ℕ → List Bytes → Bytes → Option ℕ
lookup_from n [] text = none
lookup_from n (b ∷ bs) text = elim (same_places b text) [ true ↦ some n | false ↦ lookup_from (suc n) bs text ]

unfoldable pub lookup : Bytes → Option ℕ
lookup text = lookup_from 0 names text

-- ── Packed ────────────────────────────────────────────────────────────────────────────────

-- the number that bytes write, the first lowest
unfoldable pub little : Bytes → ℕ
little [] = 0
little (b ∷ bs) = b + 256 * little bs

abbrev pub AllBytes : Bytes → Type 0
AllBytes [] = Unit {0}
AllBytes (b ∷ bs) = (b < 256) × AllBytes bs

-- the words of a text of at most 24 bytes
unfoldable pub words_of : Bytes → List ℕ
words_of text = little (take 8 text) ∷ little (take 8 (drop 8 text)) ∷ little (take 8 (drop 16 text)) ∷ []

-- and with them its length
unfoldable pub packed_of : Bytes → Packed
packed_of text = record { words = words_of text; length = length text }

-- what a text packs to
pub record Packs (text : Bytes) (p : Packed) : Type 0 where
  pub all : AllBytes text
  pub packed : p ≡ packed_of text

-- Where a name has its row: a number below 256 from its words, by which no two names are alike.
unfoldable pub place_of : ℕ → ℕ → ℕ → ℕ
place_of a b c = (a % 84571 + b % 84571 + c % 84571) % 256

unfoldable pub text_place : Bytes → ℕ
text_place text = place_of (little (take 8 text)) (little (take 8 (drop 8 text))) (little (take 8 (drop 16 text)))

-- For each place the row whose name has it; 0 where no name has it.
unfoldable pub index_of : ℕ → ℕ → List ℕ → ℕ
index_of i k [] = 0
index_of i k (n ∷ ns) = elim (eqb n k) [ true ↦ i | false ↦ index_of (suc i) k ns ]

unfoldable pub placing : List ℕ → List ℕ
placing ns = tabulate 0 256 (λ k. index_of 0 k ns)

unfoldable pub places : List ℕ
places = placing (map text_place names)

-- ── Plain names ───────────────────────────────────────────────────────────────────────────

-- need and pushed of a plain name, and nothing of any other
unfoldable pub plain_effect : Instr → ℕ × ℕ
plain_effect (plain p a) = effect p
plain_effect (shaped s) = (0, 0)
plain_effect (jump j) = (0, 0)
plain_effect (PopN n) = (0, 0)
plain_effect (SetLocal k) = (0, 0)
plain_effect (Call k n) = (0, 0)
plain_effect (NewFlat k n s) = (0, 0)
plain_effect (NewBoxed k n m) = (0, 0)
plain_effect (GetFlat o f) = (0, 0)
plain_effect (GetBoxed o n) = (0, 0)
plain_effect (GetIndex e) = (0, 0)

unfoldable pub effect_of : OpRow → ℕ × ℕ
effect_of r = plain_effect (make_at r.maxima r.make [])

unfoldable pub effect_at : ℕ → ℕ × ℕ
effect_at c = get_or (map effect_of ops) c (0, 0)

unfoldable pub plain_need : ℕ → ℕ
plain_need c = (effect_at c).0

unfoldable pub plain_net : ℕ → ℤ
plain_net c = pos (effect_at c).1 -ℤ pos (effect_at c).0

-- Need plus net is not negative: it is what is pushed.
pub balanced : (c : ℕ) → plain_net c +ℤ pos (plain_need c) ≡ pos (effect_at c).1
unfolding plain_net plain_need
balanced c = -ℤ-+ℤ_cancel (pos (effect_at c).1) (pos (effect_at c).0)

-- ── The table ─────────────────────────────────────────────────────────────────────────────

-- the largest numbers of three operands, 0 for those that there are not
unfoldable pub three : List ℕ → List ℕ
three ms = get_or ms 0 0 ∷ get_or ms 1 0 ∷ get_or ms 2 0 ∷ []

-- what the table says of a row
unfoldable pub told : ℕ → Op
told i =
    record {
      name = packed_of (name_at i);
      maxima = three (maxima_of i);
      operands = length (maxima_of i);
      need = plain_need i;
      net = plain_net i;
    }

-- the number of a row, where there is one
abbrev pub row_number : CodeOption Row → Option ℕ
row_number None = none
row_number (Some r) = some r.number

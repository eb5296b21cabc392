-- What the table says of each row, against the definitions: compared once for all rows.
use Rattle.std.specs.Prelude.{◌≡◌, refl, Bool, T, ltb, List, [], ◌∷◌, ℕ, zero, suc, ◌*◌, ◌<◌, ◌≤◌, length, get_or, take, drop}
use Rattle.std.proofs.Common.{ap, ◌∙◌, arith, ltb→lt}
use native.Mathlib.Nat.{zero-add}
use Rattle.definition.specs.Ops.{ops, row, make_at}
use Rattle.definition.specs.Effects.{effect}
use Rattle.bytecode.specs.Tables.{all_below, at_each}
use Rattle.bytecode.specs.Lists.{tabulate, tabulate-at}
use Rattle.bytecode.specs.Meaning.{maxima_of}
use Rattle.bytecode.specs.Operands.{row_of}
use Rattle.definition.specs.Format.{Bytes, bytes}
use Rattle.bytecode.specs.Names.{names, name_at, little, words_of, packed_of, plain_effect, effect_of, effect_at, plain_need, plain_net, three, told}
use Rattle.bytecode.specs.declared.ops.rows.Op.{Op}
use Rattle.bytecode.specs.declared.ops.rows.TheConstants.{OPS}

all_told : OPS ≡ tabulate 0 75 told
unfolding tabulate told three packed_of words_of little name_at names maxima_of plain_need plain_net effect_at effect_of plain_effect effect ops row make_at bytes
all_told = refl

pub op_is : (d : Op) (i : ℕ) → i < 75 → get_or OPS i d ≡ told i
op_is d i h = ap (λ (os : List Op). get_or os i d) all_told ∙ tabulate-at 0 75 told d i h ∙ ap told (zero-add i)

-- ── The operands ──────────────────────────────────────────────────────────────────────────

pub three_at : (ms : List ℕ) (j : ℕ) → j < 3 → get_or (three ms) j 0 ≡ get_or ms j 0
unfolding three
three_at ms zero h = refl
three_at ms (suc zero) h = refl
three_at ms (suc (suc zero)) h = refl
three_at ms (suc (suc (suc j))) h = absurd (omega arith)

pub three_all : (ms : List ℕ) → length ms ≤ 3 → take (length ms) (three ms) ≡ ms
unfolding three
three_all [] h = refl
three_all (m ∷ []) h = refl
three_all (m ∷ n ∷ []) h = refl
three_all (m ∷ n ∷ o ∷ []) h = refl
three_all (m ∷ n ∷ o ∷ p ∷ ms) h = absurd (omega arith)

pub three_long : (ms : List ℕ) → length (three ms) ≡ 3
unfolding three
three_long ms = refl

pub maxima_few : (i : ℕ) → i < 75 → length (maxima_of i) ≤ 3
unfolding maxima_of
maxima_few i h = let q = row_of i h in omega (arith, ap length q.maxima, q.short)

-- no operand has more than 32 bits
has_32_bits : ℕ → ℕ → Bool
has_32_bits j i = ltb (get_or (maxima_of i) j 0) 4294967296

all_small : T (all_below 3 (λ j. all_below 75 (has_32_bits j)))
unfolding all_below has_32_bits maxima_of ops row
all_small = tt

pub largest_small : (i j : ℕ) → i < 75 → j < 3 → get_or (maxima_of i) j 0 < 4294967296
unfolding has_32_bits
largest_small i j h l =
    ltb→lt (get_or (maxima_of i) j 0) 4294967296
    (at_each 75 (has_32_bits j) (at_each 3 (λ j. all_below 75 (has_32_bits j)) all_small j l) i h)

-- ── The words of a name ───────────────────────────────────────────────────────────────────

pub word_at : (text : Bytes) (k : ℕ) → k < 3 → get_or (words_of text) k 0 ≡ little (take 8 (drop (8 * k) text))
unfolding words_of
word_at text zero h = refl
word_at text (suc zero) h = refl
word_at text (suc (suc zero)) h = refl
word_at text (suc (suc (suc k))) h = absurd (omega arith)

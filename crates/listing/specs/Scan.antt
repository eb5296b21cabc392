-- Line forms as codes, and what reading by them gives: the values of a line as words.
-- A byte below 128 stands for itself. 128, 129 and 130 are a number of 8, 16 and 32 bits; 131 one of W, 132 one of A, 133 one of const's K,
-- 134 a K of 0 to 7, 135 a KIND of 0 to 3, 136 one of F; 140 is a shape, 141 any number of shapes.
use Rattle.std.specs.Prelude.{Bool, true, false, List, [], ◌∷◌, ◌++◌, map, ℕ, leb, ltb, eqb, length}
use Rattle.std.proofs.Math.Option.{Option, some}
use Rattle.definition.specs.Basics.{choose, is_member}
use Rattle.definition.specs.Format.{Bytes, bytes, Item, text, number, among, numbers, shape, shapes, Form, strip, number_at, shapes_at, shape_at, ◌and_then◌}
use Rattle.definition.specs.Read.{Line}
use Rattle.bytecode.specs.Held.{wire_word}

-- ── Codes ─────────────────────────────────────────────────────────────────────────────────

unfoldable pub max_code : ℕ → ℕ
max_code m = choose (eqb m 255) 128 (choose (eqb m 65535) 129 (choose (eqb m 4294967295) 130 (choose (eqb m 7) 134 135)))

unfoldable pub among_code : List ℕ → ℕ
among_code ns = choose (eqb (length ns) 8) 133 (choose (is_member 0 ns) 136 (choose (is_member 8 ns) 131 132))

unfoldable pub codes : List Item → List ℕ
codes [] = []
codes (text s ∷ is) = bytes s ++ codes is
codes (number m ∷ is) = max_code m ∷ codes is
codes (among ns ∷ is) = among_code ns ∷ codes is
codes (numbers ms ∷ is) = map max_code ms ++ codes is
codes (shape ∷ is) = 140 ∷ codes is
codes (shapes ∷ is) = 141 ∷ codes is

-- the numbers that a code admits
unfoldable pub admitted : ℕ → ℕ → Bool
admitted c n =
    elim (eqb c 131) [
      | true ↦ is_member n (1 ∷ 2 ∷ 4 ∷ 8 ∷ [])
      | false ↦
          elim (eqb c 132) [
            | true ↦ is_member n (3 ∷ 4 ∷ 5 ∷ 6 ∷ [])
            | false ↦
                elim (eqb c 133) [
                  | true ↦ is_member n (0 ∷ 1 ∷ 2 ∷ 3 ∷ 4 ∷ 5 ∷ 6 ∷ 255 ∷ [])
                  | false ↦
                      elim (eqb c 136) [
                        | true ↦ is_member n (0 ∷ 1 ∷ 2 ∷ 4 ∷ 8 ∷ [])
                        | false ↦
                            leb n (choose (eqb c 128) 255 (choose (eqb c 129) 65535 (choose (eqb c 130) 4294967295 (choose (eqb c 134) 7 3))))
                      ]
                ]
          ]
    ]

-- ── Reading by codes ──────────────────────────────────────────────────────────────────────

abbrev pub Words : Type 0
Words = Option (List ℕ × Bytes)

unfoldable pub no_word : Option Bytes → Words
no_word o = o and_then λ rest. some ([], rest)

unfoldable pub one : Option (ℕ × Bytes) → Words
one o = o and_then λ r. some (r.0 ∷ [], r.1)

-- a shape at the front, as its word
unfoldable pub shape_word : Bytes → Option (ℕ × Bytes)
shape_word bs = shape_at bs and_then λ r. some (wire_word r.0, r.1)

unfoldable pub shape_words : Bytes → Words
shape_words bs = shapes_at shape_at (length bs) bs and_then λ r. some (map wire_word r.0, r.1)

unfoldable pub item : ℕ → Bytes → Words
item c bs =
    elim (ltb c 128) [
      | true ↦ no_word (strip (c ∷ []) bs)
      | false ↦
          elim (eqb c 140) [
            | true ↦ one (shape_word bs)
            | false ↦
                elim (eqb c 141) [
                  | true ↦ shape_words bs
                  | false ↦
                      one (number_at (admitted c) bs)
                ]
          ]
    ]

unfoldable pub joined : List ℕ → Words → Words
joined a o = o and_then λ q. some (a ++ q.0, q.1)

unfoldable pub then_words : Words → (Bytes → Words) → Words
then_words o k = o and_then λ r. joined r.0 (k r.1)

unfoldable pub scan : List ℕ → Bytes → Words
scan [] bs = some ([], bs)
scan (c ∷ cs) bs = then_words (item c bs) (scan cs)

-- ── The forms ─────────────────────────────────────────────────────────────────────────────

unfoldable pub form_codes : List (Form Line) → List (List ℕ)
form_codes [] = []
form_codes (f ∷ fs) = codes f.items ∷ form_codes fs

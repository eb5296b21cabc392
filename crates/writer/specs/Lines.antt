-- Each line that is written: it is there exactly where the row's words in use are those of the entry that they mean, and a listing may say that entry; and it
-- is the entry's line.
use Rattle.std.specs.Prelude.{◌≡◌, refl, Bool, true, false, ◌&&◌, ◌||◌, List, [], ◌∷◌, ◌++◌, map, ℕ, zero, suc, ◌/◌, ◌%◌, ◌≤◌, max, T, leb, ltb, eqb, get_or, drop}
use Rattle.std.proofs.Common.{sym, ap, ◌∙◌, subst, append-nil, arith, le-leb, leb-true, eqb-true, eq-eqb}
use Rattle.std.proofs.Math.Option.{Option, some}
use Rattle.std.specs.Float.Ieee.Fits.{and_l, and_r}
use Rattle.definition.specs.Basics.{choose, is_member}
use Rattle.definition.specs.Format.{Bytes, bytes, Item, text, number, among, numbers, shape, shapes}
use Rattle.definition.specs.Read.{Line, line_forms}
use Rattle.definition.specs.Write.{spaced, all_written, render, all_pass, admits, at_shape, shape_text, is_shape, line_text, is_line}
use Rattle.theorems.specs.Cover.{no_false, and_true}
use Rattle.theorems.specs.Rendered.{Values, at_values, text_of, render_is, held, admits_is}
use Rattle.bytecode.specs.Lists.{limited, limited-same, limited_le, All}
use Rattle.bytecode.specs.Held.{wire_word}
use Rattle.bytecode.specs.Meaning.{wire_of, word_wire}
use Rattle.listing.specs.Scan.{max_code, among_code, codes, admitted, form_codes}
use Rattle.listing.specs.Agree.{as_words, ascii, known_max, Known}
use Rattle.writer.specs.Put.{joined, joined_nothing, joined-joined}
use Rattle.writer.specs.Say.{number_said, shape_said, value_said, first_said, shapes_said, say, form_said}
use Rattle.writer.specs.Texts.{Says, says_as, says_by, says_some, says_provided, says_both, says_after}

-- ── What words mean as the values of items ────────────────────────────────────────────────

unfoldable pub largest : List ℕ → ℕ
largest [] = 0
largest (n ∷ ns) = max n (largest ns)

-- each cut to the largest number that its item admits; no line but an op's has `numbers`
unfoldable pub meant : (is : List Item) → List ℕ → Values is
meant [] ws = tt
meant (text s ∷ is) ws = meant is ws
meant (number m ∷ is) ws = (limited m (get_or ws 0 0), meant is (drop 1 ws))
meant (among ns ∷ is) ws = (limited (largest ns) (get_or ws 0 0), meant is (drop 1 ws))
meant (numbers ms ∷ is) ws = ([], meant is ws)
meant (shape ∷ is) ws = (word_wire (get_or ws 0 0), meant is (drop 1 ws))
meant (shapes ∷ is) ws = (map word_wire ws, meant is [])

-- as many words as the items have values
abbrev pub Enough : List Item → List ℕ → Type 0
Enough [] [] = Unit {0}
Enough [] (w ∷ ws) = ⊥
Enough (text s ∷ is) ws = Enough is ws
Enough (number m ∷ is) [] = ⊥
Enough (number m ∷ is) (w ∷ ws) = Enough is ws
Enough (among ns ∷ is) [] = ⊥
Enough (among ns ∷ is) (w ∷ ws) = Enough is ws
Enough (numbers ms ∷ is) ws = ⊥
Enough (shape ∷ is) [] = ⊥
Enough (shape ∷ is) (w ∷ ws) = Enough is ws
Enough (shapes ∷ is) ws = Enough is []

-- ── Tests ─────────────────────────────────────────────────────────────────────────────────

pub true_of : (b : Bool) → T b → b ≡ true
true_of true t = refl
true_of false t = absurd t

pub and_of : {a b : Bool} → a ≡ true → b ≡ true → a && b ≡ true
and_of {a} {b} p q = rw (p, q)

-- ── Codes of numbers ──────────────────────────────────────────────────────────────────────

-- a code of one number: no letter, and none of shapes
record Plain (c : ℕ) : Type 0 where
  no_letter : ltb c 128 ≡ false
  no_shape : eqb c 140 ≡ false
  no_shapes : eqb c 141 ≡ false

plain_choose : (b : Bool) (c d : ℕ) → Plain c → Plain d → Plain (choose b c d)
unfolding choose
plain_choose true c d p q = p
plain_choose false c d p q = q

plain : (c : ℕ) → ltb c 128 ≡ false → eqb c 140 ≡ false → eqb c 141 ≡ false → Plain c
plain c a b d = record { no_letter = a; no_shape = b; no_shapes = d }

max_plain : (m : ℕ) → Plain (max_code m)
unfolding max_code
max_plain m =
    plain_choose _ _ _ (plain 128 refl refl refl)
    (plain_choose _ _ _ (plain 129 refl refl refl)
    (plain_choose _ _ _ (plain 130 refl refl refl)
    (plain_choose _ _ _ (plain 134 refl refl refl) (plain 135 refl refl refl))))

among_plain : (ns : List ℕ) → Plain (among_code ns)
unfolding among_code
among_plain ns =
    plain_choose _ _ _ (plain 133 refl refl refl)
    (plain_choose _ _ _ (plain 136 refl refl refl) (plain_choose _ _ _ (plain 131 refl refl refl) (plain 132 refl refl refl)))

at_member : (P : ℕ → Type 0) (ys : List ℕ) → All P ys → (x : ℕ) → is_member x ys ≡ true → P x
unfolding is_member
at_member P [] ps x e = absurd (no_false e)
at_member P (y ∷ ys) ps x e = go (eqb x y) refl e (at_member P ys ps.1 x)
  where
    go : (b : Bool) → eqb x y ≡ b → b || is_member x ys ≡ true → (is_member x ys ≡ true → P x) → P x
    go true d e h = subst P (sym (eqb-true x y d)) ps.0
    go false d e h = h e

pub max_admits : (m : ℕ) → T (known_max m) → (w : ℕ) → admitted (max_code m) w ≡ leb w m
unfolding known_max admitted max_code choose
max_admits m t w =
    at_member (λ (n : ℕ). admitted (max_code n) w ≡ leb w n) (3 ∷ 7 ∷ 255 ∷ 65535 ∷ 4294967295 ∷ []) (refl, (refl, (refl, (refl, (refl, tt))))) m
    (true_of (known_max m) t)

all_low : (b : ℕ) (ns : List ℕ) → largest ns ≤ b → All (λ (n : ℕ). n ≤ b) ns
unfolding largest
all_low b [] h = tt
all_low b (n ∷ ns) h = (omega arith, all_low b ns (omega arith))

member_low : (ns : List ℕ) (x : ℕ) → is_member x ns ≡ true → x ≤ largest ns
member_low ns x e = at_member (λ (n : ℕ). n ≤ largest ns) ns (all_low (largest ns) ns (omega arith)) x e

-- ── One value ─────────────────────────────────────────────────────────────────────────────

-- a number that its code admits by a test, which holds of no number above b
pub by_test : (c b w : ℕ) (test : ℕ → Bool) → ((x : ℕ) → test x ≡ true → x ≤ b) → admitted c w ≡ test w →
    Says (number_said c w) ((w ≡ limited b w) × (test (limited b w) ≡ true)) (spaced (limited b w))
unfolding number_said
by_test c b w test low e =
    says_as (says_provided (admitted c w) (spaced w))
    (λ h.
    let q : w ≡ limited b w = sym (limited-same b w (low w (sym e ∙ h))) in
    ((q, ap test (sym q) ∙ sym e ∙ h), ap spaced q))
    (λ h. e ∙ ap test h.0 ∙ h.1)

wire_shape : (j k n : ℕ) → k ≤ 255 → n ≤ 4294967295 → is_shape (wire_of j k n) ≡ true
unfolding is_shape at_shape admits wire_of
wire_shape zero k n a b = refl
wire_shape (suc zero) k n a b = le-leb k 255 a
wire_shape (suc (suc zero)) k n a b = rw (le-leb k 255 a, le-leb n 4294967295 b)
wire_shape (suc (suc (suc j))) k n a b = refl

-- each word means a shape that a listing may say
all_shapes : (w : ℕ) → is_shape (word_wire w) ≡ true
unfolding word_wire
all_shapes w = wire_shape (w % 4) (w / 4 % 256) (limited 4294967295 (w / 1024)) (omega arith) (limited_le 4294967295 (w / 1024))

shape_says : (w : ℕ) → Says (shape_said w) ((w ≡ wire_word (word_wire w)) × (is_shape (word_wire w) ≡ true)) (shape_text (word_wire w))
unfolding shape_said
shape_says w =
    says_as (says_provided (eqb w (wire_word (word_wire w))) (shape_text (word_wire w)))
    (λ h. ((eqb-true w (wire_word (word_wire w)) h, all_shapes w), refl)) (λ h. eq-eqb w (wire_word (word_wire w)) h.0)

-- ── Values in a row ───────────────────────────────────────────────────────────────────────

pub head_same : {v w : ℕ} {vs ws : List ℕ} → w ∷ ws ≡ v ∷ vs → w ≡ v
head_same e = ap (λ (l : List ℕ). get_or l 0 0) e

pub rest-same : {v w : ℕ} {vs ws : List ℕ} → w ∷ ws ≡ v ∷ vs → ws ≡ vs
rest-same e = ap (λ (l : List ℕ). drop 1 l) e

pub both_same : {v w : ℕ} {vs ws : List ℕ} → w ≡ v → ws ≡ vs → w ∷ ws ≡ v ∷ vs
both_same {v} {w} {vs} {ws} p q = rw (p, q)

pub more_says : {o p : Option Bytes} {x y : Bytes} (w v : ℕ) (ws vs : List ℕ) (a b : Bool) → Says o ((w ≡ v) × (a ≡ true)) x →
    Says p ((ws ≡ vs) × (b ≡ true)) y → Says (joined o p) ((w ∷ ws ≡ v ∷ vs) × (a && b ≡ true)) (x ++ y)
more_says w v ws vs a b s r =
    says_as (says_both s r) (λ h. ((both_same h.0.0 h.1.0, and_of h.0.1 h.1.1), refl))
    (λ h. let q = and_true a b h.1 in ((head_same h.0, q.0), (rest-same h.0, q.1)))

shapes_say : (ws : List ℕ) → Says (shapes_said ws) ((ws ≡ map wire_word (map word_wire ws)) × (all_pass is_shape (map word_wire ws) ≡ true)) (all_written shape_text (map word_wire ws))
unfolding shapes_said all_pass all_written
shapes_say [] = says_as (says_some []) (λ u. ((refl, refl), refl)) (λ u. tt)
shapes_say (w ∷ ws) =
    more_says w (wire_word (word_wire w)) ws (map wire_word (map word_wire ws)) (is_shape (word_wire w)) (all_pass is_shape (map word_wire ws)) (shape_says w) (shapes_say ws)

-- ── Items ─────────────────────────────────────────────────────────────────────────────────

text_said : (a cs ws : List ℕ) → T (ascii a) → say (a ++ cs) ws ≡ joined (some a) (say cs ws)
unfolding ascii say joined
text_said [] cs ws t = sym (joined_nothing (say cs ws))
text_said (c ∷ a) cs ws t =
    let l : ltb c 128 ≡ true = true_of (ltb c 128) (and_l (ltb c 128) (ascii a) t) in
    rw (say, l)
    (ap (joined (some (c ∷ []))) (text_said a cs ws (and_r (ltb c 128) (ascii a) t))
    ∙ sym (joined-joined (some (c ∷ [])) (some a) (say cs ws)))

value_plain : (c w : ℕ) → Plain c → value_said c w ≡ number_said c w
unfolding value_said
value_plain c w p = rw (value_said, p.no_shape, p.no_shapes)

number_coded : (c w : ℕ) (cs ws : List ℕ) → Plain c → say (c ∷ cs) (w ∷ ws) ≡ joined (number_said c w) (say cs ws)
unfolding say first_said
number_coded c w cs ws p = rw (say, p.no_letter, p.no_shapes) (ap (λ (o : Option Bytes). joined o (say cs ws)) (value_plain c w p))

-- items that are left have no value
none_left : (is : List Item) → Enough is [] → as_words is (meant is []) ≡ []
unfolding as_words meant
none_left [] e = refl
none_left (text s ∷ is) e = none_left is e
none_left (number m ∷ is) e = absurd e
none_left (among ns ∷ is) e = absurd e
none_left (numbers ms ∷ is) e = absurd e
none_left (shape ∷ is) e = absurd e
none_left (shapes ∷ is) e = none_left is e

-- What the codes of items say of words.
items_say : (is : List Item) (ws : List ℕ) → Known is → Enough is ws →
    Says (say (codes is) ws) ((ws ≡ as_words is (meant is ws)) × (held is_shape is (meant is ws) ≡ true)) (text_of shape_text is (meant is ws))
unfolding Known codes say first_said value_said meant as_words held text_of
items_say [] [] k e = says_as (says_some []) (λ u. ((refl, refl), refl)) (λ u. tt)
items_say [] (w ∷ ws) k e = absurd e
items_say (text s ∷ is) ws k e = says_by (text_said (bytes s) (codes is) ws k.0) (says_after (bytes s) (items_say is ws k.1 e))
items_say (number m ∷ is) [] k e = absurd e
items_say (number m ∷ is) (w ∷ ws) k e =
    says_by (number_coded (max_code m) w (codes is) ws (max_plain m))
    (more_says w _ ws _ _ _ (by_test (max_code m) m w (λ n. leb n m) (λ x h. leb-true x m h) (max_admits m k.0 w)) (items_say is ws k.1 e))
items_say (among ns ∷ is) [] k e = absurd e
items_say (among ns ∷ is) (w ∷ ws) k e =
    says_by (number_coded (among_code ns) w (codes is) ws (among_plain ns))
    (more_says w _ ws _ _ _ (by_test (among_code ns) (largest ns) w (λ n. is_member n ns) (member_low ns) (k.0 w)) (items_say is ws k.2 e))
items_say (numbers ms ∷ is) ws k e = absurd e
items_say (shape ∷ is) [] k e = absurd e
items_say (shape ∷ is) (w ∷ ws) k e = more_says w _ ws _ _ _ (shape_says w) (items_say is ws k e)
items_say (shapes ∷ is) ws k e =
    let z = none_left is e in
    says_as (says_both (shapes_say ws) (items_say is [] k e))
    (λ h. ((h.0.0 ∙ sym (append-nil _) ∙ ap (λ (l : List ℕ). map wire_word (map word_wire ws) ++ l) (sym z), and_of h.0.1 h.1.1), refl))
    (λ h.
    let q = and_true (all_pass is_shape (map word_wire ws)) (held is_shape is (meant is [])) h.1 in
    ((h.0 ∙ ap (λ (l : List ℕ). map wire_word (map word_wire ws) ++ l) z ∙ append-nil _, q.0), (sym z, q.1)))

-- A line by its form's number, its items and what they say at these words.
pub form_says : (f : ℕ) (is : List Item) (ws : List ℕ) (l : Line) → get_or (form_codes line_forms) f [] ≡ codes is → Known is → Enough is ws →
    at_values is (render shape_text [] is) (meant is ws) ≡ line_text l → at_values is (admits is_shape true is) (meant is ws) ≡ is_line l →
    Says (form_said (some f) ws) ((ws ≡ as_words is (meant is ws)) × (is_line l ≡ true)) (line_text l ++ (10 ∷ []))
unfolding form_said
form_says f is ws l c k e x y =
    says_by (rw (form_said, c))
    (says_as (says_both (items_say is ws k e) (says_some (10 ∷ [])))
    (λ h. (
      (h.0.0, sym y ∙ admits_is is_shape true is (meant is ws) ∙ h.0.1),
      ap (λ (z : Bytes). z ++ (10 ∷ [])) (sym (render_is shape_text [] is (meant is ws)) ∙ x),
    ))
    (λ h. ((h.0, sym (admits_is is_shape true is (meant is ws)) ∙ y ∙ h.1), tt)))

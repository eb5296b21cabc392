-- Laws of the tests.
use Rattle.std.proofs.Common.{◌≡◌, refl, ◌∙◌, ℕ, Bool, true, false, List, [], ◌++◌, map, replicate, ◌∷◌, ◌||◌, length, eqb, suc, add-one, ◌+◌, ◌*◌, ◌-◌, ◌≤◌, ◌<◌, Option as Maybe, Some, None, arith}
use borrow.Author.Tests.{ne_eqb, le-leb, lt-leb}
use Rattle.std.proofs.Math.ListN.{length-map, length-take}
use Rattle.std.proofs.Math.Option.{none, some}
use Rattle.definition.specs.Basics.{first, unless, is_member, saturating_add}
use Rattle.definition.specs.Tests.{enum_test, places_test, text_elements}
use Rattle.definition.specs.Shapes.{scalar}
use Rattle.definition.specs.Effects.{Pushed, shape_of, with_flag}
use Rattle.shapes.specs.Model.{list_of, places_of}
use Rattle.shapes.specs.declared.places.Places.{Places}
use mir.Val.{bool_byte}
use Rattle.bytecode.specs.Lists.{tabulate, tabulate-length}
use Rattle.bytecode.specs.Meaning.{count, enum_at, enums_of, enum_sizes_of, table_header}

-- the sizes of a module's enums are as many as its enums
pub sizes_length : (t : List ℕ) → length (enum_sizes_of t) ≡ count t 4
unfolding enum_sizes_of enums_of
sizes_length t = length-map (tabulate 0 (count t 4) (enum_at t)) (saturating_add (table_header t).word) ∙ tabulate-length 0 (count t 4) (enum_at t)

-- a size that some enum has passes, and each where there is no enum
pub enum_decided : (ip size : ℕ) (l : List ℕ) → enum_test ip size l ≡ unless (eqb (length l) 0 || is_member size l) (17 ∷ ip ∷ size ∷ [])
unfolding enum_test unless
enum_decided ip size [] = refl
enum_decided ip size (x ∷ l) = rw (ne_eqb (suc (length l)) 0 (λ e. omega arith))

-- a native call's flag, as the code counts it
pub flagged : (b : Bool) (p : Pushed) → replicate (bool_byte b) (scalar 3) ++ (shape_of p ∷ []) ≡ map shape_of (with_flag b p)
unfolding with_flag shape_of
flagged true p = refl
flagged false p = refl

-- places that a value holds are at most sixteen
pub few_places : (ip : ℕ) (places : Maybe Places) → places_test ip (places_of places) ≡ none
unfolding places_test places_of unless
few_places ip None = refl
few_places ip (Some p) = let few : p.count ≤ 16 = p.padded.few in rw (le-leb (length (list_of p)) 16 (omega (arith, length-take p.count p.at)))

pub many_places : (ip : ℕ) (l : List ℕ) → 16 < length l → places_test ip (some l) ≡ some (2 ∷ ip ∷ 6 ∷ [])
unfolding places_test unless
many_places ip l h = rw (lt-leb (length l) 16 h)

-- the elements from one on, where there is one: it, and those after it
pub elements_next : (ip w i n : ℕ) (os : List ℕ) → i < n
    → text_elements ip w i (n - i) os ≡ first (unless (is_member (i * w) os) (9 ∷ ip ∷ i * w ∷ [])) (text_elements ip w (i + 1) (n - (i + 1)) os)
unfolding text_elements
elements_next ip w i n os h = let e : n - i ≡ suc (n - (i + 1)) = omega arith in rw (e, add-one i)

pub elements_end : (ip w i n : ℕ) (os : List ℕ) → n ≤ i → text_elements ip w i (n - i) os ≡ none
unfolding text_elements
elements_end ip w i n os h = let e : n - i ≡ 0 = omega arith in rw e

-- 02, S-1: kinds that a module lacks.
use Rattle.std.specs.Prelude.{◌≡◌, Bool, true, false, not, ◌&&◌, List, [], ◌∷◌, map, ◌≢◌, ℕ, zero, suc, eqb, length, get_or}
use Rattle.std.proofs.Math.Path.{refl}
use Rattle.std.proofs.Common.{sym, ap, ◌∙◌, subst, arith, ne_eqb}
use Rattle.std.proofs.Math.Option.{Option, none, some}
use Rattle.std.proofs.Math.ListN.{get_elem?}
use Rattle.definition.specs.Basics.{choose}
use Rattle.definition.specs.Shapes.{scalar_widths, is_lacking, Wire, top, scalar_w, flat_w, top_if, known_wire}
use Rattle.definition.specs.Instructions.{Sig, Instr, Chunk}
use Rattle.definition.specs.Ops.{Makes, Row, row, ops, Op, make_at, instr_of, instr, named_kind, has_kind}
use Rattle.definition.specs.Module.{Code, Header, Module, address_bytes, no_sig, known_sig, known_const, under_check}
use Rattle.definition.specs.Layout.{unless_lacking, scalar_bytes}
use Rattle.theorems.specs.Cover.{no_some}

-- ── A module with floats ──────────────────────────────────────────────────────────────────

-- a chunk that the walk takes has the shapes and constants of the listing
pub record AsListed (m : Module) (k : ℕ) (c : Code) (u : Chunk) : Type 0 where
  pub natives : u.natives ≡ m.natives
  pub sigs : u.sigs ≡ m.sigs
  pub sig : u.sig ≡ get_or m.sigs k no_sig
  pub consts : u.consts ≡ c.consts

-- Where a float has bytes no kind is lacking, and every shape and constant of the walk is that of the listing.
pub record WithFloats (float : ℕ) : Type 0 where
  pub kinds : (k : ℕ) → is_lacking float k ≡ false
  pub wires : (w : Wire) → known_wire float w ≡ w
  pub sigs : (g : Sig) → known_sig float g ≡ g
  pub consts : (k : ℕ) → known_const float k ≡ k
  pub sizes : (h : Header) (k : ℕ) → h.float ≡ float → scalar_bytes h k ≡ get_elem? (scalar_widths h.word float (address_bytes h)) k
  pub ops : (i : Instr) → has_kind float (named_kind i) ≡ true
  pub chunks : (m : Module) (k base : ℕ) (c : Code) → m.header.float ≡ float → AsListed m k c (under_check m k base c)

map_same : {A : Type 0} {f : A → A} → ((a : A) → f a ≡ a) → (xs : List A) → map f xs ≡ xs
map_same h [] = refl
map_same h (x ∷ xs) = rw (h x, map_same h xs)

module _ (float : ℕ) (n : float ≢ 0) where
  no_kind : (k : ℕ) → is_lacking float k ≡ false
  unfolding is_lacking
  no_kind k = rw (ne_eqb float 0 n)

  same_wire : (w : Wire) → known_wire float w ≡ w
  unfolding known_wire top_if
  same_wire top = refl
  same_wire (scalar_w k) = rw (no_kind k)
  same_wire (flat_w k s) = refl

  same_sig : (g : Sig) → known_sig float g ≡ g
  unfolding known_sig
  same_sig g = rw (same_wire g.ret, same_wire g.resume, map_same same_wire g.params)

  same_const : (k : ℕ) → known_const float k ≡ k
  unfolding known_const choose
  same_const k = rw (no_kind k)

  same_size : (h : Header) (k : ℕ) → h.float ≡ float → scalar_bytes h k ≡ get_elem? (scalar_widths h.word float (address_bytes h)) k
  unfolding scalar_bytes unless_lacking
  same_size h k e = rw (e, no_kind k)

  no_op : (o : Option ℕ) → has_kind float o ≡ true
  unfolding has_kind
  no_op none = refl
  no_op (some k) = rw (no_kind k)

  same_chunk : (m : Module) (k base : ℕ) (c : Code) → m.header.float ≡ float → AsListed m k c (under_check m k base c)
  unfolding under_check
  same_chunk m k base c e =
      record {
        natives = rw e (map_same same_wire m.natives);
        sigs = rw e (map_same same_sig m.sigs);
        sig = rw e (same_sig (get_or m.sigs k no_sig));
        consts = rw e (map_same same_const c.consts);
      }

  pub with_floats : WithFloats float
  with_floats =
      record { kinds = no_kind; wires = same_wire; sigs = same_sig; consts = same_const; sizes = same_size; ops = λ i. no_op (named_kind i); chunks = same_chunk }

-- ── Ops that name a kind ──────────────────────────────────────────────────────────────────

-- "An op naming it is a bad line", by the maxima of a row: K is the operand whose largest number is 7, so a reader that has the maxima at hand tests
-- the operands by them. No K among the operands is of a kind that is lacking where a float has so many bytes.
unfoldable pub has_kinds : ℕ → List ℕ → List ℕ → Bool
has_kinds float [] ns = true
has_kinds float (m ∷ ms) [] = true
has_kinds float (m ∷ ms) (n ∷ ns) = not (eqb m 7 && is_lacking float n) && has_kinds float ms ns

-- what a row makes names a kind that the module has exactly when b holds of the operands before, and the rest are so
abbrev Rule : ℕ → (ms : List ℕ) → Makes ms → Bool → Type 0
Rule float [] i b = has_kind float (named_kind i) ≡ b
Rule float (m ∷ ms) f b = (a : ℕ) → Rule float ms (f a) (b && not (eqb m 7 && is_lacking float a))

abbrev Rules : ℕ → List Row → Type 0
Rules float [] = Unit {0}
Rules float (r ∷ rs) = Rule float r.maxima r.make true × Rules float rs

and_end : (b : Bool) → b ≡ b && true
and_end true = refl
and_end false = refl

and_assoc : (a b c : Bool) → (a && b) && c ≡ a && (b && c)
and_assoc true b c = refl
and_assoc false b c = refl

by_rule : (float : ℕ) (ms : List ℕ) (f : Makes ms) (b : Bool) (ns : List ℕ) → Rule float ms f b → length ns ≡ length ms →
    has_kind float (named_kind (make_at ms f ns)) ≡ b && has_kinds float ms ns
unfolding make_at has_kinds
by_rule float [] f b ns h e = h ∙ and_end b
by_rule float (m ∷ ms) f b [] h e = absurd (omega arith)
by_rule float (m ∷ ms) f b (n ∷ ns) h e =
    by_rule float ms (f n) (b && not (eqb m 7 && is_lacking float n)) ns (h n) (omega arith)
    ∙ and_assoc b (not (eqb m 7 && is_lacking float n)) (has_kinds float ms ns)

infixr 10 ◌&◌
-- one row's rule before those of others
◌&◌ : {A B : Type 0} → A → B → A × B
a & b = (a, b)

-- each row, in order
all_rules : (float : ℕ) → Rules float ops
unfolding ops row named_kind has_kind
all_rules float =
    (λ a. refl) & (λ a. refl) & (λ a. refl) & (λ a. refl) & refl & (λ a. refl) & (λ a. refl) & (λ a b. refl) & (λ a b. refl) &
    (λ a. refl) & (λ a. refl) & (λ a b. refl) & refl & refl & refl & refl & refl & refl & refl & refl & refl & refl & refl & refl & refl &
    refl & refl & (λ a. refl) & refl & refl & refl & refl & refl & refl & (λ a. refl) & (λ a. refl) & (λ a b. refl) & (λ a b c. refl) &
    (λ a. refl) & (λ a b. refl) & (λ a b c. refl) & (λ a. refl) & (λ a b. refl) & (λ a b c. refl) & (λ a. refl) & refl & refl &
    (λ a b c. refl) & (λ a. refl) & (λ a b. refl) & (λ a b. refl) & (λ a b. refl) & (λ a b c. refl) & (λ a b c. refl) & refl & refl &
    (λ a. refl) & refl & refl & refl & (λ a. refl) & (λ a. refl) & refl & (λ a. refl) & (λ a. refl) & (λ a. refl) & (λ a. refl) &
    (λ a. refl) & refl & (λ a. refl) & (λ a. refl) & (λ a. refl) & refl & refl & refl & tt

rule_at : (float : ℕ) (rs : List Row) (k : ℕ) (r : Row) → Rules float rs → get_elem? rs k ≡ some r → Rule float r.maxima r.make true
rule_at float [] k r e h = absurd (no_some (sym h))
rule_at float (q ∷ rs) zero r e h = subst (λ (z : Row). Rule float z.maxima z.make true) (let z : q ≡ r = cc in z) e.0
rule_at float (q ∷ rs) (suc k) r e h = rule_at float rs k r e.1 h

-- An op that has as many operands as its row names a lacking kind exactly when one of its K does.
pub kinds_by_maxima : (float : ℕ) (o : Op) (r : Row) → get_elem? ops o.code ≡ some r → length o.operands ≡ length r.maxima →
    has_kind float (named_kind (instr o)) ≡ has_kinds float r.maxima o.operands
unfolding instr instr_of
kinds_by_maxima float o r e l =
    ap (λ (q : Option Row). has_kind float (named_kind (instr_of q o.operands))) e
    ∙ by_rule float r.maxima r.make true o.operands (rule_at float ops o.code r (all_rules float) e) l

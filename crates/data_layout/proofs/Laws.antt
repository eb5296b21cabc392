-- Laws for the proofs of the code, on plain variables. Assumes nothing.
use Rattle.std.proofs.Common.{◌≡◌, refl, sym, ap, ◌∙◌, Bool, true, false, cond, List, [], ◌∷◌, ℕ, zero, suc, ◌+◌, ◌-◌, ◌≤◌, ◌<◌, arith, add-one, le-leb, leb-true, leb-false, leb}
use Rattle.std.proofs.Common.{length, get_or, Option as Maybe, Some, None, Result as Outcome, Ok}
use Rattle.std.proofs.Math.Option.{Option, none, some}
use Rattle.std.proofs.Math.ListN.{get_elem?}
use Rattle.std.proofs.lemmas.Bool.{lt-leb}
use Rattle.std.specs.Option.{is_some, IfSome}
use Rattle.std.specs.List.{range_with_len, filter, prefix_len}
use Rattle.definition.specs.Basics.{first}
use Rattle.definition.specs.Shapes.{scalar_widths, is_lacking}
use Rattle.definition.specs.Module.{Slot, shared, private, Private, Header, address_bytes}
use Rattle.definition.specs.Layout.{shared_prefix, shared_count, unless_lacking, scalar_bytes, if_composite, shared_size, shared_fits, shared_test}
use Rattle.definition.specs.Layout.{entry_test, order_test, private_test}
use Rattle.bytecode.specs.Lists.{maybe, tabulate, tabulate-length}
use Rattle.bytecode.specs.Meaning.{count, table_header, slot_at, slot_of, shared_at, private_at, slots_of, shareds_of, privates_of}
use Rattle.bytecode.specs.Parts.{header_of, WidthsOf, shared_of, private_of}
use Rattle.bytecode.specs.declared.Header.{Header as CodeHeader}
use Rattle.bytecode.specs.declared.SharedEntry.{SharedEntry}
use Rattle.bytecode.specs.declared.PrivateEntry.{PrivateEntry}
use Rattle.value_layout.specs.Sizes.{width_of}
use Rattle.value_layout.specs.declared.Widths.{Widths}
use Rattle.answer.specs.declared.Refusal.{Refusal}
use Rattle.answer.specs.Answer.{found_in_none}
use Rattle.data_layout.specs.Answer.{before_of}

-- ── The rows of a table that are left ─────────────────────────────────────────────────────

unfoldable pub rest : {A : Type 0} → (ℕ → A) → ℕ → ℕ → List A
rest f n i = tabulate i (n - i) f

module _ {A : Type 0} (f : ℕ → A) (n : ℕ) where
  pub rest_all : tabulate 0 n f ≡ rest f n 0
  unfolding rest
  rest_all = ap (λ (m : ℕ). tabulate 0 m f) (let z : n ≡ n - 0 = omega arith in z)

  module _ (i : ℕ) where
    pub rest_next : i < n → rest f n i ≡ f i ∷ rest f n (suc i)
    unfolding rest tabulate
    rest_next l = let z : n - i ≡ suc (n - suc i) = omega arith in rw (z, tabulate)

    pub rest_none : n ≤ i → rest f n i ≡ []
    unfolding rest tabulate
    rest_none l = let z : n - i ≡ 0 = omega arith in rw (z, tabulate)

-- ── 19 ────────────────────────────────────────────────────────────────────────────────────

abbrev pub is_shared : Slot → Bool
is_shared shared = true
is_shared private = false

pub shared_is : (b : Bool) (s : Slot) → slot_of b ≡ s → b ≡ is_shared s
unfolding slot_of
shared_is true s e = ap is_shared e
shared_is false s e = ap is_shared e

module _ (t : List ℕ) where
  -- whether slot i is shared
  abbrev pub shares : ℕ → Bool
  shares i = is_shared (slot_at t i)

  count_step : (s : Slot) (ss : List Slot) → shared_count (s ∷ ss) ≡ cond (is_shared s) (suc (shared_count ss)) (shared_count ss)
  unfolding shared_count
  count_step shared ss = refl
  count_step private ss = refl

  prefix_step : (s : Slot) (ss : List Slot) → shared_prefix (s ∷ ss) ≡ cond (is_shared s) (suc (shared_prefix ss)) 0
  unfolding shared_prefix
  prefix_step shared ss = refl
  prefix_step private ss = refl

  length-cond : {A : Type 0} (b : Bool) (xs ys : List A) → length (cond b xs ys) ≡ cond b (length xs) (length ys)
  length-cond true xs ys = refl
  length-cond false xs ys = refl

  counted_from : (k n : ℕ) → length (filter shares (range_with_len k n)) ≡ shared_count (tabulate k n (slot_at t))
  unfolding tabulate shared_count
  counted_from k zero = refl
  counted_from k (suc n) =
      let h : length (filter shares (range_with_len (k + 1) n)) ≡ shared_count (tabulate (suc k) n (slot_at t)) = rw add-one (counted_from (suc k) n) in
      rw (count_step (slot_at t k) (tabulate (suc k) n (slot_at t)), length-cond (shares k)) (rw h refl)

  prefix_from : (k n : ℕ) → prefix_len shares (range_with_len k n) ≡ shared_prefix (tabulate k n (slot_at t))
  unfolding tabulate shared_prefix
  prefix_from k zero = refl
  prefix_from k (suc n) =
      let h : prefix_len shares (range_with_len (k + 1) n) ≡ shared_prefix (tabulate (suc k) n (slot_at t)) = rw add-one (prefix_from (suc k) n) in
      let z : 1 + shared_prefix (tabulate (suc k) n (slot_at t)) ≡ suc (shared_prefix (tabulate (suc k) n (slot_at t))) = omega arith in
      rw (prefix_step (slot_at t k) (tabulate (suc k) n (slot_at t)), h, z)

  pub counted : (n : ℕ) → n ≡ count t 1 → length (filter shares (range_with_len 0 n)) ≡ shared_count (slots_of t)
  unfolding slots_of
  counted n e = rw e (counted_from 0 (count t 1))

  pub prefixed : (n : ℕ) → n ≡ count t 1 → prefix_len shares (range_with_len 0 n) ≡ shared_prefix (slots_of t)
  unfolding slots_of
  prefixed n e = rw e (prefix_from 0 (count t 1))

  pub entries_are : length (shareds_of t) ≡ count t 2
  unfolding shareds_of
  entries_are = tabulate-length 0 (count t 2) (shared_at t)

  pub slots_are : length (slots_of t) ≡ count t 1
  unfolding slots_of
  slots_are = tabulate-length 0 (count t 1) (slot_at t)

-- ── 16 ────────────────────────────────────────────────────────────────────────────────────

some_at : (l : List ℕ) (k : ℕ) → k < length l → get_elem? l k ≡ some (get_or l k 0)
some_at [] k h = absurd (omega arith)
some_at (x ∷ xs) zero h = refl
some_at (x ∷ xs) (suc k) h = some_at xs k (omega arith)

none_at : (l : List ℕ) (k : ℕ) → length l ≤ k → get_elem? l k ≡ none
none_at [] k h = refl
none_at (x ∷ xs) zero h = absurd (omega arith)
none_at (x ∷ xs) (suc k) h = none_at xs k (omega arith)

eight : (a b c : ℕ) → length (scalar_widths a b c) ≡ 8
unfolding scalar_widths
eight a b c = refl

module _ (w : Widths) (e : SharedEntry) (h : Header) (W : WidthsOf h w) where
  widths_are : scalar_widths h.word h.float (address_bytes h) ≡ scalar_widths w.word w.float w.address
  widths_are = rw (W.word_is, W.float_is, W.address_is)

  pub size_composite : 128 ≤ e.kind → maybe (Some e.len) ≡ shared_size h (shared_of e)
  unfolding shared_size if_composite shared_of
  size_composite l = rw (le-leb 128 e.kind l)

  lacks_same : is_lacking h.float e.kind ≡ is_lacking w.float e.kind
  lacks_same = rw W.float_is

  module _ (l : e.kind < 128) where
    pub size_lacking : is_lacking w.float e.kind ≡ true → maybe None ≡ shared_size h (shared_of e)
    unfolding shared_size if_composite shared_of scalar_bytes unless_lacking
    size_lacking f = rw (lt-leb 128 e.kind l, lacks_same, f)

    module _ (f : is_lacking w.float e.kind ≡ false) where
      size_scalar : (n : ℕ) → leb e.kind 7 ≡ true → n ≡ width_of w e.kind → maybe (Some n) ≡ shared_size h (shared_of e)
      unfolding shared_size if_composite shared_of scalar_bytes unless_lacking
      size_scalar n k z =
          let u : e.kind < 8 = omega (arith, leb-true e.kind 7 k) in
          rw (
            lt-leb 128 e.kind l,
            lacks_same,
            f,
            widths_are,
            some_at (scalar_widths w.word w.float w.address) e.kind (omega (arith, eight w.word w.float w.address)),
            z,
          )

      size_unknown : leb e.kind 7 ≡ false → maybe None ≡ shared_size h (shared_of e)
      unfolding shared_size if_composite shared_of scalar_bytes unless_lacking
      size_unknown k =
          let u : 7 < e.kind = leb-false e.kind 7 k in
          rw (
            lt-leb 128 e.kind l,
            lacks_same,
            f,
            none_at (scalar_widths h.word h.float (address_bytes h)) e.kind (omega (arith, eight h.word h.float (address_bytes h))),
          )

      -- what is known of `bool::then`
      pub size_if : (r : Maybe ℕ) → is_some r ≡ leb e.kind 7 → IfSome r (λ n. n ≡ width_of w e.kind) → maybe r ≡ shared_size h (shared_of e)
      size_if (Some n) k z = size_scalar n (sym k) z
      size_if None k z = size_unknown (sym k)

module _ (t : List ℕ) where
  pub shared_left : ℕ → Option (List ℕ)
  shared_left i = shared_test (table_header t) i (rest (shared_at t) (count t 2) i)

  -- the entries before i are inside
  abbrev pub Shareds : ℕ → Type 0
  Shareds i = shared_test (table_header t) 0 (shareds_of t) ≡ shared_left i

  pub shared_start : Shareds 0
  unfolding shareds_of shared_left
  shared_start = ap (shared_test (table_header t) 0) (rest_all (shared_at t) (count t 2))

  pub shared_end : (i : ℕ) → count t 2 ≤ i → Shareds i → found_in_none (Ok tt) ≡ shared_test (table_header t) 0 (shareds_of t)
  unfolding shared_left shared_test found_in_none
  shared_end i l S = sym (S ∙ ap (shared_test (table_header t) i) (rest_none (shared_at t) (count t 2) i l))

  module _ (i : ℕ) (l : i < count t 2) (S : Shareds i) (buffer : ℕ) (b : buffer ≡ (table_header t).shared_bytes) (e : SharedEntry)
      (x : shared_of e ≡ shared_at t i) (s : Maybe ℕ) (z : maybe s ≡ shared_size (table_header t) (shared_of e)) (r : Outcome Unit Refusal)
      (n : found_in_none r ≡ shared_fits buffer i (shared_of e) (maybe s)) where
    pub shared_next : shared_test (table_header t) 0 (shareds_of t) ≡ first (found_in_none r) (shared_left (i + 1))
    unfolding shared_left shared_test
    shared_next =
        S ∙ ap (shared_test (table_header t) i) (rest_next (shared_at t) (count t 2) i l)
        ∙ (rw (add-one, n, z, x, b) refl)

-- ── 18 ────────────────────────────────────────────────────────────────────────────────────

module _ (t : List ℕ) where
  abbrev tests : ℕ → Option Private → List Private → Option (List ℕ)
  tests i b es = private_test (length (slots_of t)) (table_header t).pool_bytes i b es

  pub private_left : ℕ → Option Private → Option (List ℕ)
  private_left i b = tests i b (rest (private_at t) (count t 3) i)

  -- the entries before i are in order, the last of them given
  abbrev pub Privates : ℕ → Maybe PrivateEntry → Type 0
  Privates i before = tests 0 none (privates_of t) ≡ private_left i (before_of before)

  pub private_start : Privates 0 None
  unfolding privates_of private_left before_of
  private_start = ap (tests 0 none) (rest_all (private_at t) (count t 3))

  pub private_end : (i : ℕ) (before : Maybe PrivateEntry) → count t 3 ≤ i → Privates i before → found_in_none (Ok tt) ≡ tests 0 none (privates_of t)
  unfolding private_left private_test found_in_none
  private_end i before l P = sym (P ∙ ap (tests i (before_of before)) (rest_none (private_at t) (count t 3) i l))

  module _ (i : ℕ) (before : Maybe PrivateEntry) (l : i < count t 3) (P : Privates i before) (slots pool : ℕ) (a : slots ≡ count t 1)
      (b : pool ≡ (table_header t).pool_bytes) (e : PrivateEntry) (x : private_of e ≡ private_at t i) (r : Outcome Unit Refusal)
      (n : found_in_none r ≡ entry_test slots pool i (private_of e)) where
    pub private_next :
        tests 0 none (privates_of t)
        ≡ first (first (found_in_none r) (order_test i (before_of before) (private_of e))) (private_left (i + 1) (before_of (Some e)))
    unfolding private_left private_test before_of
    private_next =
        P ∙ ap (tests i (before_of before)) (rest_next (private_at t) (count t 3) i l)
        ∙ (rw (add-one, n, a ∙ sym (slots_are t), b, x) refl)

-- ── The header, and the whole ─────────────────────────────────────────────────────────────

module _ (t : List ℕ) (h : CodeHeader) (e : header_of h ≡ table_header t) where
  pub buffer_is : h.shared_bytes ≡ (table_header t).shared_bytes
  unfolding header_of
  buffer_is = ap (λ (x : Header). x.shared_bytes) e

  pub pool_is : h.pool_bytes ≡ (table_header t).pool_bytes
  unfolding header_of
  pool_is = ap (λ (x : Header). x.pool_bytes) e

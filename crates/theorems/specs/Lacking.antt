-- 02, S-1: "Then kind 5 has no width". Each way in which the walk makes a state, from states without a scalar of a kind that the module lacks, gives
-- such a state; and on such a state one instruction is the same whatever width floats had. Widthless says it of the walk.
use Rattle.std.proofs.Math.Path.{◌≡◌, refl, ap}
use Rattle.std.proofs.Common.{sym, subst, arith}
use Rattle.std.specs.Prelude.{Bool, ◌&&◌, ◌||◌, get_or, take, leb}
use Rattle.std.proofs.Math.Bool.{true, false, not}
use Rattle.std.proofs.Math.Option.{none, some}
use mathlib.Core.List.{List, [], ◌∷◌, map, reverse}
use Prim.Native.Nat.{ℕ, zero, suc}
use Rattle.std.proofs.Math.ListN.{get_elem?}
use Rattle.std.proofs.Math.Dec.{eqb}
use Rattle.definition.specs.Basics.{choose, saturating_add}
use Rattle.definition.specs.Shapes.{Shape, unknown, scalar, composite, scalar_widths, is_lacking, same_text, if_same, join_text, join, join_all}
use Rattle.definition.specs.Shapes.{Wire, top, scalar_w, flat_w, top_if, known_wire, from_wire}
use Rattle.definition.specs.Instructions.{Instr, Shaped, Jump, Sig, Chunk, Field, Elem}
use Rattle.definition.specs.Ops.{instr, Op, named_kind, has_kind}
use Rattle.definition.specs.Module.{Code, Header, Module, known_sig, known_const, no_sig, under_check}
use Rattle.definition.specs.Effects.{exact, shape_of, effect, const_shape, returned, returned_native}
use Rattle.definition.specs.Effects.{shaped_pushes, pushes, needs_and_takes, jump_need, need, takes, width, packed, built_places, text_unless_enum}
use Rattle.definition.specs.Effects.{set_local}
use Rattle.definition.specs.Tests.{reading, other_tests}
use Rattle.definition.specs.Walk.{State, Sheets, mark, tests, examine, with_locals, join_states, after, start_locals, params, start, forget}
use Rattle.theorems.specs.Each.{Each, nobody, both, each_both, each-drop, each_take, each-reverse}
use Rattle.theorems.specs.Kept.{Kept, kept_joins, kept_start, kept_write, kept_forget, kept_unknowns, kept_bounds, kept_shaped}
use Rattle.theorems.specs.Cover.{no_some}
use Rattle.theorems.specs.Fits.{HasKind}

module _ (float : ℕ) where
  -- no scalar of a kind that is lacking
  abbrev pub Had : Shape → Type 0
  Had unknown = Unit {0}
  Had (scalar k) = is_lacking float k ≡ false
  Had (composite k n t) = Unit {0}

  had_if : (t : Bool) (s : Shape) → Had s → Had (if_same t s)
  unfolding if_same
  had_if true s h = h
  had_if false s h = tt

  had_join : (a b : Shape) → Had a → Had (join a b)
  unfolding join
  had_join unknown b h = tt
  had_join (scalar j) unknown h = tt
  had_join (scalar j) (scalar k) h = had_if (eqb j k) (scalar j) h
  had_join (scalar j) (composite k n t) h = tt
  had_join (composite j m s) unknown h = tt
  had_join (composite j m s) (scalar k) h = tt
  had_join (composite j m s) (composite k n t) h = had_if (eqb j k && eqb m n) (composite j m (join_text s (same_text s t))) tt

  -- no kind but 5 is lacking
  had_small : (k : ℕ) → eqb k 5 ≡ false → Had (scalar k)
  unfolding is_lacking
  had_small k e = go (eqb float 0) (eqb k 5) e
    where
      go : (a b : Bool) → b ≡ false → (a && b) ≡ false
      go true b e = e
      go false b e = refl

  -- ── What a chunk's shapes are made of ─────────────────────────────────────────────────────

  had_scalar : (k : ℕ) → Had (from_wire (top_if (is_lacking float k) (scalar_w k)))
  unfolding top_if from_wire
  had_scalar k = go (is_lacking float k) refl
    where
      go : (b : Bool) → is_lacking float k ≡ b → Had (from_wire (top_if b (scalar_w k)))
      go true e = tt
      go false e = had_if (leb k 7) (scalar k) e

  had_wire : (w : Wire) → Had (from_wire (known_wire float w))
  unfolding known_wire from_wire
  had_wire top = tt
  had_wire (scalar_w k) = had_scalar k
  had_wire (flat_w k n) = had_if (leb k 3) (composite k n none) tt

  had_const : (k : ℕ) → Had (if_same (leb (known_const float k) 6) (scalar (known_const float k)))
  unfolding known_const choose if_same
  had_const k = go (is_lacking float k) refl
    where
      go : (b : Bool) → is_lacking float k ≡ b → Had (if_same (leb (choose b 255 k) 6) (scalar (choose b 255 k)))
      go true e = tt
      go false e = had_if (leb k 6) (scalar k) e

  had_kind : (k : ℕ) → has_kind float (some k) ≡ true → Had (scalar k)
  unfolding has_kind
  had_kind k e = go (is_lacking float k) e
    where
      go : (b : Bool) → not b ≡ true → b ≡ false
      go true e = absurd (let z : ◌≡◌ {A = ℕ} 0 1 = cc in omega arith)
      go false e = refl

  -- Every shape that a chunk declares, and every constant's, is had.
  pub record Known (c : Chunk) : Type 0 where
    pub natives : (j : ℕ) → Had (shape_of (returned_native (get_elem? c.natives j)))
    pub results : (j : ℕ) → Had (shape_of (returned (get_elem? c.sigs j)))
    pub resume : Had (from_wire c.sig.resume)
    pub params : Each Had (start_locals c.locals (params c))
    pub consts : (j : ℕ) → Had (const_shape (get_elem? c.consts j))

  had_native : (ws : List Wire) (j : ℕ) → Had (shape_of (returned_native (get_elem? (map (known_wire float) ws) j)))
  unfolding returned_native shape_of
  had_native [] j = tt
  had_native (w ∷ ws) zero = had_wire w
  had_native (w ∷ ws) (suc j) = had_native ws j

  had_result : (gs : List Sig) (j : ℕ) → Had (shape_of (returned (get_elem? (map (known_sig float) gs) j)))
  unfolding returned shape_of known_sig
  had_result [] j = tt
  had_result (g ∷ gs) zero = had_wire g.ret
  had_result (g ∷ gs) (suc j) = had_result gs j

  had_constant : (ks : List ℕ) (j : ℕ) → Had (const_shape (get_elem? (map (known_const float) ks) j))
  unfolding const_shape
  had_constant [] j = tt
  had_constant (k ∷ ks) zero = had_const k
  had_constant (k ∷ ks) (suc j) = had_constant ks j

  had_wires : (ws : List Wire) → Each Had (map from_wire (map (known_wire float) ws))
  had_wires [] = nobody
  had_wires (w ∷ ws) = both (had_wire w) (had_wires ws)

  had_kept : Kept Had
  had_kept = record { any = tt; bool = had_small 1 refl; int = had_small 3 refl; joins = had_join }

  -- ── One instruction ───────────────────────────────────────────────────────────────────────

  module _ (c : Chunk) (K : Known c) where
    had_pushes : (i : Instr) (st ls : List Shape) → has_kind float (named_kind i) ≡ true → Each Had st → Each Had ls
        → Each Had (map shape_of (pushes c i st ls))
    unfolding pushes named_kind shape_of
    had_pushes (Instr.plain p a) st ls e x y = kept_unknowns Had had_kept (effect p).1
    had_pushes (Instr.shaped i) st ls e x y = kept_shaped Had had_kept c K.consts K.natives K.resume i x y
    had_pushes (Instr.jump j) st ls e x y = nobody
    had_pushes (Instr.PopN n) st ls e x y = nobody
    had_pushes (Instr.SetLocal k) st ls e x y = nobody
    had_pushes (Instr.Call k n) st ls e x y = both (K.results k) nobody
    had_pushes (Instr.NewFlat k n s) st ls e x y = both tt nobody
    had_pushes (Instr.NewBoxed k n m) st ls e x y = both tt nobody
    had_pushes (Instr.GetFlat o (Field.Flat at k)) st ls e x y = both (had_kind k e) nobody
    had_pushes (Instr.GetFlat o (Field.FlatNested at n k)) st ls e x y = both tt nobody
    had_pushes (Instr.GetBoxed o n) st ls e x y = both tt nobody
    had_pushes (Instr.GetIndex (Elem.ElemFlat k)) st ls e x y = kept_bounds Had had_kept (eqb k 2 || eqb k 3) (exact (scalar k)) (had_kind k e)
    had_pushes (Instr.GetIndex (Elem.ElemNested n k)) st ls e x y = kept_bounds Had had_kept true _ tt

  -- ── States ────────────────────────────────────────────────────────────────────────────────

  pub record HadState (s : State) : Type 0 where
    pub stack : Each Had s.stack
    pub locals : Each Had s.locals

  pub had_start : (c : Chunk) → Known c → HadState (start c)
  unfolding start
  had_start c K = record { stack = nobody; locals = K.params }

  pub had_after : (c : Chunk) (i : Instr) (s : State) → Known c → has_kind float (named_kind i) ≡ true → HadState s → HadState (after c i s)
  unfolding after
  had_after c i s K e h =
      record {
        stack = each_both (had_pushes c K i s.stack s.locals e h.stack h.locals) (each-drop (takes c i) h.stack);
        locals = kept_write Had had_kept (set_local i) h.stack h.locals;
      }

  pub had_joined : (a b : State) → HadState a → HadState (join_states a b)
  had_joined a b h = record { stack = kept_joins Had had_kept b.stack h.stack; locals = kept_joins Had had_kept b.locals h.locals }

  -- from a head to the next: its locals joined with others, or forgotten
  pub had_widen : (s : State) (ls : List Shape) → HadState s → HadState (with_locals s (join_all s.locals ls))
  had_widen s ls h = record { stack = h.stack; locals = kept_joins Had had_kept ls h.locals }

  pub had_forget : (c : Chunk) (p n : ℕ) (s : State) → HadState s → HadState (with_locals s (forget c p n s.locals))
  had_forget c p n s h = record { stack = h.stack; locals = kept_forget Had had_kept c p n h.locals }

-- ── A module ──────────────────────────────────────────────────────────────────────────────

-- A chunk as the walk takes it.
pub chunk_known : (m : Module) (k base : ℕ) (c : Code) → Known m.header.float (under_check m k base c)
unfolding under_check params known_sig
chunk_known m k base c =
    let f : ℕ = m.header.float in
    record {
      natives = had_native f m.natives;
      results = had_result f m.sigs;
      resume = had_wire f (get_or m.sigs k no_sig).resume;
      params = kept_start (Had f) (had_kept f) c.locals (had_wires f (get_or m.sigs k no_sig).params);
      consts = had_constant f c.consts;
    }

-- Its instructions, where those of its listing name no kind that the module lacks (`read_fits`).
pub code_had : (h : Header) (os : List Op) (p : ℕ) (i : Instr) → Each (HasKind h) os → get_elem? (map instr os) p ≡ some i
    → has_kind h.float (named_kind i) ≡ true
code_had h [] p i e q = absurd (no_some (sym q))
code_had h (o ∷ os) zero i (both x e) q = subst (λ (z : Instr). has_kind h.float (named_kind z) ≡ true) (let z : instr o ≡ i = cc in z) x
code_had h (o ∷ os) (suc p) i (both x e) q = code_had h os p i e q

-- ── Widths ────────────────────────────────────────────────────────────────────────────────

-- a chunk with another width of floats
abbrev pub with_float : Chunk → ℕ → Chunk
with_float c n =
    record {
      word = c.word;
      float = n;
      address = c.address;
      index_trap = c.index_trap;
      host_trap = c.host_trap;
      enum_sizes = c.enum_sizes;
      natives = c.natives;
      sigs = c.sigs;
      sig = c.sig;
      locals = c.locals;
      consts = c.consts;
      code = c.code;
      base = c.base;
    }

module _ (c : Chunk) (n : ℕ) where
  width_same : (k : ℕ) → Had 0 (scalar k) → width c k ≡ width (with_float c n) k
  unfolding width scalar_widths is_lacking
  width_same zero h = refl
  width_same (suc zero) h = refl
  width_same (suc (suc zero)) h = refl
  width_same (suc (suc (suc zero))) h = refl
  width_same (suc (suc (suc (suc zero)))) h = refl
  width_same (suc (suc (suc (suc (suc zero))))) h = absurd (let z : ◌≡◌ {A = ℕ} 0 1 = cc in omega arith)
  width_same (suc (suc (suc (suc (suc (suc zero)))))) h = refl
  width_same (suc (suc (suc (suc (suc (suc (suc zero))))))) h = refl
  width_same (suc (suc (suc (suc (suc (suc (suc (suc k)))))))) h = refl

  packed_same : (es : List Shape) → Each (Had 0) es → packed c es ≡ packed (with_float c n) es
  unfolding packed
  packed_same [] e = refl
  packed_same (unknown ∷ es) e = refl
  packed_same (scalar k ∷ es) (both h e) = rw (width_same k h, packed_same es e)
  packed_same (composite k m t ∷ es) (both h e) = rw (packed_same es e)

  built_same : (at : ℕ) (es : List Shape) → Each (Had 0) es → built_places c at es ≡ built_places (with_float c n) at es
  unfolding built_places
  built_same at [] e = refl
  built_same at (unknown ∷ es) e = refl
  built_same at (scalar k ∷ es) (both h e) = rw (width_same k h, built_same (saturating_add at (width (with_float c n) k)) es e)
  built_same at (composite k m none ∷ es) e = refl
  built_same at (composite k m (some os) ∷ es) (both h e) = rw (built_same (saturating_add at m) es e)

  text_same : (k : ℕ) (es : List Shape) → Each (Had 0) es → text_unless_enum c k es ≡ text_unless_enum (with_float c n) k es
  unfolding text_unless_enum
  text_same k es e = rw (built_same 0 es e)

  reading_same : (i : Instr) → has_kind 0 (named_kind i) ≡ true → reading c i ≡ reading (with_float c n) i
  unfolding reading named_kind
  reading_same (Instr.plain p a) e = refl
  reading_same (Instr.shaped s) e = refl
  reading_same (Instr.jump j) e = refl
  reading_same (Instr.PopN k) e = refl
  reading_same (Instr.SetLocal k) e = refl
  reading_same (Instr.Call k a) e = refl
  reading_same (Instr.NewFlat k a s) e = refl
  reading_same (Instr.NewBoxed k a m) e = refl
  reading_same (Instr.GetFlat o (Field.Flat at k)) e = rw (width_same k (had_kind 0 k e))
  reading_same (Instr.GetFlat o (Field.FlatNested at s k)) e = refl
  reading_same (Instr.GetBoxed o k) e = refl
  reading_same (Instr.GetIndex (Elem.ElemFlat k)) e = rw (width_same k (had_kind 0 k e))
  reading_same (Instr.GetIndex (Elem.ElemNested s k)) e = refl

  other_same : (ip : ℕ) (i : Instr) (st : List Shape) → has_kind 0 (named_kind i) ≡ true → Each (Had 0) st
      → other_tests c ip i st ≡ other_tests (with_float c n) ip i st
  unfolding other_tests named_kind
  other_same ip (Instr.plain p a) st e h = refl
  other_same ip (Instr.shaped s) st e h = refl
  other_same ip (Instr.jump j) st e h = refl
  other_same ip (Instr.PopN k) st e h = refl
  other_same ip (Instr.SetLocal k) st e h = refl
  other_same ip (Instr.Call k a) st e h = refl
  other_same ip (Instr.NewFlat k a s) st e h =
      rw (packed_same (take a st) (each_take a h), text_same k (reverse (take a st)) (each-reverse (each_take a h)))
  other_same ip (Instr.NewBoxed k a m) st e h = refl
  other_same ip (Instr.GetFlat o (Field.Flat at k)) st e h = refl
  other_same ip (Instr.GetFlat o (Field.FlatNested at s k)) st e h = refl
  other_same ip (Instr.GetBoxed o k) st e h = refl
  other_same ip (Instr.GetIndex (Elem.ElemFlat k)) st e h = rw (width_same k (had_kind 0 k e))
  other_same ip (Instr.GetIndex (Elem.ElemNested s k)) st e h = refl

  pushes_same : (i : Instr) (st ls : List Shape) → Each (Had 0) st → pushes c i st ls ≡ pushes (with_float c n) i st ls
  unfolding pushes shaped_pushes
  pushes_same (Instr.plain p a) st ls h = refl
  pushes_same (Instr.shaped (Shaped.Const k)) st ls h = refl
  pushes_same (Instr.shaped (Shaped.GetLocal k)) st ls h = refl
  pushes_same (Instr.shaped (Shaped.BoundsCheck k)) st ls h = refl
  pushes_same (Instr.shaped (Shaped.IsStruct k)) st ls h = refl
  pushes_same (Instr.shaped (Shaped.GetDataIndexed a b)) st ls h = refl
  pushes_same (Instr.shaped (Shaped.SetDataIndexed a b)) st ls h = refl
  pushes_same (Instr.shaped (Shaped.Native k a)) st ls h = refl
  pushes_same (Instr.shaped (Shaped.IsEnum a b d)) st ls h = refl
  pushes_same (Instr.shaped Shaped.Dup) st ls h = refl
  pushes_same (Instr.shaped Shaped.Yield) st ls h = refl
  pushes_same (Instr.shaped Shaped.IndexBoxed) st ls h = refl
  pushes_same (Instr.jump j) st ls h = refl
  pushes_same (Instr.PopN k) st ls h = refl
  pushes_same (Instr.SetLocal k) st ls h = refl
  pushes_same (Instr.Call k a) st ls h = refl
  pushes_same (Instr.NewFlat k a s) st ls h = rw (text_same k (reverse (take a st)) (each-reverse (each_take a h)))
  pushes_same (Instr.NewBoxed k a m) st ls h = refl
  pushes_same (Instr.GetFlat o (Field.Flat at k)) st ls h = refl
  pushes_same (Instr.GetFlat o (Field.FlatNested at s k)) st ls h = refl
  pushes_same (Instr.GetBoxed o k) st ls h = refl
  pushes_same (Instr.GetIndex (Elem.ElemFlat k)) st ls h = refl
  pushes_same (Instr.GetIndex (Elem.ElemNested s k)) st ls h = refl

  jump_same : (j : Jump) → jump_need c j ≡ jump_need (with_float c n) j
  unfolding jump_need
  jump_same (Jump.If t) = refl
  jump_same (Jump.Else t) = refl
  jump_same (Jump.Loop t) = refl
  jump_same (Jump.EndLoop t) = refl
  jump_same (Jump.Break t) = refl
  jump_same (Jump.BreakIf t) = refl
  jump_same (Jump.Trap k) = refl
  jump_same Jump.EndIf = refl
  jump_same Jump.Return = refl
  jump_same Jump.Reset = refl

  needs_same : (i : Instr) → needs_and_takes c i ≡ needs_and_takes (with_float c n) i
  needs_same (Instr.plain p a) = refl
  needs_same (Instr.shaped s) = refl
  needs_same (Instr.jump j) = rw (jump_same j)
  needs_same (Instr.PopN k) = refl
  needs_same (Instr.SetLocal k) = refl
  needs_same (Instr.Call k a) = refl
  needs_same (Instr.NewFlat k a s) = refl
  needs_same (Instr.NewBoxed k a m) = refl
  needs_same (Instr.GetFlat o f) = refl
  needs_same (Instr.GetBoxed o k) = refl
  needs_same (Instr.GetIndex e) = refl

  need_same : (i : Instr) → need c i ≡ need (with_float c n) i
  unfolding need
  need_same i = ap (λ (p : ℕ × ℕ). p.0) (needs_same i)

  takes_same : (i : Instr) → takes c i ≡ takes (with_float c n) i
  unfolding takes
  takes_same i = ap (λ (p : ℕ × ℕ). p.1) (needs_same i)

  after_same : (i : Instr) (s : State) → HadState 0 s → after c i s ≡ after (with_float c n) i s
  unfolding after
  after_same i s h = rw (pushes_same i s.stack s.locals h.stack, takes_same i)

  -- Without floats, an instruction's tests, its rule and its marks are the same whatever width floats had.
  pub examine_same : (ip floor : ℕ) (i : Instr) (s : State) → has_kind 0 (named_kind i) ≡ true → HadState 0 s
      → examine c ip floor i s ≡ examine (with_float c n) ip floor i s
  unfolding examine tests
  examine_same ip floor i s e h = rw (need_same i, reading_same i e, other_same ip i s.stack e h.stack, after_same i s h)

  pub mark_same : (ip : ℕ) (i : Instr) (s : State) (sh : Sheets) → has_kind 0 (named_kind i) ≡ true → mark c ip i s sh ≡ mark (with_float c n) ip i s sh
  unfolding mark
  mark_same ip i s sh e = rw (reading_same i e)

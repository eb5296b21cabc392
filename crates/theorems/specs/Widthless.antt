-- 02, S-1: "Then kind 5 has no width". Without floats the walk of a chunk is the same whatever width they had: answer, sheets and states.
use Rattle.std.specs.Prelude.{◌≡◌, Bool, List, length, eqb, ltb}
use Rattle.std.proofs.Math.Path.{refl, subst}
use Rattle.std.proofs.Common.{sym}
use Rattle.std.proofs.Math.Bool.{true, false}
use Rattle.std.proofs.Math.Option.{Option, none, some}
use Prim.Native.Nat.{ℕ, zero, suc, ◌+◌, ◌-◌}
use Rattle.std.proofs.Math.ListN.{get_elem?}
use Rattle.definition.specs.Basics.{Result, ok, refused, ◌>>=◌}
use Rattle.definition.specs.Shapes.{Shape, join_all, same_shapes}
use Rattle.definition.specs.Instructions.{instr_at, control_at, control, Instr, Control, Chunk}
use Rattle.definition.specs.Ops.{named_kind, has_kind}
use Rattle.definition.specs.Module.{Code, Module, under_check}
use Rattle.definition.specs.Nesting.{else_at}
use Rattle.definition.specs.Walk.{State, Sheets, height, with_locals, Breaks, no_break, joined, unequal, add_joined, add_break, mark, examine, after, tests}
use Rattle.definition.specs.Walk.{Walked, Walker, join_tested, join_ends, go_on, walk_arms, Left, forget_one, names_local, forget, leave, neutral, if_stable}
use Rattle.definition.specs.Walk.{pass_end, last_end, passes, walk_instr, walk_instr?, stretch, walk, params, start, walk_chunk}
use Rattle.theorems.specs.Each.{Each}
use Rattle.theorems.specs.Cover.{no_ok, ok_inj, pass_ok}
use Rattle.theorems.specs.Fits.{HasKind}
use Rattle.theorems.specs.Lacking.{Known, HadState, had_start, had_after, had_joined, had_widen, had_forget, chunk_known, code_had, with_float}
use Rattle.theorems.specs.Lacking.{examine_same, mark_same}

-- ── Results that are the same, and what holds of them ─────────────────────────────────────

record Alike {A : Type 0} (P : A → Type 0) (x y : Result A) : Type 0 where
  same : x ≡ y
  held : (a : A) → x ≡ ok a → P a

fine : {A : Type 0} {P : A → Type 0} (a : A) → P a → Alike P (ok a) (ok a)
fine {P} a p = record { same = refl; held = λ b e. subst P (ok_inj e) p }

gone : {A : Type 0} {P : A → Type 0} (r : List ℕ) → Alike P (refused r) (refused r)
gone r = record { same = refl; held = λ b e. absurd (no_ok e) }

after_both : {A B : Type 0} {P : A → Type 0} {Q : B → Type 0} (x : Result A) (f g : A → Result B)
    → ((a : A) → x ≡ ok a → P a) → ((a : A) → P a → Alike Q (f a) (g a)) → Alike Q (x >>= f) (x >>= g)
unfolding ◌>>=◌
after_both (ok a) f g h k = k a (h a refl)
after_both (refused r) f g h k = gone r

then : {A B : Type 0} {P : A → Type 0} {Q : B → Type 0} (x y : Result A) (f g : A → Result B)
    → Alike P x y → ((a : A) → P a → Alike Q (f a) (g a)) → Alike Q (x >>= f) (y >>= g)
then {Q} x y f g a k = subst (λ z. Alike Q (x >>= f) (z >>= g)) a.same (after_both x f g a.held k)

-- ── Ends and breaks ───────────────────────────────────────────────────────────────────────

abbrev HadFall : Option State → Type 0
HadFall none = Unit {0}
HadFall (some s) = HadState 0 s

abbrev HadBreaks : Breaks → Type 0
HadBreaks no_break = Unit {0}
HadBreaks (joined s) = HadState 0 s
HadBreaks (unequal h k) = Unit {0}

record HadWalked (r : Walked) : Type 0 where
  fall : HadFall r.fall
  breaks : HadBreaks r.breaks

abbrev HadLeft : Left → Type 0
HadLeft l = HadState 0 l.state

break_more : (b : Breaks) (s : State) → HadBreaks b → HadState 0 s → HadBreaks (add_break b s)
unfolding add_break add_joined
break_more no_break s x y = y
break_more (joined a) s x y = go (eqb (height a) (height s))
  where
    go : (t : Bool) → HadBreaks (add_joined t a s)
    go true = had_joined 0 a s x
    go false = tt
break_more (unequal h k) s x y = tt

ends_joined : (ip : ℕ) (a b : Option State) → HadFall a → HadFall b → Alike HadFall (join_ends ip a b) (join_ends ip a b)
unfolding join_ends join_tested
ends_joined ip none b x y = fine b y
ends_joined ip (some a) none x y = fine (some a) x
ends_joined ip (some a) (some b) x y = go (eqb (height a) (height b))
  where
    go : (t : Bool) → Alike HadFall (join_tested t ip a b) (join_tested t ip a b)
    go true = fine (some _) (had_joined 0 a b x)
    go false = gone _

left : (ip : ℕ) (b : Breaks) (sh : Sheets) (s : State) → HadBreaks b → HadState 0 s → Alike HadLeft (leave ip b sh s) (leave ip b sh s)
unfolding leave
left ip no_break sh s x y = fine _ y
left ip (joined a) sh s x y = fine _ x
left ip (unequal h k) sh s x y = gone _

neutrals : (t : Bool) (ip : ℕ) (head be : State) (x y : Result Left) → Alike HadLeft x y → Alike HadLeft (neutral t ip head be x) (neutral t ip head be y)
unfolding neutral
neutrals true ip head be x y a = a
neutrals false ip head be x y a = gone _

stables : (t : Bool) (x y v w : Result Left) → Alike HadLeft x y → Alike HadLeft v w → Alike HadLeft (if_stable t x v) (if_stable t y w)
unfolding if_stable
stables true x y v w a b = a
stables false x y v w a b = b

abbrev Goes : (List Shape → Sheets → Result Left) → (List Shape → Sheets → Result Left) → State → Type 0
Goes f g head = (be : State) (sh : Sheets) → Alike HadLeft (f (join_all head.locals be.locals) sh) (g (join_all head.locals be.locals) sh)

pass_ends : (ip : ℕ) (head : State) (r : Walked) (f g : List Shape → Sheets → Result Left) (o : Option State) → HadState 0 head → HadFall o
    → HadBreaks r.breaks → Goes f g head → Alike HadLeft (pass_end ip head r f o) (pass_end ip head r g o)
unfolding pass_end
pass_ends ip head r f g none h x b k = left ip r.breaks r.sheets head b h
pass_ends ip head r f g (some be) h x b k =
    neutrals (same_shapes be.stack head.stack) ip head be _ _
    (stables (same_shapes (join_all head.locals be.locals) head.locals) _ _ _ _ (left ip r.breaks r.sheets be b x) (k be r.sheets))

last_ends : (ip : ℕ) (head : State) (r : Walked) (o : Option State) → HadState 0 head → HadFall o → HadBreaks r.breaks
    → Alike HadLeft (last_end ip head r o) (last_end ip head r o)
unfolding last_end
last_ends ip head r none h x b = left ip r.breaks r.sheets head b h
last_ends ip head r (some be) h x b =
    neutrals (same_shapes be.stack head.stack) ip head be _ _ (left ip r.breaks r.sheets be b x)

abbrev Body : Type 0
Body = State → Sheets → Result Walked

module _ (v w : Body) (both_walk : (s : State) (sh : Sheets) → HadState 0 s → Alike HadWalked (v s sh) (w s sh)) (f g : List Shape → List Shape)
    (forget_alike : (ls : List Shape) → f ls ≡ g ls) (forgotten : (s : State) → HadState 0 s → HadState 0 (with_locals s (f s.locals))) (ip : ℕ) where
  last_pass : (head : State) (sh : Sheets) → HadState 0 head
      → Alike HadLeft (v (with_locals head (f head.locals)) sh >>= λ q. last_end ip (with_locals head (f head.locals)) q q.fall)
      (w (with_locals head (g head.locals)) sh >>= λ q. last_end ip (with_locals head (g head.locals)) q q.fall)
  last_pass head sh h =
      rw (sym (forget_alike head.locals))
      (then (v (with_locals head (f head.locals)) sh) (w (with_locals head (f head.locals)) sh) _ _ (both_walk _ sh (forgotten head h))
      (λ q k. last_ends ip (with_locals head (f head.locals)) q q.fall (forgotten head h) k.fall k.breaks))

  all_passes : (k : ℕ) (head : State) (sh : Sheets) → HadState 0 head → Alike HadLeft (passes v f ip k head sh) (passes w g ip k head sh)
  unfolding passes
  all_passes zero head sh h =
      then (v head sh) (w head sh) _ _ (both_walk head sh h)
      (λ r p. pass_ends ip head r _ _ r.fall h p.fall p.breaks (λ be sh'. last_pass head sh' h))
  all_passes (suc k) head sh h =
      then (v head sh) (w head sh) _ _ (both_walk head sh h)
      (λ r p. pass_ends ip head r _ _ r.fall h p.fall p.breaks
      (λ be sh'. all_passes k (with_locals head (join_all head.locals be.locals)) sh' (had_widen 0 head be.locals h)))

-- ── The walk ──────────────────────────────────────────────────────────────────────────────

abbrev Both : Walker → Walker → Type 0
Both v w = (ip end floor : ℕ) (s : State) (b : Breaks) (sh : Sheets) → HadState 0 s → HadBreaks b → Alike HadWalked (v ip end floor s b sh) (w ip end floor s b sh)

module _ (v w : Walker) (both_walk : Both v w) where
  onward_both : (e end floor : ℕ) (b : Breaks) (sh : Sheets) (o : Option State) → HadBreaks b → HadFall o
      → Alike HadWalked (go_on v e end floor b sh o) (go_on w e end floor b sh o)
  unfolding go_on
  onward_both e end floor b sh none x y = fine _ (record { fall = tt; breaks = x })
  onward_both e end floor b sh (some s) x y = both_walk (suc e) end floor s b sh y x

  arms_both : (ip t end floor : ℕ) (s : State) (b : Breaks) (sh : Sheets) (o : Option ℕ) → HadState 0 s → HadBreaks b
      → Alike HadWalked (walk_arms v ip t end floor s b sh o) (walk_arms w ip t end floor s b sh o)
  unfolding walk_arms
  arms_both ip t end floor s b sh (some e) x y =
      then (v (suc ip) (t - 1) floor s b sh) (w (suc ip) (t - 1) floor s b sh) _ _ (both_walk (suc ip) (t - 1) floor s b sh x y)
      (λ r p. then (v t e floor s r.breaks r.sheets) (w t e floor s r.breaks r.sheets) _ _
      (both_walk t e floor s r.breaks r.sheets x p.breaks)
      (λ q u. then (join_ends ip r.fall q.fall) (join_ends ip r.fall q.fall) _ _ (ends_joined ip r.fall q.fall p.fall u.fall)
      (λ j z. onward_both e end floor q.breaks q.sheets j u.breaks z)))
  arms_both ip t end floor s b sh none x y =
      then (v (suc ip) t floor s b sh) (w (suc ip) t floor s b sh) _ _ (both_walk (suc ip) t floor s b sh x y)
      (λ r p. then (join_ends ip r.fall (some s)) (join_ends ip r.fall (some s)) _ _ (ends_joined ip r.fall (some s) p.fall x)
      (λ j z. onward_both t end floor r.breaks r.sheets j p.breaks z))

module _ (c : Chunk) (n : ℕ) (shapes : Known 0 c) where
  forget_same : (p k : ℕ) (ls : List Shape) → forget c p k ls ≡ forget (with_float c n) p k ls
  unfolding forget instr_at
  forget_same p zero ls = refl
  forget_same p (suc k) ls = forget_same (suc p) k (forget_one (names_local (instr_at c p)) ls)

  else_same : (ip t : ℕ) → else_at c ip t ≡ else_at (with_float c n) ip t
  unfolding else_at control_at instr_at
  else_same ip t = refl

  examined : (ip floor : ℕ) (i : Instr) (s : State) → has_kind 0 (named_kind i) ≡ true → HadState 0 s
      → Alike (HadState 0) (examine c ip floor i s) (examine (with_float c n) ip floor i s)
  unfolding examine
  examined ip floor i s e h =
      record {
        same = examine_same c n ip floor i s e h;
        held = λ a q. subst (HadState 0) (pass_ok (tests c ip floor i s) (after c i s) a q).1 (had_after 0 c i s shapes e h);
      }

  module _ (v w : Walker) (both_walk : Both v w) (ip end floor : ℕ) (s : State) (b : Breaks) (sh : Sheets) (i : Instr)
      (e : has_kind 0 (named_kind i) ≡ true) (h : HadState 0 s) (x : HadBreaks b) where
    marked : (f g : State → Sheets → Result Walked) → ((a : State) (sh : Sheets) → HadState 0 a → Alike HadWalked (f a sh) (g a sh))
        → Alike HadWalked (examine c ip floor i s >>= λ a. f a (mark c ip i s sh))
        (examine (with_float c n) ip floor i s >>= λ a. g a (mark (with_float c n) ip i s sh))
    marked f g k =
        rw (sym (mark_same c n ip i s sh e))
        (then (examine c ip floor i s) (examine (with_float c n) ip floor i s) _ _ (examined ip floor i s e h) (λ a p. k a (mark c ip i s sh) p))

    instr_both : (k : Control) → Alike HadWalked (walk_instr c v ip end floor s b sh i k) (walk_instr (with_float c n) w ip end floor s b sh i k)
    unfolding walk_instr
    instr_both Control.onward = marked _ _ (λ a sh' p. both_walk (suc ip) end floor a b sh' p x)
    instr_both Control.resets = marked _ _ (λ a sh' p. both_walk (suc ip) end floor a b sh' p x)
    instr_both Control.stops =
        let ended : State → Sheets → Result Walked = λ a sh'. ok (record { fall = none; breaks = b; sheets = sh' }) in
        marked ended ended (λ a sh' p. fine (record { fall = none; breaks = b; sheets = sh' }) (record { fall = tt; breaks = x }))
    instr_both Control.returns = rw (sym (mark_same c n ip i s sh e)) (fine _ (record { fall = tt; breaks = x }))
    instr_both (Control.break_to t) = rw (sym (mark_same c n ip i s sh e)) (fine _ (record { fall = tt; breaks = break_more b s x h }))
    instr_both (Control.break_if_to t) = marked _ _ (λ a sh' p. both_walk (suc ip) end floor a (add_break b a) sh' p (break_more b a x p))
    instr_both (Control.if_to t) = rw (sym (else_same ip t)) (marked _ _ (λ a sh' p. arms_both v w both_walk ip t end floor a b sh' (else_at c ip t) p x))
    instr_both (Control.loop_to t) =
        rw (sym (mark_same c n ip i s sh e))
        (then _ _ _ _
        (all_passes _ _ (λ a sh' p. both_walk (suc ip) (t - 1) (height s) a no_break sh' p tt) (forget c (suc ip) (t - 1 - suc ip))
        (forget (with_float c n) (suc ip) (t - 1 - suc ip)) (forget_same (suc ip) (t - 1 - suc ip))
        (λ a p. had_forget 0 c (suc ip) (t - 1 - suc ip) a p) ip (c.locals + 2) s (mark c ip i s sh) h)
        (λ l p. both_walk t end floor l.state b l.sheets p x))
    instr_both (Control.else_to t) = gone _
    instr_both Control.end_if = gone _
    instr_both Control.end_loop = gone _
    instr_both Control.ends = gone _

  module _ (code : (p : ℕ) (i : Instr) → instr_at c p ≡ some i → has_kind 0 (named_kind i) ≡ true) where
    stretch_both : (v w : Walker) → Both v w → (ip end floor : ℕ) (s : State) (b : Breaks) (sh : Sheets) (t : Bool) → HadState 0 s → HadBreaks b
        → Alike HadWalked (stretch c v ip end floor s b sh t) (stretch (with_float c n) w ip end floor s b sh t)
    unfolding stretch walk_instr? instr_at
    stretch_both v w k ip end floor s b sh false h x = fine _ (record { fall = h; breaks = x })
    stretch_both v w k ip end floor s b sh true h x = go (get_elem? c.code ip) refl
      where
        go : (o : Option Instr) → get_elem? c.code ip ≡ o
            → Alike HadWalked (walk_instr? c v ip end floor s b sh o) (walk_instr? (with_float c n) w ip end floor s b sh o)
        go none e = gone _
        go (some i) e = instr_both v w k ip end floor s b sh i (code ip i e) h x (control i)

    walk_both : (f : ℕ) → Both (walk c f) (walk (with_float c n) f)
    unfolding walk
    walk_both zero ip end floor s b sh h x = gone _
    walk_both (suc f) ip end floor s b sh h x =
        stretch_both (walk c f) (walk (with_float c n) f) (walk_both f) ip end floor s b sh (ltb ip end) h x

    -- the walk of the chunk
    chunk_widthless : (sh : Sheets) → walk_chunk c sh ≡ walk_chunk (with_float c n) sh
    unfolding walk_chunk start params
    chunk_widthless sh = (walk_both (suc (length c.code)) 0 (length c.code) 0 (start c) no_break sh (had_start 0 c shapes) tt).same

-- A chunk of a module without floats whose ops name no kind that it lacks, as those of a listing that is read (`read_fits`).
pub widthless : (m : Module) (k base : ℕ) (c : Code) (n : ℕ) (sh : Sheets) → m.header.float ≡ 0 → Each (HasKind m.header) c.ops
    → walk_chunk (under_check m k base c) sh ≡ walk_chunk (with_float (under_check m k base c) n) sh
unfolding under_check instr_at
widthless m k base c n sh e fit =
    chunk_widthless (under_check m k base c) n (subst (λ f. Known f (under_check m k base c)) e (chunk_known m k base c)) had sh
  where
    had : (p : ℕ) (i : Instr) → instr_at (under_check m k base c) p ≡ some i → has_kind 0 (named_kind i) ≡ true
    had p i q = subst (λ f. has_kind f (named_kind i) ≡ true) e (code_had m.header c.ops p i fit q)

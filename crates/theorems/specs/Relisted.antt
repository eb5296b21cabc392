-- A listing that is read is written as the same bytes; what is written is read as the same module; and the modules that the writer writes are those that
-- some listing gives.
use Rattle.std.specs.Prelude.{◌≡◌, Bool, not, ◌&&◌, ℕ, suc, ◌≤◌, ◌<◌, eqb, length, drop}
use Rattle.std.proofs.Math.Path.{refl, ap}
use Rattle.std.proofs.Common.{sym, ◌∙◌, subst, arith, length-append, length-drop}
use Rattle.std.proofs.Math.Bool.{true, false}
use Rattle.std.proofs.Math.Option.{Option, none, some}
use mathlib.Core.List.{List, [], ◌∷◌, ◌++◌, map, append_assoc, append-nil}
use borrow.Author.Tests.{leb-false, le-leb}
use Rattle.std.proofs.Math.Dec.{leb, leb→le}
use Rattle.definition.specs.Basics.{Result, ok, refused, ◌>>=◌, unless, pass, choose}
use Rattle.definition.specs.Shapes.{Wire}
use Rattle.definition.specs.Instructions.{Sig}
use Rattle.definition.specs.Format.{Bytes, provided}
use Rattle.definition.specs.Ops.{Op}
use Rattle.definition.specs.Module.{Slot, Shared, Private, Code, Header, Module}
use Rattle.definition.specs.Read.{Line, Lines, line, end, first_line, slot_line, shared_line, private_line, enum_line, native_line, sig_line, chunk_line}
use Rattle.definition.specs.Read.{const_line, op_line, close_line, byte_before, cut, read_line, within, follow, limit, limits, to_last, add_const, add_op}
use Rattle.definition.specs.Read.{add, Reader, at_start, or_line, take_line, next_line, is_empty, read_lines, read}
use Rattle.definition.specs.Write.{line_text, is_line, chunk_lines, chunks_lines, lines_of, lines_text, listing_of, lines_give, is_ok, is_given, write}
use Rattle.definition.specs.Write.{put, put_result, write_into}
use Rattle.theorems.specs.Cover.{no_some, no_ok, ok_inj, no_false, T_of, unless_none, pass_ok, bind_ok, and_true, eqb_eq}
use Rattle.theorems.specs.Decimal.{one_line}
use Rattle.theorems.specs.OneLine.{line_was, line_back, line-line}

-- ── Lines cut and joined ──────────────────────────────────────────────────────────────────

-- the bytes that were cut
unfoldable uncut : Lines → Bytes
uncut (line l ls) = l ++ (10 ∷ uncut ls)
uncut (end rest) = rest

uncut-byte : (b : ℕ) (ls : Lines) → uncut (byte_before b ls) ≡ b ∷ uncut ls
unfolding uncut byte_before
uncut-byte b (line l ls) = refl
uncut-byte b (end rest) = refl

uncut-cut : (bs : Bytes) → uncut (cut bs) ≡ bs
unfolding uncut cut
uncut-cut [] = refl
uncut-cut (b ∷ bs) = go (eqb b 10) refl (uncut-cut bs)
  where
    go : (x : Bool) → eqb b 10 ≡ x → uncut (cut bs) ≡ bs →
        uncut (elim x as (λ z. Lines) [ true ↦ line [] (cut bs) | false ↦ byte_before b (cut bs) ]) ≡ b ∷ bs
    go true e ih = let p : b ≡ 10 = eqb_eq e in rw (p, ih)
    go false e ih = uncut-byte b (cut bs) ∙ ap (λ (l : Bytes). b ∷ l) ih

not_true : (b : Bool) → not b ≡ true → b ≡ false
not_true true e = absurd (no_false e)
not_true false e = refl

cut_line : (l rest : Bytes) → one_line l ≡ true → cut (l ++ (10 ∷ rest)) ≡ line l (cut rest)
unfolding cut one_line byte_before
cut_line [] rest e = refl
cut_line (b ∷ l) rest e =
    let p = and_true (not (eqb b 10)) (one_line l) e in
    let q : eqb b 10 ≡ false = not_true (eqb b 10) p.0 in
    (rw (q, cut)) ∙ ap (byte_before b) (cut_line l rest p.1)

-- ── Lines given and lines read ────────────────────────────────────────────────────────────

some_inj : {A : Type 0} {x y : A} → some x ≡ some y → x ≡ y
some_inj e = cc

provided_some : {A : Type 0} (t : Bool) (a b : A) → provided t a ≡ some b → (t ≡ true) × (a ≡ b)
unfolding provided
provided_some true a b e = (refl, some_inj e)
provided_some false a b e = absurd (no_some (sym e))

or_line_ok : {A : Type 0} (n : ℕ) (o : Option A) (a : A) → or_line n o ≡ ok a → o ≡ some a
unfolding or_line
or_line_ok n none a e = absurd (no_ok e)
or_line_ok n (some b) a e = ap some (ok_inj e)

-- one line that is given
pub record Gave (n : ℕ) (r : Reader) (l : Line) (ls : List Line) (m : Module) : Type 0 where
  pub says : is_line l ≡ true
  pub then : Reader
  pub taken : take_line n r l ≡ ok then
  pub rest : lines_give (suc n) then ls ≡ ok m

pub gave : (n : ℕ) (r : Reader) (l : Line) (ls : List Line) (m : Module) → lines_give n r (l ∷ ls) ≡ ok m → Gave n r l ls m
unfolding lines_give
gave n r l ls m e =
    let a = bind_ok (or_line n (provided (is_line l) l)) _ m e in
    let p = provided_some (is_line l) l a.0 (or_line_ok n (provided (is_line l) l) a.0 a.1) in
    let f : take_line n r l >>= (λ q. lines_give (suc n) q ls) ≡ ok m =
    subst (λ (k : Line). take_line n r k >>= (λ q. lines_give (suc n) q ls) ≡ ok m) (sym p.1) a.2 in
    let b = bind_ok (take_line n r l) (λ q. lines_give (suc n) q ls) m f in
    record { says = p.0; then = b.0; taken = b.1; rest = b.2 }

pub gives : (n : ℕ) (r : Reader) (l : Line) (ls : List Line) (m : Module) → Gave n r l ls m → lines_give n r (l ∷ ls) ≡ ok m
unfolding lines_give provided or_line ◌>>=◌
gives n r l ls m g = rw (g.says, g.taken, g.rest)

ended : (n : ℕ) (r : Reader) (m : Module) → lines_give n r [] ≡ ok m → (r.place ≡ 10) × (r.so_far ≡ m)
unfolding lines_give
ended n r m e =
    let p = provided_some (eqb r.place 10) r.so_far m (or_line_ok n _ m e) in
    (eqb_eq p.0, p.1)

pub ends : (n : ℕ) (r : Reader) (m : Module) → r.place ≡ 10 → r.so_far ≡ m → lines_give n r [] ≡ ok m
unfolding lines_give provided or_line
ends n r m e f = rw (e, f)

next_reads : (n : ℕ) (r : Reader) (l : Line) (bs : Bytes) (q : Reader) → read_line bs ≡ some l → take_line n r l ≡ ok q → next_line n r bs ≡ ok q
unfolding next_line or_line ◌>>=◌
next_reads n r l bs q a b = ap (λ (o : Option Line). or_line n o >>= λ k. take_line n r k) a ∙ b

next_was : (n : ℕ) (r : Reader) (bs : Bytes) (q : Reader) → next_line n r bs ≡ ok q → (l : Line) × (read_line bs ≡ some l) × (take_line n r l ≡ ok q)
unfolding next_line
next_was n r bs q e =
    let a = bind_ok (or_line n (read_line bs)) (λ l. take_line n r l) q e in
    (a.0, or_line_ok n (read_line bs) a.0 a.1, a.2)

-- What lines give is read from what they are written as,
give_read : (n : ℕ) (r : Reader) (ls : List Line) (m : Module) → lines_give n r ls ≡ ok m → read_lines n r (cut (lines_text ls)) ≡ ok m
unfolding lines_text read_lines cut is_empty provided or_line ◌>>=◌
give_read n r [] m e =
    let p = ended n r m e in
    rw (p.0, p.1)
give_read n r (l ∷ ls) m e =
    let g = gave n r l ls m e in
    let t : next_line n r (line_text l) ≡ ok g.then = next_reads n r l (line_text l) g.then (line_back l g.says) g.taken in
    ap (read_lines n r) (cut_line (line_text l) (lines_text ls) (line-line l g.says))
    ∙ ap (λ (x : Result Reader). x >>= λ q. read_lines (suc n) q (cut (lines_text ls))) t
    ∙ give_read (suc n) g.then ls m g.rest

-- and lines that are read were written so, and give what was read.
record WasRead (n : ℕ) (r : Reader) (bs : Bytes) (m : Module) : Type 0 where
  lines : List Line
  given : lines_give n r lines ≡ ok m
  same : bs ≡ lines_text lines

empty_is : (bs : Bytes) → is_empty bs ≡ true → bs ≡ []
unfolding is_empty
empty_is [] e = refl
empty_is (b ∷ bs) e = absurd (no_false e)

read_give : (n : ℕ) (r : Reader) (ls : Lines) (m : Module) → read_lines n r ls ≡ ok m → WasRead n r (uncut ls) m
unfolding read_lines uncut lines_text
read_give n r (end rest) m e =
    let p = provided_some (eqb r.place 10 && is_empty rest) r.so_far m (or_line_ok n _ m e) in
    let q = and_true (eqb r.place 10) (is_empty rest) p.0 in
    record { lines = []; given = ends n r m (eqb_eq q.0) p.1; same = empty_is rest q.1 }
read_give n r (line l ls) m e =
    let p = bind_ok (next_line n r l) _ m e in
    let a = next_was n r l p.0 p.1 in
    let w = line_was l a.0 a.1 in
    let g = read_give (suc n) p.0 ls m p.2 in
    record {
      lines = a.0 ∷ g.lines;
      given = gives n r a.0 g.lines m (record { says = w.1; then = p.0; taken = a.2; rest = g.given });
      same = ap (λ (x : Bytes). x ++ (10 ∷ uncut ls)) w.0 ∙ ap (λ (x : Bytes). line_text a.0 ++ (10 ∷ x)) g.same;
    }

-- ── What lines add up to ──────────────────────────────────────────────────────────────────

-- a module with the entries of lines after its own
unfoldable adds : Module → List Line → Module
adds m [] = m
adds m (l ∷ ls) = adds (add m l) ls

adds-append : (m : Module) (ks ls : List Line) → adds m (ks ++ ls) ≡ adds (adds m ks) ls
unfolding adds
adds-append m [] ls = refl
adds-append m (k ∷ ks) ls = adds-append (add m k) ks ls

-- a line that is taken: where it may follow, and what is added
pub record Took (r : Reader) (l : Line) (q : Reader) : Type 0 where
  pub follows : follow r.so_far.header r.place l ≡ some q.place
  pub room : limits r.so_far l ≡ none
  pub added : add r.so_far l ≡ q.so_far

pub took : (n : ℕ) (r : Reader) (l : Line) (q : Reader) → take_line n r l ≡ ok q → Took r l q
took n r l q e =
    let a = bind_ok (or_line n (follow r.so_far.header r.place l)) _ q e in
    let f = or_line_ok n (follow r.so_far.header r.place l) a.0 a.1 in
    let b = pass_ok (limits r.so_far l) (record { place = a.0; so_far = add r.so_far l }) q a.2 in
    record {
      follows = f ∙ ap (λ (z : Reader). some z.place) b.1;
      room = b.0;
      added = ap (λ (z : Reader). z.so_far) b.1;
    }

give_adds : (n : ℕ) (r : Reader) (ls : List Line) (m : Module) → lines_give n r ls ≡ ok m → m ≡ adds r.so_far ls
unfolding adds
give_adds n r [] m e = sym (ended n r m e).1
give_adds n r (l ∷ ls) m e =
    let g = gave n r l ls m e in
    let t = took n r l g.then g.taken in
    give_adds (suc n) g.then ls m g.rest ∙ ap (λ (z : Module). adds z ls) (sym t.added)

abbrev with_tables : Header → List Slot → List Shared → List Private → List ℕ → List Wire → List Sig → List Code → Module
with_tables h s r p e n g c = record { header = h; slots = s; shareds = r; privates = p; enums = e; natives = n; sigs = g; chunks = c }

-- one table, line by line
module _ {A : Type 0} (to : A → Line) (of : List A → Module) (step : (xs : List A) (x : A) → add (of xs) (to x) ≡ of (xs ++ (x ∷ []))) where
  adds_table : (xs ys : List A) → adds (of xs) (map to ys) ≡ of (xs ++ ys)
  unfolding adds
  adds_table xs [] = ap of (sym (append-nil xs))
  adds_table xs (y ∷ ys) =
      ap (λ (z : Module). adds z (map to ys)) (step xs y) ∙ adds_table (xs ++ (y ∷ [])) ys ∙ ap of (append_assoc xs (y ∷ []) ys)

  adds_all : (ys : List A) (ls : List Line) → adds (of []) (map to ys ++ ls) ≡ adds (of ys) ls
  adds_all ys ls = adds-append (of []) (map to ys) ls ∙ ap (λ (z : Module). adds z ls) (adds_table [] ys)

pub last_one : {A : Type 0} (f : A → A) (xs : List A) (x : A) → to_last f (xs ++ (x ∷ [])) ≡ xs ++ (f x ∷ [])
unfolding to_last
last_one f [] x = refl
last_one f (y ∷ []) x = refl
last_one f (y ∷ z ∷ xs) x = ap (λ (l : List _). y ∷ l) (last_one f (z ∷ xs) x)

abbrev pub code_of : ℕ → List ℕ → List Op → Code
code_of n ks os = record { locals = n; consts = ks; ops = os }

module _ (h : Header) (s : List Slot) (r : List Shared) (p : List Private) (e : List ℕ) (n : List Wire) (g : List Sig) where
  abbrev of_chunks : List Code → Module
  of_chunks cs = with_tables h s r p e n g cs

  const_step : (cs : List Code) (k : ℕ) (os : List Op) (ks : List ℕ) (x : ℕ) →
      add (of_chunks (cs ++ (code_of k ks os ∷ []))) (const_line x) ≡ of_chunks (cs ++ (code_of k (ks ++ (x ∷ [])) os ∷ []))
  unfolding add add_const
  const_step cs k os ks x = ap of_chunks (last_one (add_const x) cs (code_of k ks os))

  op_step : (cs : List Code) (k : ℕ) (ks : List ℕ) (os : List Op) (x : Op) →
      add (of_chunks (cs ++ (code_of k ks os ∷ []))) (op_line x) ≡ of_chunks (cs ++ (code_of k ks (os ++ (x ∷ [])) ∷ []))
  unfolding add add_op
  op_step cs k ks os x = ap of_chunks (last_one (add_op x) cs (code_of k ks os))

  adds_chunk : (cs : List Code) (c : Code) (ls : List Line) → adds (of_chunks cs) (chunk_lines c ls) ≡ adds (of_chunks (cs ++ (c ∷ []))) ls
  unfolding adds chunk_lines add
  adds_chunk cs c ls =
      adds_all const_line (λ ks. of_chunks (cs ++ (code_of c.locals ks [] ∷ []))) (const_step cs c.locals []) c.consts _
      ∙ adds_all op_line (λ os. of_chunks (cs ++ (code_of c.locals c.consts os ∷ []))) (op_step cs c.locals c.consts) c.ops _

  adds_chunks : (cs ds : List Code) → adds (of_chunks cs) (chunks_lines ds) ≡ of_chunks (cs ++ ds)
  unfolding adds chunks_lines add
  adds_chunks cs [] = ap of_chunks (sym (append-nil cs))
  adds_chunks cs (d ∷ ds) = adds_chunk cs d (chunks_lines ds) ∙ adds_chunks (cs ++ (d ∷ [])) ds ∙ ap of_chunks (append_assoc cs (d ∷ []) ds)

-- The lines of a module add up to it.
adds_lines : (before m : Module) → adds before (lines_of m) ≡ m
unfolding adds lines_of add
adds_lines before m =
    let h = m.header in
    adds_all slot_line (λ s. with_tables h s [] [] [] [] [] []) (λ xs x. refl) m.slots _
    ∙ adds_all shared_line (λ s. with_tables h m.slots s [] [] [] [] []) (λ xs x. refl) m.shareds _
    ∙ adds_all private_line (λ s. with_tables h m.slots m.shareds s [] [] [] []) (λ xs x. refl) m.privates _
    ∙ adds_all enum_line (λ s. with_tables h m.slots m.shareds m.privates s [] [] []) (λ xs x. refl) m.enums _
    ∙ adds_all native_line (λ s. with_tables h m.slots m.shareds m.privates m.enums s [] []) (λ xs x. refl) m.natives _
    ∙ adds_all sig_line (λ s. with_tables h m.slots m.shareds m.privates m.enums m.natives s []) (λ xs x. refl) m.sigs _
    ∙ adds_chunks h m.slots m.shareds m.privates m.enums m.natives m.sigs [] m.chunks

-- What is written is read as the same module.
written_given : (m x : Module) → lines_give 0 at_start (lines_of m) ≡ ok x → x ≡ m
written_given m x e = give_adds 0 at_start (lines_of m) x e ∙ adds_lines at_start.so_far m

pub ok_of : {A : Type 0} (r : Result A) → is_ok r ≡ true → (a : A) × (r ≡ ok a)
unfolding is_ok
ok_of (ok a) e = (a, refl)
ok_of (refused r) e = absurd (no_false e)

pub given_reads : (m : Module) → is_given m ≡ true → read (listing_of m) ≡ ok m
unfolding is_given read listing_of unless pass ◌>>=◌
given_reads m e =
    let p = and_true (leb (length (listing_of m)) 65536) _ e in
    let q = ok_of (lines_give 0 at_start (lines_of m)) p.1 in
    let g : lines_give 0 at_start (lines_of m) ≡ ok m = q.1 ∙ ap ok (written_given m q.0 q.1) in
    (rw p.0) ∙ give_read 0 at_start (lines_of m) m g

-- ── What lines that are taken are ─────────────────────────────────────────────────────────

-- the lines of tables after the header
abbrev table_lines : List Slot → List Shared → List Private → List ℕ → List Wire → List Sig → List Code → List Line
table_lines s r p e n g c =
    map slot_line s
    ++ (map shared_line r ++ (map private_line p ++ (map enum_line e ++ (map native_line n ++ (map sig_line g ++ chunks_lines c)))))

-- From a place among the tables on: the lines are those of tables, and those of earlier places are empty.
record TablesLeft (p : ℕ) (ls : List Line) : Type 0 where
  slots : List Slot
  shareds : List Shared
  privates : List Private
  enums : List ℕ
  natives : List Wire
  sigs : List Sig
  chunks : List Code
  same : ls ≡ table_lines slots shareds privates enums natives sigs chunks
  no_slots : 2 ≤ p → slots ≡ []
  no_shareds : 3 ≤ p → shareds ≡ []
  no_privates : 4 ≤ p → privates ≡ []
  no_enums : 5 ≤ p → enums ≡ []
  no_natives : 6 ≤ p → natives ≡ []
  no_sigs : 7 ≤ p → sigs ≡ []

-- From a place in a chunk on: constants, at the first of its places, then instructions, its end, and tables of which only chunks are left.
record ChunkLeft (p : ℕ) (ls : List Line) : Type 0 where
  consts : List ℕ
  ops : List Op
  chunks : List Code
  same : ls ≡ map const_line consts ++ (map op_line ops ++ (close_line ∷ chunks_lines chunks))
  no_consts : 9 ≤ p → consts ≡ []

-- the lines that are left from a place on
data Left (p : ℕ) (ls : List Line) : Type 0 where
  in_tables : p ≤ 7 → TablesLeft p ls → Left p ls
  in_chunk : 8 ≤ p → p ≤ 9 → ChunkLeft p ls → Left p ls
  at_end : p ≡ 10 → ls ≡ [] → Left p ls

left-tables : (p : ℕ) (ls : List Line) → p ≤ 7 → Left p ls → TablesLeft p ls
left-tables p ls h (in_tables a t) = t
left-tables p ls h (in_chunk a b t) = absurd (omega arith)
left-tables p ls h (at_end a t) = absurd (omega arith)

left_chunk : (p : ℕ) (ls : List Line) → 8 ≤ p → p ≤ 9 → Left p ls → ChunkLeft p ls
left_chunk p ls h k (in_tables a t) = absurd (omega arith)
left_chunk p ls h k (in_chunk a b t) = t
left_chunk p ls h k (at_end a t) = absurd (omega arith)

left_end : (p : ℕ) (ls : List Line) → p ≡ 10 → Left p ls → ls ≡ []
left_end p ls h (in_tables a t) = absurd (omega arith)
left_end p ls h (in_chunk a b t) = absurd (omega arith)
left_end p ls h (at_end a t) = t

-- a place at which a line may stand, and the place after it
placed : (a b p q r : ℕ) → provided (within a b p) q ≡ some r → (a ≤ p) × (p ≤ b) × (q ≡ r)
unfolding within
placed a b p q r e =
    let s = provided_some (leb a p && leb p b) q r e in
    let t = and_true (leb a p) (leb p b) s.0 in
    (leb→le a p (T_of t.0), leb→le p b (T_of t.1), s.1)

placed_and : (x : Bool) (a b p q r : ℕ) → provided (within a b p && x) q ≡ some r → (a ≤ p) × (p ≤ b) × (q ≡ r)
unfolding within
placed_and x a b p q r e =
    let s = provided_some ((leb a p && leb p b) && x) q r e in
    let u = and_true (leb a p && leb p b) x s.0 in
    let t = and_true (leb a p) (leb p b) u.0 in
    (leb→le a p (T_of t.0), leb→le p b (T_of t.1), s.1)

module _ (ls : List Line) (p q : ℕ) where
  slot_left : (x : Slot) → p ≤ 1 → 1 ≡ q → Left q ls → Left p (slot_line x ∷ ls)
  slot_left x b e l =
      let t = left-tables q ls (omega arith) l in
      in_tables (omega arith)
      (record {
        slots = x ∷ t.slots;
        shareds = t.shareds;
        privates = t.privates;
        enums = t.enums;
        natives = t.natives;
        sigs = t.sigs;
        chunks = t.chunks;
        same = ap (λ (z : List Line). slot_line x ∷ z) t.same;
        no_slots = λ h. absurd (omega arith);
        no_shareds = λ h. absurd (omega arith);
        no_privates = λ h. absurd (omega arith);
        no_enums = λ h. absurd (omega arith);
        no_natives = λ h. absurd (omega arith);
        no_sigs = λ h. absurd (omega arith);
      })

  shared_left : (x : Shared) → p ≤ 2 → 2 ≡ q → Left q ls → Left p (shared_line x ∷ ls)
  shared_left x b e l =
      let t = left-tables q ls (omega arith) l in
      let f : ls ≡ table_lines [] t.shareds t.privates t.enums t.natives t.sigs t.chunks =
      t.same ∙ (rw (t.no_slots (omega arith))) in
      in_tables (omega arith)
      (record {
        slots = [];
        shareds = x ∷ t.shareds;
        privates = t.privates;
        enums = t.enums;
        natives = t.natives;
        sigs = t.sigs;
        chunks = t.chunks;
        same = ap (λ (z : List Line). shared_line x ∷ z) f;
        no_slots = λ h. refl;
        no_shareds = λ h. absurd (omega arith);
        no_privates = λ h. absurd (omega arith);
        no_enums = λ h. absurd (omega arith);
        no_natives = λ h. absurd (omega arith);
        no_sigs = λ h. absurd (omega arith);
      })

  private_left : (x : Private) → p ≤ 3 → 3 ≡ q → Left q ls → Left p (private_line x ∷ ls)
  private_left x b e l =
      let t = left-tables q ls (omega arith) l in
      let f : ls ≡ table_lines [] [] t.privates t.enums t.natives t.sigs t.chunks =
      t.same ∙ (rw (t.no_slots (omega arith), t.no_shareds (omega arith))) in
      in_tables (omega arith)
      (record {
        slots = [];
        shareds = [];
        privates = x ∷ t.privates;
        enums = t.enums;
        natives = t.natives;
        sigs = t.sigs;
        chunks = t.chunks;
        same = ap (λ (z : List Line). private_line x ∷ z) f;
        no_slots = λ h. refl;
        no_shareds = λ h. refl;
        no_privates = λ h. absurd (omega arith);
        no_enums = λ h. absurd (omega arith);
        no_natives = λ h. absurd (omega arith);
        no_sigs = λ h. absurd (omega arith);
      })

  enum_left : (x : ℕ) → p ≤ 4 → 4 ≡ q → Left q ls → Left p (enum_line x ∷ ls)
  enum_left x b e l =
      let t = left-tables q ls (omega arith) l in
      let f : ls ≡ table_lines [] [] [] t.enums t.natives t.sigs t.chunks =
      t.same ∙ (rw (t.no_slots (omega arith), t.no_shareds (omega arith), t.no_privates (omega arith))) in
      in_tables (omega arith)
      (record {
        slots = [];
        shareds = [];
        privates = [];
        enums = x ∷ t.enums;
        natives = t.natives;
        sigs = t.sigs;
        chunks = t.chunks;
        same = ap (λ (z : List Line). enum_line x ∷ z) f;
        no_slots = λ h. refl;
        no_shareds = λ h. refl;
        no_privates = λ h. refl;
        no_enums = λ h. absurd (omega arith);
        no_natives = λ h. absurd (omega arith);
        no_sigs = λ h. absurd (omega arith);
      })

  native_left : (x : Wire) → p ≤ 5 → 5 ≡ q → Left q ls → Left p (native_line x ∷ ls)
  native_left x b e l =
      let t = left-tables q ls (omega arith) l in
      let f : ls ≡ table_lines [] [] [] [] t.natives t.sigs t.chunks =
      t.same ∙ (rw (t.no_slots (omega arith), t.no_shareds (omega arith), t.no_privates (omega arith), t.no_enums (omega arith))) in
      in_tables (omega arith)
      (record {
        slots = [];
        shareds = [];
        privates = [];
        enums = [];
        natives = x ∷ t.natives;
        sigs = t.sigs;
        chunks = t.chunks;
        same = ap (λ (z : List Line). native_line x ∷ z) f;
        no_slots = λ h. refl;
        no_shareds = λ h. refl;
        no_privates = λ h. refl;
        no_enums = λ h. refl;
        no_natives = λ h. absurd (omega arith);
        no_sigs = λ h. absurd (omega arith);
      })

  sig_left : (x : Sig) → p ≤ 6 → 6 ≡ q → Left q ls → Left p (sig_line x ∷ ls)
  sig_left x b e l =
      let t = left-tables q ls (omega arith) l in
      let f : ls ≡ table_lines [] [] [] [] [] t.sigs t.chunks =
      t.same
      ∙ (rw (
        t.no_slots (omega arith),
        t.no_shareds (omega arith),
        t.no_privates (omega arith),
        t.no_enums (omega arith),
        t.no_natives (omega arith),
      )) in
      in_tables (omega arith)
      (record {
        slots = [];
        shareds = [];
        privates = [];
        enums = [];
        natives = [];
        sigs = x ∷ t.sigs;
        chunks = t.chunks;
        same = ap (λ (z : List Line). sig_line x ∷ z) f;
        no_slots = λ h. refl;
        no_shareds = λ h. refl;
        no_privates = λ h. refl;
        no_enums = λ h. refl;
        no_natives = λ h. refl;
        no_sigs = λ h. absurd (omega arith);
      })

-- only chunks are left
chunks_left : (p : ℕ) (cs : List Code) → TablesLeft p (chunks_lines cs)
chunks_left p cs =
    record {
      slots = [];
      shareds = [];
      privates = [];
      enums = [];
      natives = [];
      sigs = [];
      chunks = cs;
      same = refl;
      no_slots = λ h. refl;
      no_shareds = λ h. refl;
      no_privates = λ h. refl;
      no_enums = λ h. refl;
      no_natives = λ h. refl;
      no_sigs = λ h. refl;
    }

only_chunks : (p : ℕ) (ls : List Line) (t : TablesLeft p ls) → 7 ≤ p → ls ≡ chunks_lines t.chunks
only_chunks p ls t h =
    t.same
    ∙ (rw (
      t.no_slots (omega arith),
      t.no_shareds (omega arith),
      t.no_privates (omega arith),
      t.no_enums (omega arith),
      t.no_natives (omega arith),
      t.no_sigs (omega arith),
    ))

module _ (ls : List Line) (p q : ℕ) where
  chunk_left : (n : ℕ) → p ≤ 7 → 8 ≡ q → Left q ls → Left p (chunk_line n ∷ ls)
  unfolding chunks_lines chunk_lines
  chunk_left n b e l =
      let t = left_chunk q ls (omega arith) (omega arith) l in
      let f : chunk_line n ∷ ls ≡ chunks_lines (code_of n t.consts t.ops ∷ t.chunks) = ap (λ (z : List Line). chunk_line n ∷ z) t.same in
      in_tables b (subst (TablesLeft p) (sym f) (chunks_left p (code_of n t.consts t.ops ∷ t.chunks)))

  const_left : (k : ℕ) → 8 ≤ p → p ≤ 8 → 8 ≡ q → Left q ls → Left p (const_line k ∷ ls)
  const_left k a b e l =
      let t = left_chunk q ls (omega arith) (omega arith) l in
      in_chunk a (omega arith)
      (record {
        consts = k ∷ t.consts;
        ops = t.ops;
        chunks = t.chunks;
        same = ap (λ (z : List Line). const_line k ∷ z) t.same;
        no_consts = λ h. absurd (omega arith);
      })

  op_left : (o : Op) → 8 ≤ p → p ≤ 9 → 9 ≡ q → Left q ls → Left p (op_line o ∷ ls)
  op_left o a b e l =
      let t = left_chunk q ls (omega arith) (omega arith) l in
      let f : ls ≡ map op_line t.ops ++ (close_line ∷ chunks_lines t.chunks) = t.same ∙ (rw (t.no_consts (omega arith))) in
      in_chunk a b
      (record {
        consts = [];
        ops = o ∷ t.ops;
        chunks = t.chunks;
        same = ap (λ (z : List Line). op_line o ∷ z) f;
        no_consts = λ h. refl;
      })

  close_left : 1 ≤ p → p ≤ 9 → choose (leb 8 p) 7 10 ≡ q → Left q ls → Left p (close_line ∷ ls)
  unfolding chunks_lines choose
  close_left a b e l = go (leb 8 p) refl e
    where
      go : (x : Bool) → leb 8 p ≡ x → choose x 7 10 ≡ q → Left p (close_line ∷ ls)
      go true h f =
          let z : 8 ≤ p = leb→le 8 p (T_of h) in
          let t = left-tables q ls (omega arith) l in
          in_chunk z b
          (record {
            consts = [];
            ops = [];
            chunks = t.chunks;
            same = ap (λ (y : List Line). close_line ∷ y) (only_chunks q ls t (omega arith));
            no_consts = λ y. refl;
          })
      go false h f =
          let z : p ≤ 7 = omega (arith, leb-false 8 p h) in
          let g : ls ≡ [] = left_end q ls (sym f) l in
          in_tables z (subst (λ (y : List Line). TablesLeft p (close_line ∷ y)) (sym g) (chunks_left p []))

-- one more line in front, where it may follow
left_more : (h : Header) (p q : ℕ) (l : Line) (ls : List Line) → follow h p l ≡ some q → 1 ≤ p → Left q ls → Left p (l ∷ ls)
unfolding follow
left_more h p q (first_line n) ls e k t = let w = placed_and _ 0 0 p 1 q e in absurd (omega arith)
left_more h p q (slot_line x) ls e k t = let w = placed 1 1 p 1 q e in slot_left ls p q x w.1 w.2 t
left_more h p q (shared_line x) ls e k t = let w = placed 1 2 p 2 q e in shared_left ls p q x w.1 w.2 t
left_more h p q (private_line x) ls e k t = let w = placed 1 3 p 3 q e in private_left ls p q x w.1 w.2 t
left_more h p q (enum_line x) ls e k t = let w = placed 1 4 p 4 q e in enum_left ls p q x w.1 w.2 t
left_more h p q (native_line x) ls e k t = let w = placed 1 5 p 5 q e in native_left ls p q x w.1 w.2 t
left_more h p q (sig_line x) ls e k t = let w = placed 1 6 p 6 q e in sig_left ls p q x w.1 w.2 t
left_more h p q (chunk_line n) ls e k t = let w = placed 1 7 p 8 q e in chunk_left ls p q n w.1 w.2 t
left_more h p q (const_line x) ls e k t = let w = placed 8 8 p 8 q e in const_left ls p q x w.0 w.1 w.2 t
left_more h p q (op_line o) ls e k t = let w = placed_and _ 8 9 p 9 q e in op_left ls p q o w.0 w.1 w.2 t
left_more h p q close_line ls e k t = let w = placed 1 9 p (choose (leb 8 p) 7 10) q e in close_left ls p q w.0 w.1 w.2 t

choose_low : (b : Bool) → 1 ≤ choose b 7 10
unfolding choose
choose_low true = omega arith
choose_low false = omega arith

-- no line leads back to the place before the first
follow_on : (h : Header) (p q : ℕ) (l : Line) → follow h p l ≡ some q → 1 ≤ q
unfolding follow
follow_on h p q (first_line n) e = let w = placed_and _ 0 0 p 1 q e in omega arith
follow_on h p q (slot_line x) e = let w = placed 1 1 p 1 q e in omega arith
follow_on h p q (shared_line x) e = let w = placed 1 2 p 2 q e in omega arith
follow_on h p q (private_line x) e = let w = placed 1 3 p 3 q e in omega arith
follow_on h p q (enum_line x) e = let w = placed 1 4 p 4 q e in omega arith
follow_on h p q (native_line x) e = let w = placed 1 5 p 5 q e in omega arith
follow_on h p q (sig_line x) e = let w = placed 1 6 p 6 q e in omega arith
follow_on h p q (chunk_line n) e = let w = placed 1 7 p 8 q e in omega arith
follow_on h p q (const_line x) e = let w = placed 8 8 p 8 q e in omega arith
follow_on h p q (op_line o) e = let w = placed_and _ 8 9 p 9 q e in omega arith
follow_on h p q close_line e = let w = placed 1 9 p (choose (leb 8 p) 7 10) q e in omega (arith, choose_low (leb 8 p))

give_left : (n : ℕ) (r : Reader) (ls : List Line) (m : Module) → lines_give n r ls ≡ ok m → 1 ≤ r.place → Left r.place ls
give_left n r [] m e h = at_end (ended n r m e).0 refl
give_left n r (l ∷ ls) m e h =
    let g = gave n r l ls m e in
    let t = took n r l g.then g.taken in
    left_more r.so_far.header r.place g.then.place l ls t.follows h
    (give_left (suc n) g.then ls m g.rest (follow_on r.so_far.header r.place g.then.place l t.follows))

-- the first line is the header's
first_is : (h : Header) (q : ℕ) (l : Line) → follow h 0 l ≡ some q → (n : Header) × (l ≡ first_line n) × (1 ≡ q)
unfolding follow
first_is h q (first_line n) e = (n, refl, (placed_and _ 0 0 0 1 q e).2)
first_is h q (slot_line x) e = let w = placed 1 1 0 1 q e in absurd (omega arith)
first_is h q (shared_line x) e = let w = placed 1 2 0 2 q e in absurd (omega arith)
first_is h q (private_line x) e = let w = placed 1 3 0 3 q e in absurd (omega arith)
first_is h q (enum_line x) e = let w = placed 1 4 0 4 q e in absurd (omega arith)
first_is h q (native_line x) e = let w = placed 1 5 0 5 q e in absurd (omega arith)
first_is h q (sig_line x) e = let w = placed 1 6 0 6 q e in absurd (omega arith)
first_is h q (chunk_line n) e = let w = placed 1 7 0 8 q e in absurd (omega arith)
first_is h q (const_line x) e = let w = placed 8 8 0 8 q e in absurd (omega arith)
first_is h q (op_line o) e = let w = placed_and _ 8 9 0 9 q e in absurd (omega arith)
first_is h q close_line e = let w = placed 1 9 0 (choose (leb 8 0) 7 10) q e in absurd (omega arith)

-- Lines that give a module are that module's lines.
given_lines : (ls : List Line) (m : Module) → lines_give 0 at_start ls ≡ ok m → ls ≡ lines_of m
unfolding lines_of at_start
given_lines [] m e = let p = ended 0 at_start m e in absurd (omega arith)
given_lines (l ∷ ls) m e =
    let g = gave 0 at_start l ls m e in
    let t = took 0 at_start l g.then g.taken in
    let f = first_is at_start.so_far.header g.then.place l t.follows in
    let b = left-tables g.then.place ls (omega (arith, f.2)) (give_left 1 g.then ls m g.rest (omega (arith, f.2))) in
    let x : Module = with_tables f.0 b.slots b.shareds b.privates b.enums b.natives b.sigs b.chunks in
    let k : l ∷ ls ≡ lines_of x = ap (λ (z : Line). z ∷ ls) f.1 ∙ ap (λ (z : List Line). first_line f.0 ∷ z) b.same in
    let y : m ≡ x = written_given x m (subst (λ (z : List Line). lines_give 0 at_start z ≡ ok m) k e) in
    k ∙ ap lines_of (sym y)

-- ── The writer ────────────────────────────────────────────────────────────────────────────

-- A listing that is read is written as the same bytes,
pub read_again : (bs : Bytes) (m : Module) → read bs ≡ ok m → (listing_of m ≡ bs) × (is_given m ≡ true)
unfolding read is_given listing_of is_ok
read_again bs m e =
    let p = bind_ok (pass (unless (leb (length bs) 65536) (limit 1)) bs) _ m e in
    let q = pass_ok (unless (leb (length bs) 65536) (limit 1)) bs p.0 p.1 in
    let w = read_give 0 at_start (cut p.0) m p.2 in
    let k : w.lines ≡ lines_of m = given_lines w.lines m w.given in
    let s : lines_text (lines_of m) ≡ bs = ap lines_text (sym k) ∙ sym w.same ∙ uncut-cut p.0 ∙ sym q.1 in
    let g : lines_give 0 at_start (lines_of m) ≡ ok m = subst (λ (z : List Line). lines_give 0 at_start z ≡ ok m) k w.given in
    let l : leb (length bs) 65536 ≡ true = unless_none (leb (length bs) 65536) (limit 1) q.0 in
    (s, (rw (s, l, g)))

-- "a listing that reads is written as the same bytes",
pub read_written : (bs : Bytes) (m : Module) → read bs ≡ ok m → write m ≡ ok bs
unfolding write unless pass
read_written bs m e = let p = read_again bs m e in rw (p.1, p.0)

-- and "What it writes is read as the same module".
pub written_read : (m : Module) (bs : Bytes) → write m ≡ ok bs → read bs ≡ ok m
unfolding write
written_read m bs e =
    let p = pass_ok (unless (is_given m) (1 ∷ 0 ∷ 0 ∷ [])) (listing_of m) bs e in
    ap read (sym p.1) ∙ given_reads m (unless_none (is_given m) (1 ∷ 0 ∷ 0 ∷ []) p.0)

-- and the test is whether some listing gives the module.
pub given_some : (m : Module) → is_given m ≡ true → (bs : Bytes) × (read bs ≡ ok m)
given_some m e = (listing_of m, given_reads m e)

pub given_none : (m : Module) → is_given m ≡ false → (bs : Bytes) → read bs ≡ ok m → ⊥
given_none m e bs f = let p = read_again bs m f in no_false (sym e ∙ p.1)

more_leb : (a b : ℕ) → b < a → leb a b ≡ false
more_leb a b l = go (leb a b) refl
  where
    go : (x : Bool) → leb a b ≡ x → x ≡ false
    go true e = absurd (omega (arith, leb→le a b (T_of e)))
    go false e = refl

put-length : (t : Bool) (bs buffer : Bytes) → leb (length bs) (length buffer) ≡ t → length (put t bs buffer).buffer ≡ length buffer
unfolding put
put-length true bs buffer e =
    omega (arith, leb→le (length bs) (length buffer) (T_of e), length-append bs (drop (length bs) buffer), length-drop (length bs) buffer)
put-length false bs buffer e = refl

result-length : (r : Result Bytes) (buffer : Bytes) → length (put_result r buffer).buffer ≡ length buffer
unfolding put_result
result-length (refused r) buffer = refl
result-length (ok bs) buffer = put-length (leb (length bs) (length buffer)) bs buffer refl

-- ── The writing call ──────────────────────────────────────────────────────────────────────

-- A module that a listing gives is written as that listing where there is room, and bytes beyond it keep their values;
pub into_room : (bs : Bytes) (m : Module) (buffer : Bytes) → read bs ≡ ok m → length bs ≤ length buffer →
    write_into m buffer ≡ record { answer = ok (length bs); buffer = bs ++ drop (length bs) buffer }
unfolding write_into put_result put
into_room bs m buffer e l =
    ap (λ (r : Result Bytes). put_result r buffer) (read_written bs m e) ∙ ap (λ (t : Bool). put t bs buffer) (le-leb (length bs) (length buffer) l)

-- where there is none, 20 says how much it needs;
pub into_short : (bs : Bytes) (m : Module) (buffer : Bytes) → read bs ≡ ok m → length buffer < length bs →
    write_into m buffer ≡ record { answer = refused (20 ∷ 0 ∷ length bs ∷ []); buffer = buffer }
unfolding write_into put_result put
into_short bs m buffer e l =
    ap (λ (r : Result Bytes). put_result r buffer) (read_written bs m e)
    ∙ ap (λ (t : Bool). put t bs buffer) (more_leb (length bs) (length buffer) l)

-- and a module that no listing gives is 1, line 0, whatever the buffer.
pub into_none : (m : Module) (buffer : Bytes) → ((bs : Bytes) → read bs ≡ ok m → ⊥) →
    write_into m buffer ≡ record { answer = refused (1 ∷ 0 ∷ 0 ∷ []); buffer = buffer }
unfolding write_into put_result write unless pass
into_none m buffer h = go (is_given m) refl
  where
    go : (x : Bool) → is_given m ≡ x → write_into m buffer ≡ record { answer = refused (1 ∷ 0 ∷ 0 ∷ []); buffer = buffer }
    go true e = absurd (h (listing_of m) (given_reads m e))
    go false e = rw e

-- No buffer changes its length.
pub into_length : (m : Module) (buffer : Bytes) → length (write_into m buffer).buffer ≡ length buffer
unfolding write_into
into_length m buffer = result-length (write m) buffer

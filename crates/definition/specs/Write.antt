-- Writing: from a module back to its listing. 02, S-2: "a writer that puts a read module into a lent buffer in the listing's own form".
use Rattle.std.specs.Prelude.{Bool, true, false, ◌&&◌, List, [], ◌∷◌, ◌++◌, map, ℕ, suc, length, drop, leb, eqb}
use Rattle.std.proofs.Math.Option.{Option, none, some}
use Rattle.std.proofs.Math.ListN.{get_elem?}
use Rattle.definition.specs.Basics.{Result, ok, refused, ◌>>=◌, unless, pass, is_member}
use Rattle.definition.specs.Shapes.{Wire, top, scalar_w, flat_w}
use Rattle.definition.specs.Format.{Bytes, bytes, decimal, provided, Item, text, number, among, numbers, shape, shapes, Maker}
use Rattle.definition.specs.Format.{top_items, scalar_items, flat_items}
use Rattle.definition.specs.Ops.{Row, ops}
use Rattle.definition.specs.Module.{Slot, shared, private, Code, Module}
use Rattle.definition.specs.Read.{Line, first_line, slot_line, shared_line, private_line, enum_line, native_line, sig_line, chunk_line, const_line}
use Rattle.definition.specs.Read.{op_line, close_line, header_items, slot_items, shared_items, private_items, enum_items, native_items, sig_items}
use Rattle.definition.specs.Read.{chunk_items, const_items, op_items, close_items, Reader, at_start, or_line, take_line}

-- ── Items written ─────────────────────────────────────────────────────────────────────────

-- "one space between words": a number with the space before it
unfoldable pub spaced : ℕ → Bytes
spaced n = 32 ∷ decimal n

-- numbers, or shapes, each as it is written
unfoldable pub all_written : {A : Type 0} → (A → Bytes) → List A → Bytes
all_written f [] = []
all_written f (x ∷ xs) = f x ++ all_written f xs

-- The bytes of items, from the values that they hold, after some others. It takes the values as `parse` hands them on; `writer` writes a shape.
unfoldable pub render : (Wire → Bytes) → Bytes → (is : List Item) → Maker is Bytes
render writer bs [] = bs
render writer bs (text s ∷ is) = render writer (bs ++ bytes s) is
render writer bs (number m ∷ is) = λ n. render writer (bs ++ spaced n) is
render writer bs (among ns ∷ is) = λ n. render writer (bs ++ spaced n) is
render writer bs (numbers ms ∷ is) = λ ns. render writer (bs ++ all_written spaced ns) is
render writer bs (shape ∷ is) = λ w. render writer (bs ++ writer w) is
render writer bs (shapes ∷ is) = λ ws. render writer (bs ++ all_written writer ws) is

-- as many numbers as maxima, each at most its maximum
unfoldable pub are_within : List ℕ → List ℕ → Bool
are_within [] [] = true
are_within [] (n ∷ ns) = false
are_within (m ∷ ms) [] = false
are_within (m ∷ ms) (n ∷ ns) = leb n m && are_within ms ns

-- the test holds of each
unfoldable pub all_pass : {A : Type 0} → (A → Bool) → List A → Bool
all_pass f [] = true
all_pass f (x ∷ xs) = f x && all_pass f xs

-- Whether items may hold the values, where b is so of those before; `test` is that of a shape.
unfoldable pub admits : (Wire → Bool) → Bool → (is : List Item) → Maker is Bool
admits test b [] = b
admits test b (text s ∷ is) = admits test b is
admits test b (number m ∷ is) = λ n. admits test (b && leb n m) is
admits test b (among ns ∷ is) = λ n. admits test (b && is_member n ns) is
admits test b (numbers ms ∷ is) = λ ns. admits test (b && are_within ms ns) is
admits test b (shape ∷ is) = λ w. admits test (b && test w) is
admits test b (shapes ∷ is) = λ ws. admits test (b && all_pass test ws) is

-- ── Shapes and lines written ──────────────────────────────────────────────────────────────

-- A function of items and their values, at those of a shape.
unfoldable pub at_shape : {A : Type 0} → ((is : List Item) → Maker is A) → Wire → A
at_shape f top = f top_items
at_shape f (scalar_w k) = f scalar_items k
at_shape f (flat_w k n) = f flat_items k n

-- a shape as it is written, with the space before it; no shape holds another
unfoldable pub shape_text : Wire → Bytes
shape_text = at_shape (render (λ w. []) [])

-- its numbers are those of a listing's shape
unfoldable pub is_shape : Wire → Bool
is_shape = at_shape (admits (λ w. false) true)

-- A function of items and their values, at those of an op; a code without a row has no form, and an item that admits no number stands for it.
unfoldable pub at_row : {A : Type 0} → ((is : List Item) → Maker is A) → Option Row → List ℕ → A
at_row f none ns = f (among [] ∷ []) 0
at_row f (some r) ns = f (op_items r) ns

-- A function of items and their values, at those of a slot.
unfoldable pub at_slot : {A : Type 0} → ((is : List Item) → Maker is A) → Slot → A
at_slot f shared = f (slot_items shared)
at_slot f private = f (slot_items private)

-- A function of items and their values, at those of a line.
unfoldable pub at_line : {A : Type 0} → ((is : List Item) → Maker is A) → Line → A
at_line f (first_line h) =
    f header_items h.word h.float h.address_log h.shared_bytes h.pool_bytes h.index_trap h.host_trap
at_line f (slot_line s) = at_slot f s
at_line f (shared_line s) = f shared_items s.offset s.kind s.len
at_line f (private_line s) = f private_items s.slot s.offset
at_line f (enum_line n) = f enum_items n
at_line f (native_line w) = f native_items w
at_line f (sig_line g) = f sig_items g.ret g.resume g.params
at_line f (chunk_line n) = f chunk_items n
at_line f (const_line k) = f const_items k
at_line f (op_line o) = at_row f (get_elem? ops o.code) o.operands
at_line f close_line = f close_items

-- a line as it is written, without its LF
unfoldable pub line_text : Line → Bytes
line_text = at_line (render shape_text [])

-- its numbers are those of a listing's line
unfoldable pub is_line : Line → Bool
is_line = at_line (admits is_shape true)

-- ── The module written ────────────────────────────────────────────────────────────────────

-- "A chunk is `(chunk LOCALS` .., lines `(const K)`, lines `(op NAME ...)`, then `)`.": its lines, before others
unfoldable pub chunk_lines : Code → List Line → List Line
chunk_lines c ls = chunk_line c.locals ∷ (map const_line c.consts ++ (map op_line c.ops ++ (close_line ∷ ls)))

-- the lines of chunks; "A last `)` closes the module."
unfoldable pub chunks_lines : List Code → List Line
chunks_lines [] = close_line ∷ []
chunks_lines (c ∷ cs) = chunk_lines c (chunks_lines cs)

-- The lines of a module, in the order of 01.
unfoldable pub lines_of : Module → List Line
lines_of m =
    first_line m.header
    ∷ (map slot_line m.slots
    ++ (map shared_line m.shareds
    ++ (map private_line m.privates
    ++ (map enum_line m.enums
    ++ (map native_line m.natives
    ++ (map sig_line m.sigs
    ++ chunks_lines m.chunks))))))

-- "LF after each line."
unfoldable pub lines_text : List Line → Bytes
lines_text [] = []
lines_text (l ∷ ls) = line_text l ++ (10 ∷ lines_text ls)

-- a module as it is written
unfoldable pub listing_of : Module → Bytes
listing_of m = lines_text (lines_of m)

-- ── A module that no listing gives ────────────────────────────────────────────────────────

-- The module that lines give, after n others, by the reader's own rules: what each may say, where it may follow, and the limits.
unfoldable pub lines_give : ℕ → Reader → List Line → Result Module
lines_give n r [] = or_line n (provided (eqb r.place 10) r.so_far)
lines_give n r (l ∷ ls) = or_line n (provided (is_line l) l) >>= λ k. take_line n r k >>= λ q. lines_give (suc n) q ls

-- no refusal
unfoldable pub is_ok : {A : Type 0} → Result A → Bool
is_ok (ok a) = true
is_ok (refused r) = false

-- Some listing gives the module: its lines do, and they have no more than 65,536 bytes.
unfoldable pub is_given : Module → Bool
is_given m = leb (length (listing_of m)) 65536 && is_ok (lines_give 0 at_start (lines_of m))

-- "A module that no listing gives is 1, line 0."
unfoldable pub write : Module → Result Bytes
write m = pass (unless (is_given m) (1 ∷ 0 ∷ 0 ∷ [])) (listing_of m)

-- ── The call ──────────────────────────────────────────────────────────────────────────────

-- What the call gives: the length written, or a refusal; and the content of the lent buffer.
pub record Written : Type 0 where
  pub answer : Result ℕ
  pub buffer : Bytes

-- "It reports the length written; bytes beyond that keep their values. 20 when the buffer is shorter than the listing needs, with the length needed. ..
-- Both leave the buffer untouched."
unfoldable pub put : Bool → Bytes → Bytes → Written
put true bs buffer = record { answer = ok (length bs); buffer = bs ++ drop (length bs) buffer }
put false bs buffer = record { answer = refused (20 ∷ 0 ∷ length bs ∷ []); buffer = buffer }

-- a refusal, or the bytes where they have room
unfoldable pub put_result : Result Bytes → Bytes → Written
put_result (refused r) buffer = record { answer = refused r; buffer = buffer }
put_result (ok bs) buffer = put (leb (length bs) (length buffer)) bs buffer

-- The writing call, for any module and any buffer.
unfoldable pub write_into : Module → Bytes → Written
write_into m buffer = put_result (write m) buffer

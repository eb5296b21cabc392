-- A whole text in the buffer. Assumes nothing.
use Rattle.std.proofs.Common.{◌≡◌, ◌∙◌, List, ℕ, ◌≤◌, drop, length, length-append, arith}
use Rattle.std.proofs.Math.Seq.{take-append_seam}
use Rattle.std.specs.Borrow.{MutBor}
use Rattle.definition.specs.Format.{Bytes}
use Rattle.text_out.specs.declared.Text.{Text}
use Rattle.text_out.specs.Text.{started, with_text, text_length, after_text}
use Rattle.text_out.proofs.Laws.{after_text-most, laid-whole}
use Rattle.printed.specs.Writes.{Holds}

-- It is put from the start of a buffer of ROOM bytes.
pub holds : (out : MutBor (List ℕ)) (t s : Text) (n : ℕ) (x : Bytes) → t ≡ started out → s ≡ with_text t x → n ≡ text_length s → length out.now ≡ 73746 → length x ≤ 73746 →
    Holds s.out.now n x
holds out t s n x d e f l h =
    let p : after_text 0 x ≡ length x = after_text-most 0 x (omega arith) ∙ omega arith in
    let q = laid-whole out.now x (omega arith) (omega arith) in
    rw (f, e, d)
    (record {
      front = rw (p, q) (take-append_seam x (drop (length x) out.now));
      within = rw (p, q) (omega (arith, length-append x (drop (length x) out.now)));
    })

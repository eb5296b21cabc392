-- The first text, one code more, or a value that is not there or that no listing says. Assumes nothing.
use Rattle.std.proofs.Common.{refl, rules}
use Rattle.writer.proofs.Formats.{puts_text, puts_letter, puts_left_shapes, puts_left_value, puts_lost_value, puts_no_value}
use Rattle.writer.proofs.put_form.Goals as goal
use Rattle.writer.proofs.put_form.Goals.{in-141+in_ok-put_shapes-in-141, in_default, in_default-2+in_ok-word-in_default-2+in_ok-put_value-in_default-2}

pub loop-code-init : goal.loop-code-init
loop-code-init c = puts_text _ _ _ _ _ _ _ c.text.ensures c.codes-codes.ensures c.bytes.ensures

pub loop-code-preserved : goal.loop-code-preserved
loop-code-preserved c = elim c.match-code.branch [
  | in-141+in_ok-put_shapes-in-141 w ↦
      rw (w.text-is, w.left-is) (puts_left_shapes _ _ c.codes-codes.result.now _ c.loop-code.code-index _ c.loop-code.invariant _ c.loop-code-test.true refl _ w.in-141.is w.in_ok-put_shapes-in-141.ensures)
  | in_default w ↦ rw (w.text-is, w.left-is) (puts_letter _ _ c.codes-codes.result.now _ c.loop-code.code-index _ c.loop-code.invariant _ c.loop-code-test.true refl _ w.if-letter-lt-BITS_8.true w.byte.ensures)
  | in_default-2+in_ok-word-in_default-2+in_ok-put_value-in_default-2 w ↦
      rw (w.text-is, w.left-is)
      (puts_left_value _ _ c.codes-codes.result.now _ c.loop-code.code-index _ c.loop-code.invariant _ c.loop-code-test.true refl w.if-letter-lt-BITS_8.false (search rules) _ _ _ w.in_ok-word-in_default-2.ensures.cases.0 w.in_ok-put_value-in_default-2.ensures)
]

pub returns-in_err-word-in_default-2 : goal.returns-in_err-word-in_default-2
returns-in_err-word-in_default-2 c =
    rw c.from_residual-in_err-word-in_default-2.ensures
    (puts_no_value _ _ c.codes-codes.result.now _ c.loop-code.code-index _ c.loop-code.invariant _ c.loop-code-test.true refl c.if-letter-lt-BITS_8.false (search rules) c.in_err-word-in_default-2.ensures.cases)

pub returns-in_err-put_value-in_default-2 : goal.returns-in_err-put_value-in_default-2
returns-in_err-put_value-in_default-2 c =
    rw c.from_residual-in_err-put_value-in_default-2.ensures
    (puts_lost_value _ _ c.codes-codes.result.now _ c.loop-code.code-index _ c.loop-code.invariant _ c.loop-code-test.true refl c.if-letter-lt-BITS_8.false (search rules) _ _ _ c.in_ok-word-in_default-2.ensures.cases.0 c.in_err-put_value-in_default-2.ensures)

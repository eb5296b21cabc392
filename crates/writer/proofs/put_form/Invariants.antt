-- What is put, and what is left to say from a code on, with the words that are left. Assumes nothing.
use Rattle.std.proofs.Common.{get_or, drop, []}
use Rattle.definition.specs.Read.{line_forms}
use Rattle.listing.specs.Forms.{form_number}
use Rattle.listing.specs.Scan.{form_codes}
use Rattle.writer.specs.Say.{say}
use Rattle.writer.proofs.Putting.{Putting}
use Rattle.writer.proofs.put_form.Given as goal

abbrev pub invariant-loop-code : goal.invariant-loop-code
invariant-loop-code l = Putting l.fn.text l.text (say (drop l.code-index l.codes) l.left) (say (get_or (form_codes line_forms) (form_number l.fn.form) []) l.words)

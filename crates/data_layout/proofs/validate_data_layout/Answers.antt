-- `data_layout::validate_data_layout` meets its contract. Assumes nothing.
use Rattle.std.proofs.Common.{refl}
use Rattle.std.proofs.lemmas.Result.{err_from_is_err_and}
use Rattle.definition.specs.Basics.{first}
use Rattle.definition.specs.Layout.{layout_test}
use Rattle.bytecode.specs.Meaning.{module_of}
use Rattle.answer.specs.Answer.{found_in_none}
use Rattle.data_layout.proofs.validate_data_layout.Goals as goal

pub returns-in_err-count_mismatch : goal.returns-in_err-count_mismatch
unfolding layout_test module_of found_in_none first
returns-in_err-count_mismatch c =
    let p = err_from_is_err_and c.from_residual.result c.from_residual.ensures.1 in
    rw (p.1, p.2, ← c.count_mismatch.ensures, c.in_err-count_mismatch.was) refl

pub returns-in_err-shared_slots : goal.returns-in_err-shared_slots
unfolding layout_test module_of found_in_none first
returns-in_err-shared_slots c =
    let p = err_from_is_err_and c.from_residual-in_err-shared_slots.result c.from_residual-in_err-shared_slots.ensures.1 in
    rw (p.1, p.2, ← c.count_mismatch.ensures, c.in_ok-count_mismatch.was, ← c.shared_slots.ensures, c.in_err-shared_slots.was) refl

pub returns : goal.returns
unfolding layout_test module_of found_in_none first
returns c = rw (c.private_entries.ensures, ← c.count_mismatch.ensures, c.in_ok-count_mismatch.was, ← c.shared_slots.ensures, c.in_ok-shared_slots.was) refl

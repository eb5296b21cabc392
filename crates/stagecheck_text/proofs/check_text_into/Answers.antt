-- `stagecheck_text::check_text_into` meets its contract. Assumes nothing.
use mathlib.Core.Path.{sym}
use native.Mathlib.Omega.{arith}
use lib.Seq.{length-take-le}
use Rattle.stagecheck_text.proofs.Laws.{renamed, first_few, words_eight, count_few, refused_text, room, accepted_is}
use Rattle.stagecheck_text.proofs.check_text_into.Goals as goal

pub print_accepted-requires : goal.print_accepted-requires
print_accepted-requires c = room c.args.listing.now c.check_into.new.t c.check_into.new.heights c.check_into.new.blinds c.check_into.result c.check_into.ensures.equal c.in-Ok.is c.check_into.ensures.sound.1

pub slice_bounds-words-end : goal.slice_bounds-words-end
slice_bounds-words-end c = omega (arith, words_eight _ _ c.from-count.result c.from-count.ensures, count_few _ _ c.from-count.result c.from-count.ensures)

pub slice_bounds-print_refused-end : goal.slice_bounds-print_refused-end
slice_bounds-print_refused-end c = sym (length-take-le _ c.from-count.result.words (omega (arith, words_eight _ _ c.from-count.result c.from-count.ensures, count_few _ _ c.from-count.result c.from-count.ensures)))

pub print_refused-requires : goal.print_refused-requires
print_refused-requires c = search (first_few, words_eight _ _ c.from-count.result c.from-count.ensures)

pub returns-in-Ok : goal.returns-in-Ok
returns-in-Ok c = renamed (accepted_is c.args.listing.now c.check_into.new.t c.check_into.new.heights c.check_into.new.blinds c.check_into.result c.check_into.ensures.equal c.in-Ok.is c.check_into.ensures.sound.1) c.print_accepted.ensures

pub returns-in-Err : goal.returns-in-Err
returns-in-Err c = renamed (refused_text c.args.listing.now c.check_into.new.t c.check_into.new.heights c.check_into.new.blinds c.check_into.result c.check_into.ensures.equal c.from-count.result c.in-Err.is c.from-count.ensures) c.print_refused.ensures

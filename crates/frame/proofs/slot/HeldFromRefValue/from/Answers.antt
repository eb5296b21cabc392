use Rattle.frame.proofs.Words.{plain_word, held_word}
use Rattle.frame.proofs.slot.HeldFromRefValue.from.Goals as goal

pub returns-in_default : goal.returns-in_default
returns-in_default c = plain_word c.args.v.now c.from.result c.in_default.is (c.from.ensures tt)

pub returns : goal.returns
returns c =
    let places = c.as_slice-places in
    held_word c.args.v.now c.from-2.result c.in-Some.places places.result.now c.in-Some.is places.ensures.value (c.from-2.ensures (let few = places.ensures.few in rw places.ensures.value few))

use Rattle.stagecheck_c.proofs.Laws.{given_all, sound_all}
use Rattle.stagecheck_c.proofs.stagecheck_check_in.Goals as goal

pub returns-clause-given : goal.returns-clause-given
returns-clause-given c = rw c.give.ensures.0 (given_all _ c.check_into-checked.result c.from.result _ _ _ c.check_into-checked.ensures.equal c.from.ensures c.give.ensures.1)

pub returns-clause-sound : goal.returns-clause-sound
returns-clause-sound c = sound_all _ _ c.check_into-checked.result _ _ c.check_into-checked.ensures.equal c.check_into-checked.ensures.sound.0

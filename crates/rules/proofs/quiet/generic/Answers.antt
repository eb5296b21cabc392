use Rattle.std.proofs.Common.{refl, sym, ◌∙◌}
use Rattle.rules.proofs.Rules.{generic_rules}
use Rattle.rules.proofs.quiet.generic.Goals as goal

pub returns : goal.returns
returns c = λ d ip i s g n z. rw c.passing.ensures (generic_rules d s ip i _ g n (sym z ∙ c.produced.ensures) c.unknown_value.ensures refl)

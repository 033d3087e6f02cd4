use Rattle.reduction.proofs.One.{one_effect}
use Rattle.reduction.proofs.laws.steps_have_one_effect.Goals as goal

pub returns : goal.returns
returns c = record { laws = one_effect }

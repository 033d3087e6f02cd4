use Rattle.sustaining.proofs.AllLaws.{step_laws}
use Rattle.sustaining.proofs.laws.steps_keep_their_laws.Goals as goal

pub returns : goal.returns
returns c = record { laws = step_laws }

use Rattle.keeping.proofs.AllLaws.{keeping_laws}
use Rattle.keeping.proofs.laws.calls_keep_networks_sound.Goals as goal

pub returns : goal.returns
returns c = record { laws = keeping_laws }

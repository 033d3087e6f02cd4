use Rattle.edges.proofs.Enabling.{enabling_laws}
use Rattle.edges.proofs.laws.enabling_keeps_its_laws.Goals as goal

pub returns : goal.returns
returns c = record { laws = enabling_laws }

use Rattle.edges.proofs.Disabling.{disabling_laws}
use Rattle.edges.proofs.laws.disabling_keeps_its_laws.Goals as goal

pub returns : goal.returns
returns c = record { laws = disabling_laws }

use Rattle.edges.proofs.Nesting.{over_laws}
use Rattle.edges.proofs.laws.edges_keep_their_laws.Goals as goal

pub returns : goal.returns
returns c = record { laws = over_laws }

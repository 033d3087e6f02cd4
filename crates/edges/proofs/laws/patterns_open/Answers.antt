use Rattle.edges.proofs.Matched.{matching_laws}
use Rattle.edges.proofs.laws.patterns_open.Goals as goal

pub returns : goal.returns
returns c = record { laws = matching_laws }

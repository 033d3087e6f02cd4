use Rattle.edges.proofs.Opening.{access}
use Rattle.edges.proofs.laws.paths_open.Goals as goal

pub returns : goal.returns
returns c = record { laws = access }

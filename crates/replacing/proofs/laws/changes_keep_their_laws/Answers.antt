use Rattle.replacing.proofs.AllLaws.{change_laws}
use Rattle.replacing.proofs.laws.changes_keep_their_laws.Goals as goal

pub returns : goal.returns
returns c = record { laws = change_laws }

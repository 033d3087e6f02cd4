use Rattle.edges.proofs.FlaggedRows.{row_laws}
use Rattle.edges.proofs.laws.flags_name_rows.Goals as goal

pub returns : goal.returns
returns c = record { laws = row_laws }

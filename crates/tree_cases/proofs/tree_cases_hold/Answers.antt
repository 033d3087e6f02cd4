use Rattle.tree_cases.proofs.Cases.{tree_cases}
use Rattle.tree_cases.proofs.tree_cases_hold.Goals as goal

pub returns : goal.returns
returns c = record { cases = tree_cases }

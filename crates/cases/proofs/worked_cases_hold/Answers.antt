use Rattle.cases.proofs.OnePair.{worked_cases}
use Rattle.cases.proofs.worked_cases_hold.Goals as goal

pub returns : goal.returns
returns c = record { cases = worked_cases }

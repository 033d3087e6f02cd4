use Rattle.filing.proofs.Puts.{holds_own}
use Rattle.filing.proofs.placing.Filing.file.Goals as goal

pub invariant_of-self-2 : goal.invariant_of-self-2
invariant_of-self-2 c = record { holds = holds_own _ _ c.put.ensures.after }

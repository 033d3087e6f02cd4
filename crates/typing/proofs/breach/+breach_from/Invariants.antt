use Rattle.typing.proofs.Judging.{room}
use Rattle.typing.proofs.breach.+breach_from.Given as goal

abbrev pub decreases-breach_from : goal.decreases-breach_from
decreases-breach_from g l = room l.number

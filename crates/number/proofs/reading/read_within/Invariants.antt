use Rattle.number.proofs.Turns.{SoFar}
use Rattle.number.proofs.reading.read_within.Given as goal

abbrev pub invariant-loop-groups : goal.invariant-loop-groups
invariant-loop-groups l = SoFar l.limit l.at l.bytes l.rest l.value l.groups

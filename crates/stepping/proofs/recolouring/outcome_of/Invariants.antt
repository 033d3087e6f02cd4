use Rattle.std.proofs.Common.{◌≡◌, take}
use Rattle.outcomes.specs.Outcomes.{outcome_of}
use Rattle.stepping.proofs.recolouring.outcome_of.Given as goal

abbrev pub invariant-loop-line : goal.invariant-loop-line
invariant-loop-line l = l.out ≡ outcome_of (take l.line-index l.lines)

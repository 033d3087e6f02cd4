use Rattle.std.proofs.Common.{◌≡◌, drop}
use Rattle.obeying.specs.TreeLaws.{lowered}
use Rattle.outcomes.specs.Outcomes.{added_all}
use Rattle.outcomes.proofs.outcome.Outcome.add_lowered.Given as goal

abbrev pub invariant-loop-line : goal.invariant-loop-line
invariant-loop-line l = added_all l.self (lowered l.levels (drop l.line-index l.tree)) ≡ added_all l.initial.self (lowered l.levels l.tree)

use Rattle.std.proofs.Common.{◌≡◌, drop}
use Rattle.outcomes.specs.Outcomes.{deepest}
use Rattle.rooms.proofs.beginning.deepest.Given as goal

abbrev pub invariant-loop-line : goal.invariant-loop-line
invariant-loop-line l = deepest l.deepest (drop l.line-index l.tree) ≡ deepest 0 l.tree

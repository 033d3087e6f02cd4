use Rattle.std.proofs.Common.{◌≡◌}
use Rattle.obeying.specs.Rules.{line}
use Rattle.obeying.specs.Breaches.{last_outer, edge_above}
use Rattle.obeying.proofs.trees.last_outer.Given as goal

abbrev pub invariant-loop-k : goal.invariant-loop-k
invariant-loop-k l = last_outer l.tree (line l.tree l.row).depth l.k ≡ edge_above l.tree l.row

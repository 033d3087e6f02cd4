use Rattle.std.proofs.Common.{◌≡◌, ◌*◌, ◌≤◌, map}
use Rattle.layout.specs.Held.{in_use}
use Rattle.breaches.specs.Told.{edges_before}
use Rattle.breaches.proofs.ground.edges_before.Given as goal

abbrev pub invariant-loop-tree : goal.invariant-loop-tree
invariant-loop-tree l = record {
  count : l.before ≡ edges_before (map in_use l.trees) l.tree-index;
  small : l.before ≤ 128 * l.tree-index;
}

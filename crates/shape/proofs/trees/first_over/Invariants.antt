use Rattle.std.proofs.Common.{◌≡◌, ◌*◌, ◌≤◌, drop}
use Rattle.scan.specs.Scan.{first_of}
use Rattle.shape.specs.Place.{base_after}
use Rattle.shape.proofs.trees.first_over.Given as goal

abbrev pub invariant-loop-location : goal.invariant-loop-location
invariant-loop-location g l =
    (l.base ≤ 128 * l.location)
    × (first_of (g.F.TreeFault.told l.faults) base_after l.base l.location (drop l.location l.trees) ≡ first_of (g.F.TreeFault.told l.faults) base_after 0 0 l.trees)

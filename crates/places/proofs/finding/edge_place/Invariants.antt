use Rattle.std.proofs.Common.{◌≡◌, ◌≤◌, drop}
use Rattle.places.specs.Places.{edge_place}
use Rattle.places.proofs.finding.edge_place.Given as goal

abbrev pub invariant-loop-location : goal.invariant-loop-location
invariant-loop-location l = (l.edge ≤ l.row) × (edge_place l.location l.edge (drop l.location l.trees) ≡ edge_place 0 l.row l.trees)

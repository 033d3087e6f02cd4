-- Edges by a number that counts those in use over all locations, the first location's first.
use Rattle.std.specs.Prelude.{ℕ, ◌+◌, ◌-◌, min, cond, List, [], ◌∷◌, Some, None, Option, nat_lt}
use Rattle.rows.specs.declared.row.TreeLine.{TreeLine}
use Rattle.layout.specs.declared.held.Table.{Table}
use Rattle.places.specs.declared.finding.Place.{Place}

-- How many edges of a location are in use: no more than its array has.
abbrev pub edges_in : Table TreeLine 128 → ℕ
edges_in tree = min tree.count 128

-- Where the edge with this number stands among these trees, of which the first is that of the location `l`.
abbrev pub edge_place : ℕ → ℕ → List (Table TreeLine 128) → Option Place
edge_place l row [] = None
edge_place l row (tree ∷ trees) = cond (nat_lt row (edges_in tree)) (Some (record { location = l; edge = row })) (edge_place (l + 1) (row - edges_in tree) trees)

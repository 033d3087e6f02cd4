use Rattle.std.proofs.Common.{◌≡◌, ◌++◌, map, take, vec_items}
use Rattle.layout.specs.Held.{in_use}
use Rattle.dump.specs.Dumping.{edges_from}
use Rattle.dump.proofs.Edges.{edge}
use Rattle.dump.proofs.dumping.edges_of.Given as goal

-- the edges of the locations so far
abbrev pub invariant-loop-location : goal.invariant-loop-location
invariant-loop-location l = vec_items l.edges ≡ edges_from 0 (map in_use (take l.location l.trees))

-- and those of this location so far
abbrev pub invariant-loop-line : goal.invariant-loop-line
invariant-loop-line l = vec_items l.edges ≡ vec_items l.initial.edges ++ map (edge l.location) (take l.line-index l.line-items)

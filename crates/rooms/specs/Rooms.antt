-- What a step leaves, before any room is counted; the rooms that are tried on it; and the network where all have room.
use Rattle.std.specs.Prelude.{ℕ, cond, List, map, length, Some, None, Option, nat_lt, slice_set}
use Rattle.layout.specs.declared.memory.RunningRow.{RunningRow}
use Rattle.layout.specs.declared.memory.Tables.{Tables}
use Rattle.layout.specs.Network.{Network, TreeLines, joined}
use Rattle.layout.specs.Zeros.{line0, running0}
use Rattle.outcomes.specs.Outcomes.{deepest, outcome_of}
use Rattle.rooms.specs.declared.room.Room.{Room}
use Rattle.rooms.specs.declared.room.Room.TheVariants as room
use Rattle.rooms.specs.declared.scratch.Scratch.{Scratch}
use Rattle.rooms.specs.Filled.{filled_of}

-- the running jobs, the shelf, and the tree of the location where the step is made
pub record Aftermath : Type 0 where
  pub running : List RunningRow
  pub shelf : List TreeLines
  pub tree : TreeLines

-- the first room that is too small, in the order in which they are tried
abbrev pub lacking : Aftermath → Option Room
lacking a =
    cond (nat_lt 64 (length a.running)) (Some room.RunningJobs)
    (cond (nat_lt 64 (length a.shelf)) (Some room.ShelvedTrees)
    (cond (nat_lt 1024 (length (joined a.shelf))) (Some room.ShelvedLines)
    (cond (nat_lt 128 (length a.tree)) (Some room.TreeLines)
    (cond (nat_lt 12 (deepest 0 a.tree)) (Some room.Depth) None))))

-- how a refusal tells the room
abbrev pub number_of : Room → ℕ
number_of room.RunningJobs = 1
number_of room.ShelvedTrees = 2
number_of room.ShelvedLines = 3
number_of room.TreeLines = 4
number_of room.Depth = 5

-- the network after a step at this location
abbrev pub left_in : Network → ℕ → Aftermath → Network
left_in n location a = record { plan = n.plan; trees = slice_set n.trees location a.tree; running = a.running; shelf = a.shelf }

-- what is kept of it while the rooms are not yet tried
abbrev pub scratch_of : Aftermath → Scratch
scratch_of a = record {
  running = filled_of 64 running0 a.running;
  trees = filled_of 64 0 (map length a.shelf);
  lines = filled_of 1024 line0 (joined a.shelf);
  tree = outcome_of a.tree;
}

-- the tables with this in the place of the running list, the shelf, and the tree of the location
unfoldable pub written : Tables → ℕ → Scratch → Tables
written t location s = record {
  policies = t.policies;
  grants = t.grants;
  locations = t.locations;
  steps = t.steps;
  trees = slice_set t.trees location (record { count = s.tree.count; rows = s.tree.lines });
  templates = t.templates;
  patterns = t.patterns;
  commands = t.commands;
  jobs = t.jobs;
  running = s.running.table;
  shelf = record { trees = s.trees.table; lines = s.lines.table.rows };
}

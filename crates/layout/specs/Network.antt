-- The network that tables hold: lists of the rows in use.
use Rattle.std.specs.Prelude.{◌≡◌, ℕ, ◌<◌, ◌≤◌, List, [], ◌∷◌, ◌++◌, map, length, get_or, take, drop, replicate, slice_index_or}
use Rattle.rows.specs.declared.row.PolicyRow.{PolicyRow}
use Rattle.rows.specs.declared.row.GrantRow.{GrantRow}
use Rattle.rows.specs.declared.row.LocationRow.{LocationRow}
use Rattle.rows.specs.declared.row.PathStepRow.{PathStepRow}
use Rattle.rows.specs.declared.row.TreeLine.{TreeLine}
use Rattle.rows.specs.declared.row.TemplateRow.{TemplateRow}
use Rattle.rows.specs.declared.row.PatternRow.{PatternRow}
use Rattle.rows.specs.declared.row.CommandRow.{CommandRow}
use Rattle.rows.specs.declared.row.JobRow.{JobRow}
use Rattle.layout.specs.declared.held.Table.{Table}
use Rattle.layout.specs.declared.memory.RunningRow.{RunningRow}
use Rattle.layout.specs.declared.memory.Tables.{Tables}
use Rattle.layout.specs.Held.{pad, held, in_use}
use Rattle.layout.specs.Zeros.{policy0, grant0, location0, step0, line0, template0, pattern0, command0, job0, running0, no_tree, no_running}

-- a tree: its lines from the root down, each edge before what lies under it
abbrev pub TreeLines : Type 0
TreeLines = List TreeLine

-- what a sheet says, but for the trees of the locations: no call after admission writes any of it
pub record Plan : Type 0 where
  pub policies : List PolicyRow
  pub grants : List GrantRow
  pub locations : List LocationRow
  pub steps : List PathStepRow
  pub templates : List TemplateRow
  pub patterns : List PatternRow
  pub commands : List CommandRow
  pub jobs : List JobRow

-- trees has a tree for each location that there can be, sixteen of them; shelf has the copied trees
pub record Network : Type 0 where
  pub plan : Plan
  pub trees : List TreeLines
  pub running : List RunningRow
  pub shelf : List TreeLines

abbrev pub empty : Network
empty = record {
  plan = record { policies = []; grants = []; locations = []; steps = []; templates = []; patterns = []; commands = []; jobs = [] };
  trees = replicate 16 [];
  running = [];
  shelf = [];
}

-- ---- from tables to the network

-- pieces of these lengths, one after the other
abbrev pub pieces : List ℕ → TreeLines → List TreeLines
pieces [] lines = []
pieces (n ∷ ns) lines = take n lines ∷ pieces ns (drop n lines)

abbrev pub network : Tables → Network
network t = record {
  plan = record {
    policies = in_use t.policies;
    grants = in_use t.grants;
    locations = in_use t.locations;
    steps = in_use t.steps;
    templates = in_use t.templates;
    patterns = in_use t.patterns;
    commands = in_use t.commands;
    jobs = in_use t.jobs;
  };
  trees = map in_use t.trees;
  running = in_use t.running;
  shelf = pieces (in_use t.shelf.trees) t.shelf.lines;
}

-- ---- and back

abbrev pub joined : List TreeLines → TreeLines
joined [] = []
joined (tree ∷ trees) = tree ++ joined trees

abbrev pub tree_of : TreeLines → Table TreeLine 128
tree_of lines = held 128 line0 lines

abbrev pub stored : Network → Tables
stored n = record {
  policies = held 16 policy0 n.plan.policies;
  grants = held 64 grant0 n.plan.grants;
  locations = held 16 location0 n.plan.locations;
  steps = held 256 step0 n.plan.steps;
  trees = map tree_of n.trees;
  templates = held 256 template0 n.plan.templates;
  patterns = held 64 pattern0 n.plan.patterns;
  commands = held 255 command0 n.plan.commands;
  jobs = held 64 job0 n.plan.jobs;
  running = held 64 running0 n.running;
  shelf = record { trees = held 64 0 (map length n.shelf); lines = pad 1024 line0 (joined n.shelf) };
}

-- no table passes its rows
pub record Fits (n : Network) : Type 0 where
  pub policies : length n.plan.policies ≤ 16
  pub grants : length n.plan.grants ≤ 64
  pub locations : length n.plan.locations ≤ 16
  pub steps : length n.plan.steps ≤ 256
  pub trees : length n.trees ≡ 16
  pub edges : (l : ℕ) → length (slice_index_or n.trees l []) ≤ 128
  pub templates : length n.plan.templates ≤ 256
  pub patterns : length n.plan.patterns ≤ 64
  pub commands : length n.plan.commands ≤ 255
  pub jobs : length n.plan.jobs ≤ 64
  pub running : length n.running ≤ 64
  pub shelf : length n.shelf ≤ 64
  pub shelved : length (joined n.shelf) ≤ 1024

-- the tables hold the network: its rows, zeros behind them, and nothing else
pub record Holds (t : Tables) (n : Network) : Type 0 where
  pub whole : t ≡ stored n
  pub fits : Fits n

-- what the types know: how long the arrays are
pub record Sized (t : Tables) : Type 0 where
  pub policies : length t.policies.rows ≡ 16
  pub grants : length t.grants.rows ≡ 64
  pub locations : length t.locations.rows ≡ 16
  pub steps : length t.steps.rows ≡ 256
  pub trees : length t.trees ≡ 16
  pub edges : (k : ℕ) → k < 16 → length (get_or t.trees k no_tree).rows ≡ 128
  pub templates : length t.templates.rows ≡ 256
  pub patterns : length t.patterns.rows ≡ 64
  pub commands : length t.commands.rows ≡ 255
  pub jobs : length t.jobs.rows ≡ 64
  pub running : length t.running.rows ≡ 64
  pub slots : (k : ℕ) → k < 64 → length (get_or t.running.rows k no_running).slots ≡ 6
  pub shelf : length t.shelf.trees.rows ≡ 64
  pub shelved : length t.shelf.lines ≡ 1024

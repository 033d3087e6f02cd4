-- Which edges a path finds, in words. `below a b` reads "role a is at or below role b".
use Rattle.std.specs.Prelude.{◌≡◌, ℕ, ◌-◌, ◌<◌, ◌≤◌, Bool, false, List, length, Decides, slice_index_or}
use Rattle.order.specs.RoleSets.{SetBelow}
use Rattle.rows.specs.declared.row.PathStepRow.{PathStepRow}
use Rattle.rows.specs.declared.row.TreeLine.{TreeLine}
use Rattle.layout.specs.Network.{TreeLines}
use Rattle.layout.specs.Zeros.{step0}
use Rattle.obeying.specs.Rules.{line}
use Rattle.edges.specs.Edges.{Over}

-- step d of a path, counted from 1
abbrev pub step_at : List PathStepRow → ℕ → PathStepRow
step_at path d = slice_index_or path (d - 1) step0

abbrev pub last_set : List PathStepRow → ℕ
last_set path = (step_at path (length path)).set

-- the edge complies with the step of its depth: it has the step's label, and its set is ≤ the step's
pub record Complies (below : ℕ → ℕ → Bool) (path : List PathStepRow) (x : TreeLine) : Type 0 where
  pub low : 1 ≤ x.depth
  pub within : x.depth ≤ length path
  pub label : (step_at path x.depth).label ≡ x.label
  pub set : SetBelow below x.set (step_at path x.depth).set

-- the path finds line i: it is as deep as the path is long, and it and each edge over it comply
pub record Found (below : ℕ → ℕ → Bool) (path : List PathStepRow) (tree : TreeLines) (i : ℕ) : Type 0 where
  pub inside : i < length tree
  pub depth : (line tree i).depth ≡ length path
  pub own : Complies below path (line tree i)
  pub over : (j : ℕ) → Over tree j i → Complies below path (line tree j)

-- flags for the lines of the tree, set for those that the path finds
pub record Flagged (below : ℕ → ℕ → Bool) (path : List PathStepRow) (tree : TreeLines) (flags : List Bool) : Type 0 where
  pub each : (i : ℕ) → i < length tree → Decides (slice_index_or flags i false) (Found below path tree i)
  pub beyond : (i : ℕ) → length tree ≤ i → slice_index_or flags i false ≡ false

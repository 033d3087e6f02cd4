-- What enabling a role leaves, in words.
use Rattle.std.specs.Prelude.{◌≡◌, ℕ, ◌<◌, Bool, List, length}
use Rattle.order.specs.RoleSets.{with_role}
use Rattle.rows.specs.declared.row.PathStepRow.{PathStepRow}
use Rattle.rows.specs.declared.row.TreeLine.{TreeLine}
use Rattle.layout.specs.Network.{TreeLines}
use Rattle.obeying.specs.Rules.{line, Above}
use Rattle.edges.specs.Edges.{with_set}
use Rattle.edges.specs.Paths.{Found}

-- what line i becomes: an edge directly below one found has the role too, every other stays as it is
pub data EnabledLine (below : ℕ → ℕ → Bool) (path : List PathStepRow) (role : ℕ) (tree : TreeLines) (i : ℕ) (after : TreeLine) : Type 0 where
  directly : (j : ℕ) → Above tree j i → Found below path tree j → after ≡ with_set (line tree i) (with_role (line tree i).set role)
      → EnabledLine below path role tree i after
  elsewhere : ((j : ℕ) → Above tree j i → Found below path tree j → ⊥) → after ≡ line tree i → EnabledLine below path role tree i after

-- the tree after the role was enabled below each edge that the path finds
pub record Enabled (below : ℕ → ℕ → Bool) (path : List PathStepRow) (role : ℕ) (tree after : TreeLines) : Type 0 where
  pub long : length after ≡ length tree
  pub each : (i : ℕ) → i < length tree → EnabledLine below path role tree i (line after i)

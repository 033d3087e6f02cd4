-- What disabling a role leaves, in words.
use Rattle.std.specs.Prelude.{◌≡◌, ℕ, ◌<◌, Bool, not, ◌&&◌, List, length}
use Rattle.order.specs.RoleSets.{some_below, kept}
use Rattle.rows.specs.declared.row.PathStepRow.{PathStepRow}
use Rattle.layout.specs.Network.{TreeLines}
use Rattle.obeying.specs.Rules.{line, Above}
use Rattle.edges.specs.Edges.{Over, with_set}
use Rattle.edges.specs.Paths.{Found}

-- a role stays if it is not at or below the disabled one, and some role left on the edge above is at or below it
abbrev pub stays : (ℕ → ℕ → Bool) → ℕ → ℕ → ℕ → Bool
stays below disabled above role = not (below role disabled) && some_below below above role

-- what line i becomes: under an edge found it keeps the roles that stay beside those left on the edge above, every other line
-- stays as it is
pub data DisabledLine (below : ℕ → ℕ → Bool) (path : List PathStepRow) (role : ℕ) (tree after : TreeLines) (i : ℕ) : Type 0 where
  under : (f j : ℕ) → Found below path tree f → Over tree f i → Above tree j i
      → line after i ≡ with_set (line tree i) (kept (stays below role (line after j).set) (line tree i).set) → DisabledLine below path role tree after i
  elsewhere : ((f : ℕ) → Found below path tree f → Over tree f i → ⊥) → line after i ≡ line tree i → DisabledLine below path role tree after i

-- the tree after the role was disabled below each edge that the path finds
pub record Disabled (below : ℕ → ℕ → Bool) (path : List PathStepRow) (role : ℕ) (tree after : TreeLines) : Type 0 where
  pub long : length after ≡ length tree
  pub each : (i : ℕ) → i < length tree → DisabledLine below path role tree after i

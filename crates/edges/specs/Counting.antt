-- How a pass over the lines of a tree counts the steps of a path that are met, line by line.
use Rattle.std.specs.Prelude.{◌≡◌, ℕ, ◌+◌, ◌<◌, ◌≤◌, Bool, List, length}
use Rattle.order.specs.RoleSets.{with_role, kept}
use Rattle.rows.specs.declared.row.PathStepRow.{PathStepRow}
use Rattle.rows.specs.declared.row.TreeLine.{TreeLine}
use Rattle.edges.specs.Paths.{Complies}
use Rattle.edges.specs.Disabling.{stays}

-- so many steps are met above the edge, and so many down to it
pub data StepsMet (below : ℕ → ℕ → Bool) (path : List PathStepRow) (met : ℕ) (x : TreeLine) (after : ℕ) : Type 0 where
  -- an edge above it is not met
  astray : met + 1 < x.depth → after ≡ met → StepsMet below path met x after
  here : x.depth ≤ met + 1 → Complies below path x → after ≡ x.depth → StepsMet below path met x after
  missed : x.depth ≤ met + 1 → (Complies below path x → ⊥) → after + 1 ≡ x.depth → StepsMet below path met x after

-- the set of an edge after a role is enabled, where so many steps are met above it: directly below an edge found, or elsewhere
pub data EnabledSet (path : List PathStepRow) (role met : ℕ) (x : TreeLine) (set : ℕ) : Type 0 where
  added : length path ≤ met → x.depth ≡ length path + 1 → set ≡ with_role x.set role → EnabledSet path role met x set
  unchanged : (length path ≤ met → x.depth ≡ length path + 1 → ⊥) → set ≡ x.set → EnabledSet path role met x set

-- the set of an edge after a role is disabled, where so many steps are met above it and `above` is left on the edge above
pub data DisabledSet (below : ℕ → ℕ → Bool) (path : List PathStepRow) (role met above : ℕ) (x : TreeLine) (set : ℕ) : Type 0 where
  reduced : length path ≤ met → length path < x.depth → set ≡ kept (stays below role above) x.set → DisabledSet below path role met above x set
  spared : (length path ≤ met → length path < x.depth → ⊥) → set ≡ x.set → DisabledSet below path role met above x set

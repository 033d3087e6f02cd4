use Rattle.std.proofs.Common.{ℕ, ◌<◌, ◌≤◌, slice_index_or}
use Rattle.layout.specs.Zeros.{template0}
use Rattle.tree_cases.proofs.replaced.templates_are_low.Given as goal

abbrev pub invariant-loop-row : goal.invariant-loop-row
invariant-loop-row l = (k : ℕ) → k < l.row-index → (slice_index_or l.rows k template0).line.depth ≤ 500

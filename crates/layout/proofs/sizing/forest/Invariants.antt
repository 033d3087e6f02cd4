use Rattle.std.proofs.Common.{◌≡◌, ℕ, ◌<◌, length, get_or}
use Rattle.layout.specs.Zeros.{no_tree}
use Rattle.layout.proofs.sizing.forest.Given as goal

abbrev pub invariant-loop-tree : goal.invariant-loop-tree
invariant-loop-tree l = (k : ℕ) → k < l.tree-index → length (get_or l.trees k no_tree).rows ≡ 128

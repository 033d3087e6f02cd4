-- Which edges of a tree lie over which, in words.
use Rattle.std.specs.Prelude.{◌≡◌, ℕ, ◌+◌, ◌<◌, ◌≤◌, length}
use Rattle.rows.specs.declared.row.TreeLine.{TreeLine}
use Rattle.layout.specs.Network.{TreeLines}
use Rattle.obeying.specs.Rules.{line}

-- the lines begin at depth 1 and go down one level at a time, as those of every tree that stands
pub record Nested (tree : TreeLines) : Type 0 where
  pub low : (i : ℕ) → i < length tree → 1 ≤ (line tree i).depth
  pub first : 0 < length tree → (line tree 0).depth ≡ 1
  pub down : (i : ℕ) → i + 1 < length tree → (line tree (i + 1)).depth ≤ (line tree i).depth + 1

-- line j is one of the edges over line i: every line behind j, up to i, is deeper
pub record Over (tree : TreeLines) (j i : ℕ) : Type 0 where
  pub before : j < i
  pub deeper : (k : ℕ) → j < k → k ≤ i → (line tree j).depth < (line tree k).depth

-- the line with another set
abbrev pub with_set : TreeLine → ℕ → TreeLine
with_set x set = record { depth = x.depth; label = x.label; set = set; content = x.content; first = x.first; second = x.second }

-- the same lines, but for their sets
pub record Recoloured (tree after : TreeLines) : Type 0 where
  pub long : length after ≡ length tree
  pub same : (i : ℕ) → i < length tree → line after i ≡ with_set (line tree i) (line after i).set

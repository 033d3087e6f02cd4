-- What a change leaves of a tree, in words. It is said before any room is counted.
use Rattle.std.specs.Prelude.{◌≡◌, ℕ, ◌<◌, Bool, true, false, List, [], ◌∷◌, length, slice_index_or}
use Rattle.layout.specs.Network.{TreeLines, joined}
use Rattle.obeying.specs.Rules.{line}
use Rattle.edges.specs.Edges.{Over}
use Rattle.replacing.specs.Pasting.{Pasted, placed}

-- line i is one of those that the change replaces
abbrev pub Flagged : List Bool → ℕ → Type 0
Flagged flags i = slice_index_or flags i false ≡ true

-- no edge over line i is replaced
abbrev pub Uncut : List Bool → TreeLines → ℕ → Type 0
Uncut flags tree i = (j : ℕ) → Flagged flags j → Over tree j i → ⊥

-- what becomes of line i: what lies under an edge that is replaced goes; an edge that is replaced keeps its depth, label and set, and
-- gets what is given for it; every other line stays as it is
pub data Becomes (flags : List Bool) (given : ℕ → Pasted) (tree : TreeLines) (i : ℕ) (piece : TreeLines) : Type 0 where
  cut : (j : ℕ) → Flagged flags j → Over tree j i → piece ≡ [] → Becomes flags given tree i piece
  replaced : Flagged flags i → Uncut flags tree i → piece ≡ placed (line tree i) (given i) → Becomes flags given tree i piece
  kept : (Flagged flags i → ⊥) → Uncut flags tree i → piece ≡ line tree i ∷ [] → Becomes flags given tree i piece

-- the tree after: what becomes of each line, one after the other
pub record Changed (flags : List Bool) (given : ℕ → Pasted) (tree after : TreeLines) : Type 0 where
  pub pieces : List TreeLines
  pub one_each : length pieces ≡ length tree
  pub each : (i : ℕ) → i < length tree → Becomes flags given tree i (slice_index_or pieces i [])
  pub whole : after ≡ joined pieces

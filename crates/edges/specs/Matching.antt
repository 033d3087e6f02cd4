-- Which edges a pattern matches, in words.
use Rattle.std.specs.Prelude.{◌≡◌, ℕ, ◌<◌, ◌≤◌, Bool, false, List, length, Some, Decides, slice_index_or}
use Rattle.rows.specs.declared.row.PathStepRow.{PathStepRow}
use Rattle.layout.specs.Network.{TreeLines, Plan}
use Rattle.layout.specs.Zeros.{location0, job0}
use Rattle.meaning.specs.declared.kinds.ContentKind.TheVariants as kind
use Rattle.meaning.specs.declared.patterns.Pattern.{Pattern}
use Rattle.meaning.specs.declared.patterns.Pattern.TheVariants as pattern
use Rattle.meaning.specs.Kinds.{kind_of}
use Rattle.obeying.specs.Rules.{line, Matches}
use Rattle.obeying.specs.TreeLaws.{under}
use Rattle.slots.specs.Operands.{last_set}
use Rattle.pasting.specs.Words.{least_of}
use Rattle.edges.specs.Paths.{Found}

-- there is such a job, and it is of the policy
abbrev pub JobOf : Plan → ℕ → ℕ → Type 0
JobOf p policy job = (job < length p.jobs) × ((slice_index_or p.jobs job job0).policy ≡ policy)

abbrev pub LocationOf : Plan → ℕ → ℕ → Type 0
LocationOf p policy location = (location < length p.locations) × ((slice_index_or p.locations location location0).policy ≡ policy)

-- the pattern matches line i of the tree: a number; a script whose job is of the policy; a pointer to a location of the policy, by
-- a path whose last set is the pattern's; a tree that matches on its own
abbrev pub EdgeMatches : (ℕ → ℕ → Bool) → Plan → Pattern → TreeLines → ℕ → Type 0
EdgeMatches below p (pattern.Number slot) tree i = kind_of (line tree i).content ≡ Some kind.Number
EdgeMatches below p (pattern.Script slot policy) tree i = (kind_of (line tree i).content ≡ Some kind.Script) × JobOf p policy (line tree i).first
EdgeMatches below p (pattern.Pointer slot policy last) tree i =
    (kind_of (line tree i).content ≡ Some kind.Pointer) × (LocationOf p policy (line tree i).second × (last_set p.steps (line tree i).first ≡ Some last))
EdgeMatches below p (pattern.Tree slot policy top all) tree i =
    (kind_of (line tree i).content ≡ Some kind.Tree) × Matches below (least_of p policy) p.jobs policy top all (under tree i)

-- flags for the lines of the tree, set for those that the path finds and the pattern matches
pub record Selected (below : ℕ → ℕ → Bool) (path : List PathStepRow) (p : Plan) (m : Pattern) (tree : TreeLines) (flags : List Bool) : Type 0 where
  pub each : (i : ℕ) → i < length tree → Decides (slice_index_or flags i false) (Found below path tree i × EdgeMatches below p m tree i)
  pub beyond : (i : ℕ) → length tree ≤ i → slice_index_or flags i false ≡ false

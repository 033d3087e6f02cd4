-- A change that a job may make, as a whole: what its typing and the network's soundness give, and what comes out.
use Rattle.std.specs.Prelude.{◌≡◌, ℕ, ◌+◌, ◌<◌, Bool, List, length, Some}
use Rattle.rows.specs.declared.row.PathStepRow.{PathStepRow}
use Rattle.layout.specs.Network.{TreeLines, Plan}
use Rattle.meaning.specs.declared.contents.Content.{Content}
use Rattle.meaning.specs.declared.patterns.Pattern.{Pattern}
use Rattle.slots.specs.Slots.{pattern_at, filled_by}
use Rattle.pasting.specs.Words.{least_of, ContentFits, ContentObeys}
use Rattle.standing.specs.declared.sizes.Sizes.{Sizes}
use Rattle.standing.specs.Words.{TemplatesStand, ContentStands}
use Rattle.edges.specs.Paths.{last_set, Found}
use Rattle.edges.specs.Matching.{EdgeMatches}
use Rattle.replacing.specs.Pasting.{Pasted}
use Rattle.replacing.specs.Changing.{Flagged}
use Rattle.replacing.specs.Holding.{Holds, InSlots}
use Rattle.replacing.specs.Sound.{Sound}

-- a change by a path, with the pattern of this row and this content, at a policy, where the slots were filled by these numbers
pub record Allowed (below : ℕ → ℕ → Bool) (s : Sizes) (p : Plan) (policy : ℕ) (path : List PathStepRow) (row : ℕ) (m : Pattern) (slots : List ℕ) (c : Content) : Type 0 where
  pub pattern : pattern_at p.patterns row ≡ Some m
  pub own : InSlots m
  pub six : length slots ≡ 6
  -- what the content names exists, and the templates stand
  pub content : ContentStands s c
  pub templates : TemplatesStand s p.templates
  pub jobs : s.jobs ≡ length p.jobs
  -- the slots fit and the content obeys, once the pattern has filled its own
  pub fits : ContentFits p (filled_by (Some m) (row + 1) slots) c
  pub obeys : ContentObeys below p policy (last_set path) (filled_by (Some m) (row + 1) slots) c

-- the tree before it, and the edges that are replaced: they are found and matched
pub record Meets (below : ℕ → ℕ → Bool) (s : Sizes) (p : Plan) (policy : ℕ) (path : List PathStepRow) (m : Pattern) (slots : List ℕ) (hold : ℕ → Pasted) (tree : TreeLines) (flags : List Bool) : Type 0 where
  pub sound : Sound below s (least_of p policy) p.jobs policy tree
  pub holds : Holds below s p slots hold
  pub found : (i : ℕ) → i < length tree → Flagged flags i → Found below path tree i
  pub matched : (i : ℕ) → i < length tree → Flagged flags i → EdgeMatches below p m tree i

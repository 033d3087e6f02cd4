-- What the layers above may use of changes, for every lawful order of roles.
use Rattle.std.specs.Prelude.{◌≡◌, ℕ, ◌<◌, ◌≤◌, Bool, List, length}
use Rattle.order.specs.Laws.{Lawful}
use Rattle.order.specs.RoleSets.{SetBelow}
use Rattle.rows.specs.declared.row.JobRow.{JobRow}
use Rattle.rows.specs.declared.row.TemplateRow.{TemplateRow}
use Rattle.rows.specs.declared.row.PathStepRow.{PathStepRow}
use Rattle.layout.specs.Network.{TreeLines, Plan}
use Rattle.meaning.specs.declared.contents.Content.{Content}
use Rattle.meaning.specs.declared.patterns.Pattern.{Pattern}
use Rattle.obeying.specs.Rules.{line, TreeObeys, Matches}
use Rattle.obeying.specs.TreeLaws.{under}
use Rattle.pasting.specs.Templates.{template_lines}
use Rattle.pasting.specs.Words.{least_of, ContentFits, ContentObeys}
use Rattle.standing.specs.declared.sizes.Sizes.{Sizes}
use Rattle.standing.specs.Words.{TreeStands, TemplatesStand, ContentStands}
use Rattle.replacing.specs.Pasting.{Pasted, filled, pasted, given}
use Rattle.replacing.specs.Changing.{Flagged, Uncut, Changed}
use Rattle.replacing.specs.Granted.{Allowed, Meets}
use Rattle.replacing.specs.Holding.{Holds, slot_of}
use Rattle.replacing.specs.Sound.{Sound, PasteSound, TemplateSound, TemplateStands}

pub record ChangeLaws : Type 0 where
  -- a tree that stands and obeys is sound
  pub sound : (below : ℕ → ℕ → Bool) (s : Sizes) (least : ℕ) (jobs : List JobRow) (policy : ℕ) (tree : TreeLines)
      → TreeStands s tree → TreeObeys below least jobs policy tree → Sound below s least jobs policy tree
  -- and a sound tree stands where it is not too deep
  pub stands : (below : ℕ → ℕ → Bool) (s : Sizes) (least : ℕ) (jobs : List JobRow) (policy : ℕ) (tree : TreeLines)
      → ((i : ℕ) → i < length tree → (line tree i).depth ≤ 12) → Sound below s least jobs policy tree → TreeStands s tree
  -- what lies under an edge of a sound tree is sound
  pub part : (below : ℕ → ℕ → Bool) (s : Sizes) (least : ℕ) (jobs : List JobRow) (policy : ℕ) (tree : TreeLines) (i : ℕ)
      → Sound below s least jobs policy tree → Sound below s least jobs policy (under tree i)
  -- a tree that a tree pattern matches may lie on an edge whose set is ≤ the pattern's first set
  pub matched : (below : ℕ → ℕ → Bool) (s : Sizes) (least : ℕ) (jobs : List JobRow) (policy : ℕ) (tree : TreeLines) (top all set : ℕ)
      → Sound below s least jobs policy tree → Matches below least jobs policy top all tree → SetBelow below set top
      → PasteSound below s least jobs policy set (record { content = 0; first = 0; second = 0; under = tree })
  -- a template with its slots filled may lie on an edge whose set is ≤ the sets of its top lines
  pub filled : (below : ℕ → ℕ → Bool) (s : Sizes) (least : ℕ) (jobs : List JobRow) (policy : ℕ) (hold : ℕ → Pasted) (set : ℕ) (template : TreeLines)
      → TemplateSound below s least jobs policy hold set template
      → PasteSound below s least jobs policy set (record { content = 0; first = 0; second = 0; under = filled hold template })
  -- a sound tree is sound after a change, where each edge that is replaced gets what may lie on it
  pub change : (below : ℕ → ℕ → Bool) (s : Sizes) (least : ℕ) (jobs : List JobRow) (policy : ℕ) (flags : List Bool) (given : ℕ → Pasted) (tree after : TreeLines)
      → Sound below s least jobs policy tree
      → ((i : ℕ) → i < length tree → Flagged flags i → Uncut flags tree i → PasteSound below s least jobs policy (line tree i).set (given i))
      → Changed flags given tree after → Sound below s least jobs policy after
  -- a content that obeys the policy under edges of the set `above` may lie on each edge whose set is ≤ that, where the slots hold what
  -- their patterns say
  pub content : (s : Sizes) (below : ℕ → ℕ → Bool) → Lawful s.roles s.top below → (p : Plan) (policy above set : ℕ) (slots : List ℕ) (hold : ℕ → Pasted) (c : Content)
      → s.jobs ≡ length p.jobs → ContentStands s c → ((k : ℕ) → TemplateStands s (template_lines p.templates k)) → Holds below s p slots hold
      → ContentFits p slots c → ContentObeys below p policy above slots c → SetBelow below set above
      → PasteSound below s (least_of p policy) p.jobs policy set (pasted hold p.templates c)
  -- where all templates stand, each one does
  pub templates : (s : Sizes) (rows : List TemplateRow) → TemplatesStand s rows → (k : ℕ) → TemplateStands s (template_lines rows k)
  -- a line that is not replaced, and lies under none that is, is still there
  pub untouched : (flags : List Bool) (given : ℕ → Pasted) (tree after : TreeLines) → Changed flags given tree after
      → (i : ℕ) → i < length tree → (Flagged flags i → ⊥) → Uncut flags tree i → (k : ℕ) × (k < length after) × (line after k ≡ line tree i)
  -- a change that is allowed leaves the tree sound
  pub allowed : (s : Sizes) (below : ℕ → ℕ → Bool) → Lawful s.roles s.top below → (p : Plan) (policy : ℕ) (path : List PathStepRow) (row : ℕ) (m : Pattern) (slots : List ℕ) (hold : ℕ → Pasted)
      (c : Content) (tree : TreeLines) (flags : List Bool) (after : TreeLines) → Allowed below s p policy path row m slots c → Meets below s p policy path m slots hold tree flags
      → Changed flags (given c hold (slot_of m) p.templates tree) tree after → Sound below s (least_of p policy) p.jobs policy after

-- Trees that have their shape, rooms aside, and obey a policy; and what may be put on an edge of one.
use Rattle.std.specs.Prelude.{◌≡◌, ℕ, ◌+◌, ◌<◌, ◌≤◌, Bool, List, [], length}
use Rattle.order.specs.RoleSets.{In, SetBelow, InUse}
use Rattle.rows.specs.declared.row.TreeLine.{TreeLine}
use Rattle.rows.specs.declared.row.JobRow.{JobRow}
use Rattle.layout.specs.Network.{TreeLines}
use Rattle.layout.specs.Zeros.{line0}
use Rattle.meaning.specs.Decoding.{content_of}
use Rattle.obeying.specs.Rules.{line, ScriptObeys, TreeObeys}
use Rattle.scan.specs.Scan.{Each}
use Rattle.standing.specs.declared.sizes.Sizes.{Sizes}
use Rattle.standing.specs.declared.lines.Home.TheVariants as home
use Rattle.standing.specs.Words.{Means, Belongs, ContentStands, LineStands}
use Rattle.replacing.specs.Pasting.{Pasted, with_content, line_content}

-- the content can lie on an edge, and what it names exists
abbrev pub ContentShaped : Sizes → ℕ → ℕ → ℕ → Type 0
ContentShaped s content first second = Means (content_of content first second) (λ c. Belongs home.Tree c × ContentStands s c)

pub record LineShaped (s : Sizes) (x : TreeLine) : Type 0 where
  pub low : 1 ≤ x.depth
  pub set : InUse s.roles x.set
  pub top : In s.top x.set
  pub content : ContentShaped s x.content x.first x.second

-- from depth 1, down one level at a time, and never below content other than 0
pub record Descends (tree : TreeLines) : Type 0 where
  pub first : 0 < length tree → (line tree 0).depth ≡ 1
  pub down : (i : ℕ) → i + 1 < length tree → (line tree (i + 1)).depth ≤ (line tree i).depth + 1
  pub under : (i : ℕ) → i + 1 < length tree → (line tree (i + 1)).depth ≡ (line tree i).depth + 1 → (line tree i).content ≡ 0

module _ (below : ℕ → ℕ → Bool) (s : Sizes) (least : ℕ) (jobs : List JobRow) (policy : ℕ) where
  -- a tree that has its shape, but may be longer or deeper than the rooms allow, and obeys the policy
  pub record Sound (tree : TreeLines) : Type 0 where
    pub lines : Each (LineShaped s) line0 tree
    pub descends : Descends tree
    pub obeys : TreeObeys below least jobs policy tree

  -- the set is ≤ the set of each edge of depth 1
  abbrev pub Tops : ℕ → TreeLines → Type 0
  Tops set tree = (k : ℕ) → k < length tree → (line tree k).depth ≡ 1 → SetBelow below set (line tree k).set

  -- what may lie on an edge of this set: it stands and obeys, and so does the tree under it, whose top edges the set is ≤ to
  pub record PasteSound (set : ℕ) (p : Pasted) : Type 0 where
    pub content : ContentShaped s p.content p.first p.second
    pub script : (x : TreeLine) → ScriptObeys jobs policy (with_content x p.content p.first p.second)
    pub tree : Sound p.under
    pub top : Tops set p.under
    pub bare : (p.content ≡ 0 → ⊥) → p.under ≡ []

  -- a template that may lie on edges of this set once its slots are filled
  pub record TemplateSound (hold : ℕ → Pasted) (set : ℕ) (template : TreeLines) : Type 0 where
    pub low : (i : ℕ) → i < length template → 1 ≤ (line template i).depth
    pub used : (i : ℕ) → i < length template → InUse s.roles (line template i).set
    pub topped : (i : ℕ) → i < length template → In s.top (line template i).set
    pub descends : Descends template
    pub obeys : TreeObeys below least jobs policy template
    pub top : Tops set template
    pub pastes : (i : ℕ) → i < length template → PasteSound (line template i).set (line_content hold (line template i))

-- a template by its shape
pub record TemplateStands (s : Sizes) (template : TreeLines) : Type 0 where
  pub lines : Each (LineStands home.Template s) line0 template
  pub descends : Descends template

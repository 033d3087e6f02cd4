-- What a change puts on an edge: a content, and the tree that lies under it.
use Rattle.std.specs.Prelude.{ℕ, cond, List, [], ◌∷◌, ◌++◌, ◌==◌}
use Rattle.rows.specs.declared.row.TreeLine.{TreeLine}
use Rattle.rows.specs.declared.row.TemplateRow.{TemplateRow}
use Rattle.layout.specs.Network.{TreeLines}
use Rattle.meaning.specs.declared.contents.Content.{Content}
use Rattle.meaning.specs.declared.contents.Content.TheVariants as content
use Rattle.obeying.specs.Rules.{line}
use Rattle.obeying.specs.TreeLaws.{under, lowered}
use Rattle.pasting.specs.Templates.{template_lines}

-- `under` is a tree on its own
pub record Pasted : Type 0 where
  pub content : ℕ
  pub first : ℕ
  pub second : ℕ
  pub under : TreeLines

-- a content with nothing under it
abbrev pub plain : ℕ → ℕ → ℕ → Pasted
plain content first second = record { content = content; first = first; second = second; under = [] }

abbrev pub with_content : TreeLine → ℕ → ℕ → ℕ → TreeLine
with_content x content first second = record { depth = x.depth; label = x.label; set = x.set; content = content; first = first; second = second }

-- the edge with that content, and its tree below the edge
abbrev pub placed : TreeLine → Pasted → TreeLines
placed x p = with_content x p.content p.first p.second ∷ lowered x.depth p.under

-- ---- templates

-- what lies on a line of a template: what a slot holds, or the line's own content. `hold` says what each slot holds
unfoldable pub line_content : (ℕ → Pasted) → TreeLine → Pasted
line_content hold x = cond (x.content == 4) (hold x.first) (plain x.content x.first x.second)

-- the template with its slots filled
abbrev pub filled : (ℕ → Pasted) → TreeLines → TreeLines
filled hold [] = []
filled hold (x ∷ xs) = placed x (line_content hold x) ++ filled hold xs

-- ---- contents of a change

abbrev pub pasted : (ℕ → Pasted) → List TemplateRow → Content → Pasted
pasted hold templates content.Tree = plain 0 0 0
pasted hold templates (content.Number n) = plain 1 n 0
pasted hold templates (content.Script job) = plain 2 job 0
pasted hold templates (content.Pointer path location) = plain 3 path location
pasted hold templates (content.Held slot) = hold slot
pasted hold templates (content.Template template) = record { content = 0; first = 0; second = 0; under = filled hold (template_lines templates template) }

-- ---- slots

-- what lies on an edge, with what lies under it
abbrev pub lying : TreeLines → ℕ → Pasted
lying tree i = record { content = (line tree i).content; first = (line tree i).first; second = (line tree i).second; under = under tree i }

-- what the slots hold once one of them is filled
abbrev pub holding : (ℕ → Pasted) → ℕ → Pasted → ℕ → Pasted
holding hold slot own k = cond (k == slot) own (hold k)

-- what a change gives line i: its content, where what lies on the edge is in the slot `own`
abbrev pub given : Content → (ℕ → Pasted) → ℕ → List TemplateRow → TreeLines → ℕ → Pasted
given content hold own templates tree i = pasted (holding hold own (lying tree i)) templates content

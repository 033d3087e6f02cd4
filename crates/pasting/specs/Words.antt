-- What a change may paste, in words: a content with slots that patterns filled, at a policy, under edges of a set.
use Rattle.std.specs.Prelude.{◌≡◌, ℕ, ◌+◌, ◌<◌, Bool, List, get_or, length, slice_index_or, Some, None, Option}
use Rattle.order.specs.RoleSets.{SetBelow}
use Rattle.rows.specs.declared.row.TreeLine.{TreeLine}
use Rattle.rows.specs.declared.row.PatternRow.{PatternRow}
use Rattle.layout.specs.Network.{TreeLines, Plan}
use Rattle.layout.specs.Zeros.{policy0, line0, job0}
use Rattle.meaning.specs.declared.contents.Content.{Content}
use Rattle.meaning.specs.declared.contents.Content.TheVariants as content
use Rattle.scan.specs.Scan.{Each}
use Rattle.obeying.specs.Rules.{TreeObeys}
use Rattle.slots.specs.declared.part.Part.{Part}
use Rattle.slots.specs.declared.part.Part.TheVariants as part
use Rattle.slots.specs.Slots.{part_at}
use Rattle.pasting.specs.Templates.{template_lines}

-- ---- whether a slot holds what can lie on an edge

abbrev pub IsRoute : Option Part → Type 0
IsRoute None = ⊥
IsRoute (Some part.Number) = ⊥
IsRoute (Some (part.Script policy)) = ⊥
IsRoute (Some (part.Place policy)) = ⊥
IsRoute (Some (part.Route last)) = Unit {0}
IsRoute (Some (part.Tree policy top all)) = ⊥

-- a slot and the next one: a location lies on an edge together with the path in the next slot, and a path not alone
abbrev pub PartFits : Option Part → Option Part → Type 0
PartFits None next = ⊥
PartFits (Some part.Number) next = Unit {0}
PartFits (Some (part.Script policy)) next = Unit {0}
PartFits (Some (part.Place policy)) next = IsRoute next
PartFits (Some (part.Route last)) next = ⊥
PartFits (Some (part.Tree policy top all)) next = Unit {0}

abbrev pub HeldFits : List PatternRow → List ℕ → ℕ → Type 0
HeldFits patterns slots slot = PartFits (part_at patterns slots slot) (part_at patterns slots (slot + 1))

-- content 4 of a template's line is what a slot holds
abbrev pub LineFits : List PatternRow → List ℕ → TreeLine → Type 0
LineFits patterns slots x = x.content ≡ 4 → HeldFits patterns slots x.first

abbrev pub ContentFits : Plan → List ℕ → Content → Type 0
ContentFits p slots content.Tree = Unit {0}
ContentFits p slots (content.Number n) = Unit {0}
ContentFits p slots (content.Script job) = Unit {0}
ContentFits p slots (content.Pointer path location) = Unit {0}
ContentFits p slots (content.Held slot) = HeldFits p.patterns slots slot
ContentFits p slots (content.Template template) = Each (LineFits p.patterns slots) line0 (template_lines p.templates template)

-- ---- whether what is pasted obeys the policy

-- the least set of a policy
abbrev pub least_of : Plan → ℕ → ℕ
least_of p policy = (slice_index_or p.policies policy policy0).least

-- a script that a slot holds is of the policy; so is a tree, and it counts as edges of its pattern's first set: the policy's least
-- set is ≤ that set, and so is the set of the edge above
abbrev pub PartObeys : (ℕ → ℕ → Bool) → Plan → ℕ → ℕ → Option Part → Type 0
PartObeys below p policy above None = Unit {0}
PartObeys below p policy above (Some part.Number) = Unit {0}
PartObeys below p policy above (Some (part.Script own)) = own ≡ policy
PartObeys below p policy above (Some (part.Place own)) = Unit {0}
PartObeys below p policy above (Some (part.Route last)) = Unit {0}
PartObeys below p policy above (Some (part.Tree own top all)) = (own ≡ policy) × (SetBelow below (least_of p policy) top × SetBelow below above top)

-- what a line of a template is held to beside the rules of trees: the set above the whole is ≤ the set of a top line, and what a
-- slot holds there obeys under the line's own set
pub record LineObeys (below : ℕ → ℕ → Bool) (p : Plan) (policy above : ℕ) (slots : List ℕ) (x : TreeLine) : Type 0 where
  pub outermost : x.depth ≡ 1 → SetBelow below above x.set
  pub held : x.content ≡ 4 → PartObeys below p policy x.set (part_at p.patterns slots x.first)

pub record TemplateObeys (below : ℕ → ℕ → Bool) (p : Plan) (policy above : ℕ) (slots : List ℕ) (tree : TreeLines) : Type 0 where
  pub obeys : TreeObeys below (least_of p policy) p.jobs policy tree
  pub lines : Each (LineObeys below p policy above slots) line0 tree

-- a content pasted at a policy, where the set `above` is that of the edges above
abbrev pub ContentObeys : (ℕ → ℕ → Bool) → Plan → ℕ → ℕ → List ℕ → Content → Type 0
ContentObeys below p policy above slots content.Tree = Unit {0}
ContentObeys below p policy above slots (content.Number n) = Unit {0}
ContentObeys below p policy above slots (content.Script job) = (job < length p.jobs) × ((get_or p.jobs job job0).policy ≡ policy)
ContentObeys below p policy above slots (content.Pointer path location) = Unit {0}
ContentObeys below p policy above slots (content.Held slot) = PartObeys below p policy above (part_at p.patterns slots slot)
ContentObeys below p policy above slots (content.Template template) = TemplateObeys below p policy above slots (template_lines p.templates template)

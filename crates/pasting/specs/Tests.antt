-- What a change may paste, as tests that compute. What each test says is in Words.
use Rattle.std.specs.Prelude.{ℕ, ◌+◌, Bool, true, false, not, ◌&&◌, ◌||◌, List, length, Some, None, Option, ◌==◌, nat_lt, slice_index_or}
use Rattle.order.specs.RoleSets.{set_below}
use Rattle.rows.specs.declared.row.TreeLine.{TreeLine}
use Rattle.rows.specs.declared.row.PatternRow.{PatternRow}
use Rattle.rows.specs.declared.row.JobRow.{JobRow}
use Rattle.layout.specs.Network.{TreeLines, Plan}
use Rattle.layout.specs.Zeros.{job0}
use Rattle.meaning.specs.declared.contents.Content.{Content}
use Rattle.meaning.specs.declared.contents.Content.TheVariants as content
use Rattle.scan.specs.Scan.{clear}
use Rattle.std.specs.List.{list_all}
use Rattle.obeying.specs.Breaches.{tree_breach}
use Rattle.slots.specs.declared.part.Part.{Part}
use Rattle.slots.specs.declared.part.Part.TheVariants as part
use Rattle.slots.specs.Slots.{part_at}
use Rattle.pasting.specs.Templates.{template_lines}
use Rattle.pasting.specs.Words.{least_of}

-- ---- whether a slot holds what can lie on an edge

abbrev pub is_route : Option Part → Bool
is_route None = false
is_route (Some part.Number) = false
is_route (Some (part.Script policy)) = false
is_route (Some (part.Place policy)) = false
is_route (Some (part.Route last)) = true
is_route (Some (part.Tree policy top all)) = false

abbrev pub part_fits : Option Part → Option Part → Bool
part_fits None next = false
part_fits (Some part.Number) next = true
part_fits (Some (part.Script policy)) next = true
part_fits (Some (part.Place policy)) next = is_route next
part_fits (Some (part.Route last)) next = false
part_fits (Some (part.Tree policy top all)) next = true

abbrev pub held_fits : List PatternRow → List ℕ → ℕ → Bool
held_fits patterns slots slot = part_fits (part_at patterns slots slot) (part_at patterns slots (slot + 1))

abbrev pub line_fits : List PatternRow → List ℕ → TreeLine → Bool
line_fits patterns slots x = not (x.content == 4) || held_fits patterns slots x.first

abbrev pub lines_fit : List PatternRow → List ℕ → TreeLines → Bool
lines_fit patterns slots tree = list_all (line_fits patterns slots) tree

abbrev pub content_fits : Plan → List ℕ → Content → Bool
content_fits p slots content.Tree = true
content_fits p slots (content.Number n) = true
content_fits p slots (content.Script job) = true
content_fits p slots (content.Pointer path location) = true
content_fits p slots (content.Held slot) = held_fits p.patterns slots slot
content_fits p slots (content.Template template) = lines_fit p.patterns slots (template_lines p.templates template)

-- ---- whether what is pasted obeys the policy

abbrev pub part_obeys : (ℕ → ℕ → Bool) → Plan → ℕ → ℕ → Option Part → Bool
part_obeys below p policy above None = true
part_obeys below p policy above (Some part.Number) = true
part_obeys below p policy above (Some (part.Script own)) = own == policy
part_obeys below p policy above (Some (part.Place own)) = true
part_obeys below p policy above (Some (part.Route last)) = true
part_obeys below p policy above (Some (part.Tree own top all)) = own == policy && (set_below below (least_of p policy) top && set_below below above top)

abbrev pub line_obeys : (ℕ → ℕ → Bool) → Plan → ℕ → ℕ → List ℕ → TreeLine → Bool
line_obeys below p policy above slots x =
    (not (x.depth == 1) || set_below below above x.set)
    && (not (x.content == 4) || part_obeys below p policy x.set (part_at p.patterns slots x.first))

abbrev pub template_obeys : (ℕ → ℕ → Bool) → Plan → ℕ → ℕ → List ℕ → TreeLines → Bool
template_obeys below p policy above slots tree =
    clear (tree_breach below (least_of p policy) p.jobs policy tree) && list_all (line_obeys below p policy above slots) tree

abbrev pub has_job : List JobRow → ℕ → ℕ → Bool
has_job jobs policy job = nat_lt job (length jobs) && (slice_index_or jobs job job0).policy == policy

abbrev pub content_obeys : (ℕ → ℕ → Bool) → Plan → ℕ → ℕ → List ℕ → Content → Bool
content_obeys below p policy above slots content.Tree = true
content_obeys below p policy above slots (content.Number n) = true
content_obeys below p policy above slots (content.Script job) = has_job p.jobs policy job
content_obeys below p policy above slots (content.Pointer path location) = true
content_obeys below p policy above slots (content.Held slot) = part_obeys below p policy above (part_at p.patterns slots slot)
content_obeys below p policy above slots (content.Template template) = template_obeys below p policy above slots (template_lines p.templates template)

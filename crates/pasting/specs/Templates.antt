-- The lines of a template, as a tree.
use Rattle.std.specs.Prelude.{ℕ, cond, List, [], ◌∷◌, ◌==◌}
use Rattle.rows.specs.declared.row.TemplateRow.{TemplateRow}
use Rattle.layout.specs.Network.{TreeLines}

-- those of these rows that have the template's number
abbrev pub template_lines : List TemplateRow → ℕ → TreeLines
template_lines [] template = []
template_lines (x ∷ xs) template = cond (x.template == template) (x.line ∷ template_lines xs template) (template_lines xs template)

-- The rows that the stretches of each kind spell: the fields in their order, by name.
use Rattle.std.specs.Prelude.{List, [], ◌∷◌, ℕ, get_or}
use Rattle.number.specs.declared.reading.Width.{Width}
use Rattle.number.specs.declared.reading.Width.TheVariants.{Narrow, Wide}
use Rattle.sheet.specs.declared.kinds.LineKind.{LineKind}
use Rattle.sheet.specs.declared.kinds.LineKind.TheVariants as kind
use Rattle.rows.specs.declared.row.PolicyRow.{PolicyRow}
use Rattle.rows.specs.declared.row.GrantRow.{GrantRow}
use Rattle.rows.specs.declared.row.LocationRow.{LocationRow}
use Rattle.rows.specs.declared.row.PathStepRow.{PathStepRow}
use Rattle.rows.specs.declared.row.EdgeRow.{EdgeRow}
use Rattle.rows.specs.declared.row.TreeLine.{TreeLine}
use Rattle.rows.specs.declared.row.TemplateRow.{TemplateRow}
use Rattle.rows.specs.declared.row.PatternRow.{PatternRow}
use Rattle.rows.specs.declared.row.CommandRow.{CommandRow}
use Rattle.rows.specs.declared.row.JobRow.{JobRow}
use Rattle.sheet.specs.Fields.{values, field_at}
use Rattle.sheet.specs.Kinds.{widths}

-- field i of a stretch of the kind
abbrev pub field : LineKind → List ℕ → ℕ → ℕ
field k bytes i = get_or (values (widths k) 0 bytes) i 0

abbrev pub policy_row : List ℕ → PolicyRow
policy_row s = record { least = field kind.Policy s 0 }

abbrev pub grant_row : List ℕ → GrantRow
grant_row s = record { policy = field kind.Grant s 0; direction = field kind.Grant s 1; holder = field kind.Grant s 2; role = field kind.Grant s 3 }

abbrev pub location_row : List ℕ → LocationRow
location_row s = record { policy = field kind.Location s 0 }

abbrev pub path_step_row : List ℕ → PathStepRow
path_step_row s = record { path = field kind.PathStep s 0; label = field kind.PathStep s 1; set = field kind.PathStep s 2 }

-- the fields that edges and template lines have behind their first
abbrev pub shared_widths : List Width
shared_widths = Narrow ∷ Narrow ∷ Wide ∷ Narrow ∷ Narrow ∷ Narrow ∷ []

abbrev pub tree_line_at : ℕ → List ℕ → TreeLine
tree_line_at place s = record {
  depth = get_or (values shared_widths place s) 0 0;
  label = get_or (values shared_widths place s) 1 0;
  set = get_or (values shared_widths place s) 2 0;
  content = get_or (values shared_widths place s) 3 0;
  first = get_or (values shared_widths place s) 4 0;
  second = get_or (values shared_widths place s) 5 0;
}

abbrev pub edge_row : List ℕ → EdgeRow
edge_row s = record { location = field kind.Edge s 0; line = tree_line_at (field_at Narrow 0 s).1 s }

abbrev pub template_row : List ℕ → TemplateRow
template_row s = record { template = field kind.TemplateLine s 0; line = tree_line_at (field_at Narrow 0 s).1 s }

abbrev pub pattern_row : List ℕ → PatternRow
pattern_row s = record {
  kind = field kind.Pattern s 0;
  slot = field kind.Pattern s 1;
  policy = field kind.Pattern s 2;
  first = field kind.Pattern s 3;
  second = field kind.Pattern s 4;
}

abbrev pub command_row : List ℕ → CommandRow
command_row s = record {
  verb = field kind.Command s 0;
  next = field kind.Command s 1;
  operand_kind = field kind.Command s 2;
  operand = field kind.Command s 3;
  first = field kind.Command s 4;
  second = field kind.Command s 5;
  third = field kind.Command s 6;
  fourth = field kind.Command s 7;
}

abbrev pub job_row : List ℕ → JobRow
job_row s = record { policy = field kind.Job s 0; roles = field kind.Job s 1; command = field kind.Job s 2 }

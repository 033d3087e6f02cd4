-- The row that a line spells.
use Rattle.std.specs.Prelude.{ℕ, List}
use Rattle.sheet.specs.declared.kinds.LineKind.{LineKind}
use Rattle.sheet.specs.declared.kinds.LineKind.TheVariants as kind
use Rattle.rows.specs.Decoding.{policy_row, grant_row, location_row, path_step_row, edge_row, template_row, pattern_row, command_row, job_row}
use Rattle.filing.specs.declared.decoded.Row.{Row}
use Rattle.filing.specs.declared.decoded.Row.TheVariants.{Policy, Grant, Location, PathStep, Edge, TemplateLine, Pattern, Command, Job}

-- a line by its kind and the bytes of its fields
abbrev pub row_of : LineKind → List ℕ → Row
row_of kind.Policy bytes = Policy (policy_row bytes)
row_of kind.Grant bytes = Grant (grant_row bytes)
row_of kind.Location bytes = Location (location_row bytes)
row_of kind.PathStep bytes = PathStep (path_step_row bytes)
row_of kind.Edge bytes = Edge (edge_row bytes)
row_of kind.TemplateLine bytes = TemplateLine (template_row bytes)
row_of kind.Pattern bytes = Pattern (pattern_row bytes)
row_of kind.Command bytes = Command (command_row bytes)
row_of kind.Job bytes = Job (job_row bytes)

-- a line as it shows itself
abbrev pub row_shown : LineKind × List ℕ → Row
row_shown shown = row_of shown.0 shown.1

-- the kind of the line that spells the row
abbrev pub row_kind : Row → LineKind
row_kind (Policy row) = kind.Policy
row_kind (Grant row) = kind.Grant
row_kind (Location row) = kind.Location
row_kind (PathStep row) = kind.PathStep
row_kind (Edge row) = kind.Edge
row_kind (TemplateLine row) = kind.TemplateLine
row_kind (Pattern row) = kind.Pattern
row_kind (Command row) = kind.Command
row_kind (Job row) = kind.Job

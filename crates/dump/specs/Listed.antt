-- The fields of each row, in the order of the sheet.
use Rattle.std.specs.Prelude.{List, [], ◌∷◌}
use Rattle.rows.specs.declared.row.PolicyRow.{PolicyRow}
use Rattle.rows.specs.declared.row.GrantRow.{GrantRow}
use Rattle.rows.specs.declared.row.LocationRow.{LocationRow}
use Rattle.rows.specs.declared.row.PathStepRow.{PathStepRow}
use Rattle.rows.specs.declared.row.TreeLine.{TreeLine}
use Rattle.rows.specs.declared.row.EdgeRow.{EdgeRow}
use Rattle.rows.specs.declared.row.TemplateRow.{TemplateRow}
use Rattle.rows.specs.declared.row.PatternRow.{PatternRow}
use Rattle.rows.specs.declared.row.CommandRow.{CommandRow}
use Rattle.rows.specs.declared.row.JobRow.{JobRow}
use Rattle.layout.specs.declared.memory.RunningRow.{RunningRow}
use Rattle.dump.specs.declared.field.Field.{Field}
use Rattle.dump.specs.declared.field.Field.TheVariants.{Number, Set}

abbrev pub policy_fields : PolicyRow → List Field
policy_fields r = Set r.least ∷ []

abbrev pub grant_fields : GrantRow → List Field
grant_fields r = Number r.policy ∷ Number r.direction ∷ Set r.holder ∷ Number r.role ∷ []

abbrev pub location_fields : LocationRow → List Field
location_fields r = Number r.policy ∷ []

abbrev pub step_fields : PathStepRow → List Field
step_fields r = Number r.path ∷ Number r.label ∷ Set r.set ∷ []

abbrev pub line_fields : TreeLine → List Field
line_fields r = Number r.depth ∷ Number r.label ∷ Set r.set ∷ Number r.content ∷ Number r.first ∷ Number r.second ∷ []

abbrev pub edge_fields : EdgeRow → List Field
edge_fields r = Number r.location ∷ line_fields r.line

abbrev pub template_fields : TemplateRow → List Field
template_fields r = Number r.template ∷ line_fields r.line

abbrev pub pattern_fields : PatternRow → List Field
pattern_fields r = Number r.kind ∷ Number r.slot ∷ Number r.policy ∷ Set r.first ∷ Set r.second ∷ []

abbrev pub command_fields : CommandRow → List Field
command_fields r = Number r.verb ∷ Number r.next ∷ Number r.operand_kind ∷ Number r.operand ∷ Number r.first ∷ Number r.second ∷ Number r.third ∷ Number r.fourth ∷ []

abbrev pub job_fields : JobRow → List Field
job_fields r = Number r.policy ∷ Set r.roles ∷ Number r.command ∷ []

-- A running job, but for its slots.
abbrev pub running_fields : RunningRow → List Field
running_fields r = Number r.location ∷ Set r.roles ∷ Number r.command ∷ []

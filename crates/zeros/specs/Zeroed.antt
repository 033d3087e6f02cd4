-- Tests for rows that are all zero.
use Rattle.std.specs.Prelude.{Bool, ◌&&◌, ◌==◌}
use Rattle.scan.specs.Scan.{first_bad, clear}
use Rattle.rows.specs.declared.row.PolicyRow.{PolicyRow}
use Rattle.rows.specs.declared.row.GrantRow.{GrantRow}
use Rattle.rows.specs.declared.row.LocationRow.{LocationRow}
use Rattle.rows.specs.declared.row.PathStepRow.{PathStepRow}
use Rattle.rows.specs.declared.row.TreeLine.{TreeLine}
use Rattle.rows.specs.declared.row.TemplateRow.{TemplateRow}
use Rattle.rows.specs.declared.row.PatternRow.{PatternRow}
use Rattle.rows.specs.declared.row.CommandRow.{CommandRow}
use Rattle.rows.specs.declared.row.JobRow.{JobRow}
use Rattle.layout.specs.declared.memory.Slot.{Slot}
use Rattle.layout.specs.declared.memory.RunningRow.{RunningRow}

abbrev pub policy_zero : PolicyRow → Bool
policy_zero x = x.least == 0

abbrev pub grant_zero : GrantRow → Bool
grant_zero x = x.policy == 0 && (x.direction == 0 && (x.holder == 0 && x.role == 0))

abbrev pub location_zero : LocationRow → Bool
location_zero x = x.policy == 0

abbrev pub step_zero : PathStepRow → Bool
step_zero x = x.path == 0 && (x.label == 0 && x.set == 0)

abbrev pub line_zero : TreeLine → Bool
line_zero x = x.depth == 0 && (x.label == 0 && (x.set == 0 && (x.content == 0 && (x.first == 0 && x.second == 0))))

abbrev pub template_zero : TemplateRow → Bool
template_zero x = x.template == 0 && line_zero x.line

abbrev pub pattern_zero : PatternRow → Bool
pattern_zero x = x.kind == 0 && (x.slot == 0 && (x.policy == 0 && (x.first == 0 && x.second == 0)))

abbrev pub command_zero : CommandRow → Bool
command_zero x =
    (x.verb == 0) && (x.next == 0 && (x.operand_kind == 0 && (x.operand == 0
    && (x.first == 0 && (x.second == 0 && (x.third == 0 && x.fourth == 0))))))

abbrev pub job_zero : JobRow → Bool
job_zero x = x.policy == 0 && (x.roles == 0 && x.command == 0)

abbrev pub slot_zero : Slot → Bool
slot_zero x = x.pattern == 0 && x.value == 0

abbrev pub running_zero : RunningRow → Bool
running_zero x = (x.location == 0 && (x.roles == 0 && x.command == 0)) && clear (first_bad (λ i y. slot_zero y) 0 x.slots)

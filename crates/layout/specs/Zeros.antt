-- The rows that are all zero.
use Rattle.std.specs.Prelude.{[], replicate}
use Rattle.rows.specs.declared.row.PolicyRow.{PolicyRow}
use Rattle.rows.specs.declared.row.GrantRow.{GrantRow}
use Rattle.rows.specs.declared.row.LocationRow.{LocationRow}
use Rattle.rows.specs.declared.row.PathStepRow.{PathStepRow}
use Rattle.rows.specs.declared.row.TreeLine.{TreeLine}
use Rattle.rows.specs.declared.row.TemplateRow.{TemplateRow}
use Rattle.rows.specs.declared.row.PatternRow.{PatternRow}
use Rattle.rows.specs.declared.row.CommandRow.{CommandRow}
use Rattle.rows.specs.declared.row.JobRow.{JobRow}
use Rattle.layout.specs.declared.held.Table.{Table}
use Rattle.layout.specs.declared.memory.Slot.{Slot}
use Rattle.layout.specs.declared.memory.RunningRow.{RunningRow}

abbrev pub policy0 : PolicyRow
policy0 = record { least = 0 }

abbrev pub grant0 : GrantRow
grant0 = record { policy = 0; direction = 0; holder = 0; role = 0 }

abbrev pub location0 : LocationRow
location0 = record { policy = 0 }

abbrev pub step0 : PathStepRow
step0 = record { path = 0; label = 0; set = 0 }

abbrev pub line0 : TreeLine
line0 = record { depth = 0; label = 0; set = 0; content = 0; first = 0; second = 0 }

abbrev pub template0 : TemplateRow
template0 = record { template = 0; line = line0 }

abbrev pub pattern0 : PatternRow
pattern0 = record { kind = 0; slot = 0; policy = 0; first = 0; second = 0 }

abbrev pub command0 : CommandRow
command0 = record { verb = 0; next = 0; operand_kind = 0; operand = 0; first = 0; second = 0; third = 0; fourth = 0 }

abbrev pub job0 : JobRow
job0 = record { policy = 0; roles = 0; command = 0 }

abbrev pub slot0 : Slot
slot0 = record { pattern = 0; value = 0 }

abbrev pub running0 : RunningRow
running0 = record { location = 0; roles = 0; command = 0; slots = replicate 6 slot0 }

-- what is read at a place that a list does not have: the checker's own values, with no rows at all
abbrev pub no_tree : Table TreeLine 128
no_tree = record { count = 0; rows = [] }

abbrev pub no_running : RunningRow
no_running = record { location = 0; roles = 0; command = 0; slots = [] }

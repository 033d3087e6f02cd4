-- One table put in the place of another.
use Rattle.std.specs.Prelude.{List}
use Rattle.rows.specs.declared.row.PolicyRow.{PolicyRow}
use Rattle.rows.specs.declared.row.GrantRow.{GrantRow}
use Rattle.rows.specs.declared.row.LocationRow.{LocationRow}
use Rattle.rows.specs.declared.row.PathStepRow.{PathStepRow}
use Rattle.rows.specs.declared.row.TreeLine.{TreeLine}
use Rattle.rows.specs.declared.row.TemplateRow.{TemplateRow}
use Rattle.rows.specs.declared.row.PatternRow.{PatternRow}
use Rattle.rows.specs.declared.row.CommandRow.{CommandRow}
use Rattle.rows.specs.declared.row.JobRow.{JobRow}
use Rattle.layout.specs.declared.held.Table.{Table}
use Rattle.layout.specs.declared.memory.RunningRow.{RunningRow}
use Rattle.layout.specs.declared.memory.Shelf.{Shelf}
use Rattle.layout.specs.declared.memory.Tables.{Tables}

abbrev pub with_policies : Tables → Table PolicyRow 16 → Tables
with_policies t x = record { policies = x; grants = t.grants; locations = t.locations; steps = t.steps; trees = t.trees; templates = t.templates; patterns = t.patterns; commands = t.commands; jobs = t.jobs; running = t.running; shelf = t.shelf }

abbrev pub with_grants : Tables → Table GrantRow 64 → Tables
with_grants t x = record { policies = t.policies; grants = x; locations = t.locations; steps = t.steps; trees = t.trees; templates = t.templates; patterns = t.patterns; commands = t.commands; jobs = t.jobs; running = t.running; shelf = t.shelf }

abbrev pub with_locations : Tables → Table LocationRow 16 → Tables
with_locations t x = record { policies = t.policies; grants = t.grants; locations = x; steps = t.steps; trees = t.trees; templates = t.templates; patterns = t.patterns; commands = t.commands; jobs = t.jobs; running = t.running; shelf = t.shelf }

abbrev pub with_steps : Tables → Table PathStepRow 256 → Tables
with_steps t x = record { policies = t.policies; grants = t.grants; locations = t.locations; steps = x; trees = t.trees; templates = t.templates; patterns = t.patterns; commands = t.commands; jobs = t.jobs; running = t.running; shelf = t.shelf }

abbrev pub with_trees : Tables → List (Table TreeLine 128) → Tables
with_trees t x = record { policies = t.policies; grants = t.grants; locations = t.locations; steps = t.steps; trees = x; templates = t.templates; patterns = t.patterns; commands = t.commands; jobs = t.jobs; running = t.running; shelf = t.shelf }

abbrev pub with_templates : Tables → Table TemplateRow 256 → Tables
with_templates t x = record { policies = t.policies; grants = t.grants; locations = t.locations; steps = t.steps; trees = t.trees; templates = x; patterns = t.patterns; commands = t.commands; jobs = t.jobs; running = t.running; shelf = t.shelf }

abbrev pub with_patterns : Tables → Table PatternRow 64 → Tables
with_patterns t x = record { policies = t.policies; grants = t.grants; locations = t.locations; steps = t.steps; trees = t.trees; templates = t.templates; patterns = x; commands = t.commands; jobs = t.jobs; running = t.running; shelf = t.shelf }

abbrev pub with_commands : Tables → Table CommandRow 255 → Tables
with_commands t x = record { policies = t.policies; grants = t.grants; locations = t.locations; steps = t.steps; trees = t.trees; templates = t.templates; patterns = t.patterns; commands = x; jobs = t.jobs; running = t.running; shelf = t.shelf }

abbrev pub with_jobs : Tables → Table JobRow 64 → Tables
with_jobs t x = record { policies = t.policies; grants = t.grants; locations = t.locations; steps = t.steps; trees = t.trees; templates = t.templates; patterns = t.patterns; commands = t.commands; jobs = x; running = t.running; shelf = t.shelf }

abbrev pub with_running : Tables → Table RunningRow 64 → Tables
with_running t x = record { policies = t.policies; grants = t.grants; locations = t.locations; steps = t.steps; trees = t.trees; templates = t.templates; patterns = t.patterns; commands = t.commands; jobs = t.jobs; running = x; shelf = t.shelf }

abbrev pub with_shelf : Tables → Shelf → Tables
with_shelf t x = record { policies = t.policies; grants = t.grants; locations = t.locations; steps = t.steps; trees = t.trees; templates = t.templates; patterns = t.patterns; commands = t.commands; jobs = t.jobs; running = t.running; shelf = x }

-- Filing: when a line is in its place, when there is room for it, and the network with it.
use Rattle.std.specs.Prelude.{ℕ, ◌+◌, ◌-◌, Bool, true, cond, ◌&&◌, ◌||◌, List, [], ◌∷◌, ◌++◌, length, Ok, Err, Result, ◌==◌, nat_le, nat_lt, slice_get, slice_index_or, slice_set, codes}
use Rattle.rows.specs.declared.row.PolicyRow.{PolicyRow}
use Rattle.rows.specs.declared.row.GrantRow.{GrantRow}
use Rattle.rows.specs.declared.row.LocationRow.{LocationRow}
use Rattle.rows.specs.declared.row.PathStepRow.{PathStepRow}
use Rattle.rows.specs.declared.row.TemplateRow.{TemplateRow}
use Rattle.rows.specs.declared.row.PatternRow.{PatternRow}
use Rattle.rows.specs.declared.row.CommandRow.{CommandRow}
use Rattle.rows.specs.declared.row.JobRow.{JobRow}
use Rattle.rows.specs.Numbering.{next_number}
use Rattle.layout.specs.Network.{Network, Plan, TreeLines}
use Rattle.filing.specs.declared.decoded.Row.{Row}
use Rattle.filing.specs.declared.decoded.Row.TheVariants.{Policy, Grant, Location, PathStep, Edge, TemplateLine, Pattern, Command, Job}
use Rattle.filing.specs.declared.placing.Before.{Before}
use Rattle.filing.specs.declared.placing.Misplaced.{Misplaced}
use Rattle.filing.specs.declared.placing.Misplaced.TheVariants.{OutOfPlace, Full}
use Rattle.sheet.specs.Kinds.{code_of}
use Rattle.filing.specs.Rows.{row_kind}

-- before the first line there is no line of any kind
abbrev pub none_before : Before
none_before = record { kind = 0; location = 0 }

-- ---- in its place

-- how many paths have begun, and how many templates
abbrev pub path_count : List PathStepRow → ℕ
path_count steps = next_number (λ step. step.path) (slice_get steps (length steps - 1))

abbrev pub template_count : List TemplateRow → ℕ
template_count lines = next_number (λ line. line.template) (slice_get lines (length lines - 1))

-- the number is the next, or that of the line before
abbrev pub runs_on : ℕ → ℕ → Bool
runs_on number count = number == count || number + 1 == count

-- a path and a template go on or begin next; an edge has its location before it, and the edges come by location
abbrev pub follows : Before → Network → Row → Bool
follows before n (Policy row) = true
follows before n (Grant row) = true
follows before n (Location row) = true
follows before n (PathStep row) = runs_on row.path (path_count n.plan.steps)
follows before n (Edge row) = nat_lt row.location (length n.plan.locations) && nat_le before.location row.location
follows before n (TemplateLine row) = runs_on row.template (template_count n.plan.templates)
follows before n (Pattern row) = true
follows before n (Command row) = true
follows before n (Job row) = true

-- the number of the row's kind in a sheet
abbrev pub kind_number : Row → ℕ
kind_number row = code_of (row_kind row)

-- the kinds come in their order
abbrev pub in_place : Before → Network → Row → Bool
in_place before n row = nat_le before.kind (kind_number row) && follows before n row

-- ---- room

-- each table has its limit, paths and templates theirs, and each location has one for its edges
abbrev pub has_room : Network → Row → Bool
has_room n (Policy row) = nat_lt (length n.plan.policies) 16
has_room n (Grant row) = nat_lt (length n.plan.grants) 64
has_room n (Location row) = nat_lt (length n.plan.locations) 16
has_room n (PathStep row) = nat_lt row.path 64 && nat_lt (length n.plan.steps) 256
has_room n (Edge row) = nat_lt (length (slice_index_or n.trees row.location [])) 128
has_room n (TemplateLine row) = nat_lt row.template 32 && nat_lt (length n.plan.templates) 256
has_room n (Pattern row) = nat_lt (length n.plan.patterns) 64
has_room n (Command row) = nat_lt (length n.plan.commands) 255
has_room n (Job row) = nat_lt (length n.plan.jobs) 64

-- ---- the network with the row

abbrev pub with_plan : Network → Plan → Network
with_plan n p = record { plan = p; trees = n.trees; running = n.running; shelf = n.shelf }

abbrev pub with_trees : Network → List TreeLines → Network
with_trees n trees = record { plan = n.plan; trees = trees; running = n.running; shelf = n.shelf }

abbrev pub with_policies : Plan → List PolicyRow → Plan
with_policies p rows = record { policies = rows; grants = p.grants; locations = p.locations; steps = p.steps; templates = p.templates; patterns = p.patterns; commands = p.commands; jobs = p.jobs }

abbrev pub with_grants : Plan → List GrantRow → Plan
with_grants p rows = record { policies = p.policies; grants = rows; locations = p.locations; steps = p.steps; templates = p.templates; patterns = p.patterns; commands = p.commands; jobs = p.jobs }

abbrev pub with_locations : Plan → List LocationRow → Plan
with_locations p rows = record { policies = p.policies; grants = p.grants; locations = rows; steps = p.steps; templates = p.templates; patterns = p.patterns; commands = p.commands; jobs = p.jobs }

abbrev pub with_steps : Plan → List PathStepRow → Plan
with_steps p rows = record { policies = p.policies; grants = p.grants; locations = p.locations; steps = rows; templates = p.templates; patterns = p.patterns; commands = p.commands; jobs = p.jobs }

abbrev pub with_templates : Plan → List TemplateRow → Plan
with_templates p rows = record { policies = p.policies; grants = p.grants; locations = p.locations; steps = p.steps; templates = rows; patterns = p.patterns; commands = p.commands; jobs = p.jobs }

abbrev pub with_patterns : Plan → List PatternRow → Plan
with_patterns p rows = record { policies = p.policies; grants = p.grants; locations = p.locations; steps = p.steps; templates = p.templates; patterns = rows; commands = p.commands; jobs = p.jobs }

abbrev pub with_commands : Plan → List CommandRow → Plan
with_commands p rows = record { policies = p.policies; grants = p.grants; locations = p.locations; steps = p.steps; templates = p.templates; patterns = p.patterns; commands = rows; jobs = p.jobs }

abbrev pub with_jobs : Plan → List JobRow → Plan
with_jobs p rows = record { policies = p.policies; grants = p.grants; locations = p.locations; steps = p.steps; templates = p.templates; patterns = p.patterns; commands = p.commands; jobs = rows }

-- the row stands behind the last of its table, an edge behind the last of its location
abbrev pub filed : Network → Row → Network
filed n (Policy row) = with_plan n (with_policies n.plan (n.plan.policies ++ row ∷ []))
filed n (Grant row) = with_plan n (with_grants n.plan (n.plan.grants ++ row ∷ []))
filed n (Location row) = with_plan n (with_locations n.plan (n.plan.locations ++ row ∷ []))
filed n (PathStep row) = with_plan n (with_steps n.plan (n.plan.steps ++ row ∷ []))
filed n (Edge row) = with_trees n (slice_set n.trees row.location (slice_index_or n.trees row.location [] ++ row.line ∷ []))
filed n (TemplateLine row) = with_plan n (with_templates n.plan (n.plan.templates ++ row ∷ []))
filed n (Pattern row) = with_plan n (with_patterns n.plan (n.plan.patterns ++ row ∷ []))
filed n (Command row) = with_plan n (with_commands n.plan (n.plan.commands ++ row ∷ []))
filed n (Job row) = with_plan n (with_jobs n.plan (n.plan.jobs ++ row ∷ []))

-- ---- one line

-- the location of the last edge, once the row is filed
abbrev pub location_after : ℕ → Row → ℕ
location_after location (Policy row) = location
location_after location (Grant row) = location
location_after location (Location row) = location
location_after location (PathStep row) = location
location_after location (Edge row) = row.location
location_after location (TemplateLine row) = location
location_after location (Pattern row) = location
location_after location (Command row) = location
location_after location (Job row) = location

abbrev pub behind : Before → Row → Before
behind before row = record { kind = kind_number row; location = location_after before.location row }

-- a line out of place is told before a full table
abbrev pub placed : Before → Network → Row → Result Before Misplaced
placed before n row = cond (in_place before n row) (cond (has_room n row) (Ok (behind before row)) (Err Full)) (Err OutOfPlace)

-- what is known then, and the network: as before, where the row is not filed
abbrev pub before_after : Before → Result Before Misplaced → Before
before_after before (Ok after) = after
before_after before (Err why) = before

abbrev pub network_after : Result Before Misplaced → Network → Row → Network
network_after (Ok before) n row = filed n row
network_after (Err why) n row = n

-- why a line is not filed, in words
abbrev pub misplaced_words : Misplaced → List ℕ
misplaced_words OutOfPlace = codes "the line is out of place"
misplaced_words Full = codes "the line's table is full, or its path or template is one too many"

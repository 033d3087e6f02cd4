-- Whether a row stands, as tests that compute. What each test says is in Words.
use Rattle.std.specs.Prelude.{ℕ, ◌+◌, ◌-◌, Bool, true, false, cond, not, ◌&&◌, ◌||◌, List, replicate, Some, None, Option, ◌==◌, nat_le, nat_lt, slice_index_or, slice_set}
use Rattle.order.specs.RoleSets.{has, in_use_of}
use Rattle.rows.specs.declared.row.PolicyRow.{PolicyRow}
use Rattle.rows.specs.declared.row.GrantRow.{GrantRow}
use Rattle.rows.specs.declared.row.LocationRow.{LocationRow}
use Rattle.rows.specs.declared.row.PathStepRow.{PathStepRow}
use Rattle.rows.specs.declared.row.TreeLine.{TreeLine}
use Rattle.rows.specs.declared.row.TemplateRow.{TemplateRow}
use Rattle.rows.specs.declared.row.PatternRow.{PatternRow}
use Rattle.rows.specs.declared.row.CommandRow.{CommandRow}
use Rattle.rows.specs.declared.row.JobRow.{JobRow}
use Rattle.layout.specs.declared.memory.Slot.{Slot}
use Rattle.layout.specs.declared.memory.RunningRow.{RunningRow}
use Rattle.layout.specs.Zeros.{pattern0}
use Rattle.meaning.specs.declared.contents.Content.{Content}
use Rattle.meaning.specs.declared.contents.Content.TheVariants as content
use Rattle.meaning.specs.declared.patterns.Pattern.{Pattern}
use Rattle.meaning.specs.declared.patterns.Pattern.TheVariants as pattern
use Rattle.meaning.specs.declared.verbs.Operand.{Operand}
use Rattle.meaning.specs.declared.verbs.Operand.TheVariants as operand
use Rattle.meaning.specs.declared.verbs.Verb.{Verb}
use Rattle.meaning.specs.declared.verbs.Verb.TheVariants as verb
use Rattle.meaning.specs.Decoding.{content_of, pattern_of, verb_of}
use Rattle.scan.specs.Scan.{first_bad, clear}
use Rattle.standing.specs.declared.sizes.Sizes.{Sizes}
use Rattle.standing.specs.declared.steps.StepsBefore.{StepsBefore}
use Rattle.standing.specs.declared.lines.Home.{Home}
use Rattle.standing.specs.declared.lines.Home.TheVariants as home
use Rattle.standing.specs.declared.lines.LineBefore.{LineBefore}
use Rattle.standing.specs.declared.lines.LinesBefore.{LinesBefore}
use Rattle.standing.specs.declared.commands.Named.{Named}

-- the row means something, and that passes the test
abbrev pub given : {X : Type 0} → Option X → (X → Bool) → Bool
given None test = false
given (Some x) test = test x

-- ---- rows that ask nothing of the rows before

abbrev pub policy_passes : Sizes → PolicyRow → Bool
policy_passes s x = in_use_of s.roles x.least

abbrev pub grant_passes : Sizes → GrantRow → Bool
grant_passes s x = (nat_lt x.policy s.policies && (nat_le x.direction 1 && nat_lt x.role s.roles)) && in_use_of s.roles x.holder

abbrev pub location_passes : Sizes → LocationRow → Bool
location_passes s x = nat_lt x.policy s.policies

abbrev pub pattern_stands : Sizes → Pattern → Bool
pattern_stands s (pattern.Number slot) = nat_lt slot 6
pattern_stands s (pattern.Script slot policy) = nat_lt slot 6 && nat_lt policy s.policies
pattern_stands s (pattern.Pointer slot policy last) = (nat_lt slot 5 && nat_lt policy s.policies) && in_use_of s.roles last
pattern_stands s (pattern.Tree slot policy top all) = (nat_lt slot 6 && nat_lt policy s.policies) && (in_use_of s.roles top && in_use_of s.roles all)

abbrev pub pattern_passes : Sizes → PatternRow → Bool
pattern_passes s x = given (pattern_of x) (pattern_stands s)

abbrev pub job_passes : Sizes → JobRow → Bool
job_passes s x = (nat_lt x.policy s.policies && (nat_lt 0 x.command && nat_le x.command s.commands)) && in_use_of s.roles x.roles

-- ---- path steps: how many paths there are before, and how many steps the last of them has

abbrev pub no_steps : StepsBefore
no_steps = record { paths = 0; run = 0 }

-- a further step of the last path, or the first of the next
abbrev pub step_passes : Sizes → StepsBefore → PathStepRow → Bool
step_passes s b x = cond (x.path + 1 == b.paths) (nat_lt b.run 8) (x.path == b.paths && nat_lt b.paths 64) && in_use_of s.roles x.set

-- a ninth step and more are counted as the eighth
abbrev pub run_after : StepsBefore → PathStepRow → ℕ
run_after b x = cond (x.path + 1 == b.paths) (cond (nat_lt b.run 8) (b.run + 1) 8) 1

abbrev pub steps_after : StepsBefore → PathStepRow → StepsBefore
steps_after b x = record { paths = x.path + 1; run = run_after b x }

-- ---- lines of a tree: the depth of the line before, and whether lines may lie under it

abbrev pub root : LineBefore
root = record { depth = 0; branch = true }

-- no deeper than the line before, or one deeper where that is a branch
abbrev pub follows : LineBefore → ℕ → Bool
follows b depth = nat_le depth b.depth || (b.branch && depth - 1 == b.depth)

-- what the content names exists
abbrev pub content_stands : Sizes → Content → Bool
content_stands s content.Tree = true
content_stands s (content.Number n) = true
content_stands s (content.Script job) = nat_lt job s.jobs
content_stands s (content.Pointer path location) = nat_lt path s.paths && nat_lt location s.locations
content_stands s (content.Held slot) = nat_lt slot 6
content_stands s (content.Template template) = nat_lt template s.templates

-- what a slot holds stands only in templates and changes, and a template only in changes
abbrev pub belongs : Home → Content → Bool
belongs h content.Tree = true
belongs h (content.Number n) = true
belongs h (content.Script job) = true
belongs h (content.Pointer path location) = true
belongs home.Tree (content.Held slot) = false
belongs home.Template (content.Held slot) = true
belongs h (content.Template template) = false

abbrev pub content_passes : Home → Sizes → TreeLine → Bool
content_passes h s x = given (content_of x.content x.first x.second) (λ c. belongs h c && content_stands s c)

abbrev pub line_passes : Home → Sizes → LineBefore → TreeLine → Bool
line_passes h s b x =
    (nat_le 1 x.depth && (nat_le x.depth 12 && follows b x.depth))
    && (in_use_of s.roles x.set && (has x.set s.top && content_passes h s x))

abbrev pub line_after : TreeLine → LineBefore
line_after x = record { depth = x.depth; branch = (x.content == 0) }

-- ---- template lines: how many templates there are before, and the last line of the last

abbrev pub no_lines : LinesBefore
no_lines = record { templates = 0; line = root }

abbrev pub template_passes : Sizes → LinesBefore → TemplateRow → Bool
template_passes s b x =
    cond (x.template + 1 == b.templates) (line_passes home.Template s b.line x.line)
    ((x.template == b.templates && nat_lt b.templates 32) && line_passes home.Template s root x.line)

abbrev pub lines_after : TemplateRow → LinesBefore
lines_after x = record { templates = x.template + 1; line = line_after x.line }

-- ---- commands: which of them were named as continuations before

abbrev pub none_named : Named
none_named = record { flags = replicate 256 false }

abbrev pub operand_stands : ℕ → Operand → Bool
operand_stands rows (operand.Row row) = nat_lt row rows
operand_stands rows (operand.Slot slot) = nat_lt slot 6

abbrev pub verb_stands : Sizes → Verb → Bool
verb_stands s (verb.Fork other) = true
verb_stands s (verb.Go location roles) = operand_stands s.locations location && in_use_of s.roles roles
verb_stands s (verb.Run path) = operand_stands s.paths path
verb_stands s (verb.Read path pattern) = operand_stands s.paths path && nat_lt pattern s.patterns
verb_stands s (verb.Change path pattern content) = operand_stands s.paths path && (nat_lt pattern s.patterns && content_stands s content)
verb_stands s (verb.Enable path role) = operand_stands s.paths path && nat_lt role s.roles
verb_stands s (verb.Disable path role) = operand_stands s.paths path && nat_lt role s.roles

-- a fork's other continuation, 0 for the other verbs
abbrev pub other_of : Option Verb → ℕ
other_of None = 0
other_of (Some (verb.Fork other)) = other
other_of (Some (verb.Go location roles)) = 0
other_of (Some (verb.Run path)) = 0
other_of (Some (verb.Read path pattern)) = 0
other_of (Some (verb.Change path pattern content)) = 0
other_of (Some (verb.Enable path role)) = 0
other_of (Some (verb.Disable path role)) = 0

abbrev pub other_way : CommandRow → ℕ
other_way q = other_of (verb_of q)

-- a continuation of the command in this row: none, or a later command that no row before has named. Commands are numbered
-- from 1, rows from 0, so command `to` stands in row `to - 1`.
abbrev pub onward : Sizes → Named → ℕ → ℕ → Bool
onward s b row to = cond (to == 0) true ((nat_lt row (to - 1) && (nat_le to s.commands && nat_lt to 256)) && not (slice_index_or b.flags to false))

abbrev pub continues : Sizes → Named → ℕ → CommandRow → Bool
continues s b row q = onward s b row q.next && (onward s b row (other_way q) && (other_way q == 0 || not (other_way q == q.next)))

abbrev pub command_passes : Sizes → Named → ℕ → CommandRow → Bool
command_passes s b row q = given (verb_of q) (verb_stands s) && continues s b row q

abbrev pub named_after : Named → CommandRow → Named
named_after b q = record { flags = slice_set (slice_set b.flags q.next true) (other_way q) true }

-- ---- running jobs and their slots

-- the part of the pattern that lies in this slot, and that what it names exists
abbrev pub part_stands : Sizes → Pattern → ℕ → ℕ → Bool
part_stands s (pattern.Number own) slot value = slot == own
part_stands s (pattern.Script own policy) slot value = slot == own && nat_lt value s.jobs
part_stands s (pattern.Pointer own policy last) slot value = (slot == own && nat_lt value s.locations) || (slot == own + 1 && nat_lt value s.paths)
part_stands s (pattern.Tree own policy top all) slot value = slot == own && nat_lt value s.shelf

abbrev pub slot_passes : Sizes → List PatternRow → ℕ → Slot → Bool
slot_passes s patterns slot x =
    cond (x.pattern == 0) (x.value == 0)
    ((nat_le x.pattern s.patterns && nat_le x.pattern 64) && given (pattern_of (slice_index_or patterns (x.pattern - 1) pattern0)) (λ p. part_stands s p slot x.value))

abbrev pub running_passes : Sizes → List PatternRow → RunningRow → Bool
running_passes s patterns x =
    ((nat_lt x.location s.locations && (nat_lt 0 x.command && nat_le x.command s.commands)) && in_use_of s.roles x.roles)
    && clear (first_bad (λ i y. slot_passes s patterns i y) 0 x.slots)

-- Whether rows stand, in words.
use Rattle.std.specs.Prelude.{◌≡◌, ℕ, ◌+◌, ◌-◌, ◌<◌, ◌≤◌, ◌⊎◌, List, length, get_or, Some, None, Option, ◌≢◌, slice_index_or}
use Rattle.order.specs.RoleSets.{In, InUse}
use Rattle.rows.specs.declared.row.GrantRow.{GrantRow}
use Rattle.rows.specs.declared.row.PathStepRow.{PathStepRow}
use Rattle.rows.specs.declared.row.TreeLine.{TreeLine}
use Rattle.rows.specs.declared.row.TemplateRow.{TemplateRow}
use Rattle.rows.specs.declared.row.PatternRow.{PatternRow}
use Rattle.rows.specs.declared.row.CommandRow.{CommandRow}
use Rattle.rows.specs.declared.row.JobRow.{JobRow}
use Rattle.layout.specs.declared.memory.Slot.{Slot}
use Rattle.layout.specs.declared.memory.RunningRow.{RunningRow}
use Rattle.layout.specs.Zeros.{step0, line0, template0, pattern0, command0, slot0}
use Rattle.meaning.specs.declared.contents.Content.{Content}
use Rattle.meaning.specs.declared.contents.Content.TheVariants as content
use Rattle.meaning.specs.declared.patterns.Pattern.{Pattern}
use Rattle.meaning.specs.declared.patterns.Pattern.TheVariants as pattern
use Rattle.meaning.specs.declared.verbs.Operand.{Operand}
use Rattle.meaning.specs.declared.verbs.Operand.TheVariants as operand
use Rattle.meaning.specs.declared.verbs.Verb.{Verb}
use Rattle.meaning.specs.declared.verbs.Verb.TheVariants as verb
use Rattle.meaning.specs.Decoding.{content_of, pattern_of, verb_of}
use Rattle.scan.specs.Scan.{Each}
use Rattle.standing.specs.declared.sizes.Sizes.{Sizes}
use Rattle.standing.specs.declared.lines.Home.{Home}
use Rattle.standing.specs.declared.lines.Home.TheVariants as home
use Rattle.standing.specs.Tests.{other_way}

-- the row means something (its kinds exist, and the fields that they do not use are 0), and P holds of that
abbrev pub Means : {X : Type 0} → Option X → (X → Type 0) → Type 0
Means None P = ⊥
Means (Some x) P = P x

pub record GrantStands (s : Sizes) (x : GrantRow) : Type 0 where
  pub policy : x.policy < s.policies
  -- 0 to enable, 1 to disable
  pub direction : (x.direction ≡ 0) ⊎ (x.direction ≡ 1)
  pub holder : InUse s.roles x.holder
  pub role : x.role < s.roles

-- slots are 0 to 5, and a pointer's 0 to 4, since it fills the next one too
abbrev pub PatternStands : Sizes → Pattern → Type 0
PatternStands s (pattern.Number slot) = slot < 6
PatternStands s (pattern.Script slot policy) = (slot < 6) × (policy < s.policies)
PatternStands s (pattern.Pointer slot policy last) = ((slot < 5) × (policy < s.policies)) × InUse s.roles last
PatternStands s (pattern.Tree slot policy top all) = ((slot < 6) × (policy < s.policies)) × (InUse s.roles top × InUse s.roles all)

pub record JobStands (s : Sizes) (x : JobRow) : Type 0 where
  pub policy : x.policy < s.policies
  pub roles : InUse s.roles x.roles
  -- not 0, and one of the commands
  pub command : (0 < x.command) × (x.command ≤ s.commands)

-- path steps: numbers run on from 0, and a path has 1 to 8 steps
pub record StepsStand (s : Sizes) (xs : List PathStepRow) : Type 0 where
  pub sets : Each (λ x. InUse s.roles x.set) step0 xs
  pub few : Each (λ x. x.path < 64) step0 xs
  pub first : 0 < length xs → (get_or xs 0 step0).path ≡ 0
  pub runs_on : (i : ℕ) → i + 1 < length xs → ((get_or xs (i + 1) step0).path ≡ (get_or xs i step0).path) ⊎ ((get_or xs (i + 1) step0).path ≡ (get_or xs i step0).path + 1)
  pub short : (i : ℕ) → i + 8 < length xs → (get_or xs (i + 8) step0).path ≢ (get_or xs i step0).path

-- ---- lines

-- what the content names exists
abbrev pub ContentStands : Sizes → Content → Type 0
ContentStands s content.Tree = Unit {0}
ContentStands s (content.Number n) = Unit {0}
ContentStands s (content.Script job) = job < s.jobs
ContentStands s (content.Pointer path location) = (path < s.paths) × (location < s.locations)
ContentStands s (content.Held slot) = slot < 6
ContentStands s (content.Template template) = template < s.templates

-- what a slot holds stands only in templates and changes, and a template only in changes
abbrev pub Belongs : Home → Content → Type 0
Belongs h content.Tree = Unit {0}
Belongs h (content.Number n) = Unit {0}
Belongs h (content.Script job) = Unit {0}
Belongs h (content.Pointer path location) = Unit {0}
Belongs home.Tree (content.Held slot) = ⊥
Belongs home.Template (content.Held slot) = Unit {0}
Belongs h (content.Template template) = ⊥

pub record LineStands (h : Home) (s : Sizes) (x : TreeLine) : Type 0 where
  pub low : 1 ≤ x.depth
  pub high : x.depth ≤ 12
  pub set : InUse s.roles x.set
  pub top : In s.top x.set
  pub content : Means (content_of x.content x.first x.second) (λ c. Belongs h c × ContentStands s c)

-- a tree as lines: from depth 1, down one level at a time, and never below content other than 0
pub record TreeStands (s : Sizes) (xs : List TreeLine) : Type 0 where
  pub each : Each (LineStands home.Tree s) line0 xs
  pub first : 0 < length xs → (get_or xs 0 line0).depth ≡ 1
  pub down : (i : ℕ) → i + 1 < length xs → (get_or xs (i + 1) line0).depth ≤ (get_or xs i line0).depth + 1
  pub under : (i : ℕ) → i + 1 < length xs → (get_or xs (i + 1) line0).depth ≡ (get_or xs i line0).depth + 1 → (get_or xs i line0).content ≡ 0

-- template lines: numbers run on from 0, and each template is a tree
pub record TemplatesStand (s : Sizes) (xs : List TemplateRow) : Type 0 where
  pub each : Each (λ x. LineStands home.Template s x.line) template0 xs
  pub few : Each (λ x. x.template < 32) template0 xs
  pub first : 0 < length xs → ((get_or xs 0 template0).template ≡ 0) × ((get_or xs 0 template0).line.depth ≡ 1)
  pub runs_on : (i : ℕ) → i + 1 < length xs → ((get_or xs (i + 1) template0).template ≡ (get_or xs i template0).template) ⊎ ((get_or xs (i + 1) template0).template ≡ (get_or xs i template0).template + 1)
  pub begins : (i : ℕ) → i + 1 < length xs → (get_or xs (i + 1) template0).template ≡ (get_or xs i template0).template + 1 → (get_or xs (i + 1) template0).line.depth ≡ 1
  pub down : (i : ℕ) → i + 1 < length xs → (get_or xs (i + 1) template0).template ≡ (get_or xs i template0).template
      → (get_or xs (i + 1) template0).line.depth ≤ (get_or xs i template0).line.depth + 1
  pub under : (i : ℕ) → i + 1 < length xs → (get_or xs (i + 1) template0).template ≡ (get_or xs i template0).template
      → (get_or xs (i + 1) template0).line.depth ≡ (get_or xs i template0).line.depth + 1 → (get_or xs i template0).line.content ≡ 0

-- ---- commands

-- one of so many rows, or a slot
abbrev pub OperandStands : ℕ → Operand → Type 0
OperandStands rows (operand.Row row) = row < rows
OperandStands rows (operand.Slot slot) = slot < 6

abbrev pub VerbStands : Sizes → Verb → Type 0
VerbStands s (verb.Fork other) = Unit {0}
VerbStands s (verb.Go location roles) = OperandStands s.locations location × InUse s.roles roles
VerbStands s (verb.Run path) = OperandStands s.paths path
VerbStands s (verb.Read path pattern) = OperandStands s.paths path × (pattern < s.patterns)
VerbStands s (verb.Change path pattern content) = OperandStands s.paths path × ((pattern < s.patterns) × ContentStands s content)
VerbStands s (verb.Enable path role) = OperandStands s.paths path × (role < s.roles)
VerbStands s (verb.Disable path role) = OperandStands s.paths path × (role < s.roles)

-- a continuation of the command in this row, whose number is one more: 0, or a later command
abbrev pub Later : Sizes → ℕ → ℕ → Type 0
Later s row to = (to ≡ 0) ⊎ ((row + 1 < to) × (to ≤ s.commands))

-- the command names the command n as a continuation
abbrev pub Names : CommandRow → ℕ → Type 0
Names q n = (q.next ≡ n) ⊎ (other_way q ≡ n)

pub record CommandsStand (s : Sizes) (xs : List CommandRow) : Type 0 where
  pub each : Each (λ q. Means (verb_of q) (VerbStands s)) command0 xs
  pub next_later : (i : ℕ) → i < length xs → Later s i (get_or xs i command0).next
  pub other_later : (i : ℕ) → i < length xs → Later s i (other_way (slice_index_or xs i command0))
  -- no command is named as a continuation twice: by two ways of one fork, or by two commands
  pub apart : (i : ℕ) → i < length xs → 0 < other_way (slice_index_or xs i command0) → other_way (slice_index_or xs i command0) ≢ (get_or xs i command0).next
  pub once : (i j n : ℕ) → i < length xs → j < length xs → 0 < n → Names (slice_index_or xs i command0) n → Names (slice_index_or xs j command0) n → i ≡ j

-- ---- running jobs

-- some part of the pattern lies in this slot, and what the value names exists
abbrev pub PartStands : Sizes → Pattern → ℕ → ℕ → Type 0
PartStands s (pattern.Number own) slot value = slot ≡ own
PartStands s (pattern.Script own policy) slot value = (slot ≡ own) × (value < s.jobs)
PartStands s (pattern.Pointer own policy last) slot value = ((slot ≡ own) × (value < s.locations)) ⊎ ((slot ≡ own + 1) × (value < s.paths))
PartStands s (pattern.Tree own policy top all) slot value = (slot ≡ own) × (value < s.shelf)

-- an empty slot, or one that a pattern of the table filled
pub data SlotStands (s : Sizes) (patterns : List PatternRow) (slot : ℕ) (x : Slot) : Type 0 where
  none : x.pattern ≡ 0 → x.value ≡ 0 → SlotStands s patterns slot x
  filled : 0 < x.pattern → x.pattern ≤ s.patterns
      → Means (pattern_of (slice_index_or patterns (x.pattern - 1) pattern0)) (λ p. PartStands s p slot x.value) → SlotStands s patterns slot x

pub record RunningStands (s : Sizes) (patterns : List PatternRow) (x : RunningRow) : Type 0 where
  pub location : x.location < s.locations
  pub roles : InUse s.roles x.roles
  pub command : (0 < x.command) × (x.command ≤ s.commands)
  pub slots : (k : ℕ) → k < length x.slots → SlotStands s patterns k (slice_index_or x.slots k slot0)

-- a row of the running list that is all zero
pub record RunningClear (x : RunningRow) : Type 0 where
  pub location : x.location ≡ 0
  pub roles : x.roles ≡ 0
  pub command : x.command ≡ 0
  pub slots : Each (λ y. y ≡ slot0) slot0 x.slots

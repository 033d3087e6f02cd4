-- What each rule asks of one command, in words: a verb at a policy, with roles and slots.
use Rattle.std.specs.Prelude.{ℕ, ◌<◌, Bool, List, Some, None, Option, Contains, IfSome, IsSome}
use Rattle.order.specs.RoleSets.{SomeBelow, SetBelow}
use Rattle.rows.specs.declared.row.GrantRow.{GrantRow}
use Rattle.layout.specs.Network.{Plan}
use Rattle.meaning.specs.declared.directions.Direction.{Direction}
use Rattle.meaning.specs.declared.directions.Direction.TheVariants as direction
use Rattle.meaning.specs.declared.patterns.Pattern.{Pattern}
use Rattle.meaning.specs.declared.patterns.Pattern.TheVariants as pattern
use Rattle.meaning.specs.declared.verbs.Operand.{Operand}
use Rattle.meaning.specs.declared.verbs.Verb.{Verb}
use Rattle.meaning.specs.declared.verbs.Verb.TheVariants as verb
use Rattle.slots.specs.Slots.{pattern_at, filled}
use Rattle.slots.specs.Operands.{destination, path_set}
use Rattle.pasting.specs.Words.{least_of, ContentFits, ContentObeys}
use Rattle.commands.specs.declared.standing.Standing.{Standing}
use Rattle.commands.specs.declared.rule.CommandRule.{CommandRule}
use Rattle.commands.specs.declared.rule.CommandRule.TheVariants as rule

-- ---- what a command works on

-- the policy of the location that an operand names
abbrev pub goal_of : Plan → Standing → Operand → Option ℕ
goal_of p s location = destination p.locations p.patterns s.slots location

-- the last set of the path that an operand names
abbrev pub last_of : Plan → Standing → Operand → Option ℕ
last_of p s path = path_set p.steps p.patterns s.slots path

-- the slots after the pattern of this row has filled its own
abbrev pub slots_after : Plan → Standing → ℕ → List ℕ
slots_after p s row = filled p.patterns s.slots row

-- the last set of the path that the verb works by, if it works by one
abbrev pub used_set : Plan → Standing → Verb → Option ℕ
used_set p s (verb.Fork other) = None
used_set p s (verb.Go location roles) = None
used_set p s (verb.Run path) = last_of p s path
used_set p s (verb.Read path row) = last_of p s path
used_set p s (verb.Change path row content) = last_of p s path
used_set p s (verb.Enable path role) = last_of p s path
used_set p s (verb.Disable path role) = last_of p s path

-- ---- the rules, from the lowest to the highest

-- a go is told the policy that it enters: that policy's least set is ≤ the new roles
abbrev pub EntryAsks : (ℕ → ℕ → Bool) → Plan → Standing → Verb → Type 0
EntryAsks below p s (verb.Fork other) = Unit {0}
EntryAsks below p s (verb.Go location roles) = IfSome (goal_of p s location) (λ policy. SetBelow below (least_of p policy) roles)
EntryAsks below p s (verb.Run path) = Unit {0}
EntryAsks below p s (verb.Read path row) = Unit {0}
EntryAsks below p s (verb.Change path row content) = Unit {0}
EntryAsks below p s (verb.Enable path role) = Unit {0}
EntryAsks below p s (verb.Disable path role) = Unit {0}

-- a slot in use was filled with what the use needs: a go's with a location, the others' with a path, and those of a change's
-- content with what can lie there once the change's own pattern has filled its slots
abbrev pub SlotsAsk : Plan → Standing → Verb → Type 0
SlotsAsk p s (verb.Fork other) = Unit {0}
SlotsAsk p s (verb.Go location roles) = IsSome (goal_of p s location)
SlotsAsk p s (verb.Run path) = IsSome (last_of p s path)
SlotsAsk p s (verb.Read path row) = IsSome (last_of p s path)
SlotsAsk p s (verb.Change path row content) = IsSome (last_of p s path) × ContentFits p (slots_after p s row) content
SlotsAsk p s (verb.Enable path role) = IsSome (last_of p s path)
SlotsAsk p s (verb.Disable path role) = IsSome (last_of p s path)

-- the last set of the path is ≤ the job's roles
abbrev pub PathAsks : (ℕ → ℕ → Bool) → Plan → Standing → Verb → Type 0
PathAsks below p s v = IfSome (used_set p s v) (λ last. SetBelow below last s.roles)

-- the sets in a tree that the pattern matches are ≤ the job's roles
abbrev pub Open : (ℕ → ℕ → Bool) → ℕ → Option Pattern → Type 0
Open below roles None = Unit {0}
Open below roles (Some (pattern.Number slot)) = Unit {0}
Open below roles (Some (pattern.Script slot policy)) = Unit {0}
Open below roles (Some (pattern.Pointer slot policy last)) = Unit {0}
Open below roles (Some (pattern.Tree slot policy top all)) = SetBelow below all roles

abbrev pub PatternAsks : (ℕ → ℕ → Bool) → Plan → Standing → Verb → Type 0
PatternAsks below p s (verb.Fork other) = Unit {0}
PatternAsks below p s (verb.Go location roles) = Unit {0}
PatternAsks below p s (verb.Run path) = Unit {0}
PatternAsks below p s (verb.Read path row) = Open below s.roles (pattern_at p.patterns row)
PatternAsks below p s (verb.Change path row content) = Open below s.roles (pattern_at p.patterns row)
PatternAsks below p s (verb.Enable path role) = Unit {0}
PatternAsks below p s (verb.Disable path role) = Unit {0}

-- a change's content obeys the policy under edges of the path's last set
abbrev pub ContentAsks : (ℕ → ℕ → Bool) → Plan → Standing → Verb → Type 0
ContentAsks below p s (verb.Fork other) = Unit {0}
ContentAsks below p s (verb.Go location roles) = Unit {0}
ContentAsks below p s (verb.Run path) = Unit {0}
ContentAsks below p s (verb.Read path row) = Unit {0}
ContentAsks below p s (verb.Change path row content) = IfSome (last_of p s path) (λ last. ContentObeys below p s.policy last (slots_after p s row) content)
ContentAsks below p s (verb.Enable path role) = Unit {0}
ContentAsks below p s (verb.Disable path role) = Unit {0}

-- the policy grants it to those who hold just these roles
abbrev pub direction_number : Direction → ℕ
direction_number direction.Enable = 0
direction_number direction.Disable = 1

abbrev pub wanted : Standing → Direction → ℕ → GrantRow
wanted s way role = record { policy = s.policy; direction = direction_number way; holder = s.roles; role = role }

abbrev pub GrantAsks : Plan → Standing → Verb → Type 0
GrantAsks p s (verb.Fork other) = Unit {0}
GrantAsks p s (verb.Go location roles) = Unit {0}
GrantAsks p s (verb.Run path) = Unit {0}
GrantAsks p s (verb.Read path row) = Unit {0}
GrantAsks p s (verb.Change path row content) = Unit {0}
GrantAsks p s (verb.Enable path role) = Contains p.grants (wanted s direction.Enable role)
GrantAsks p s (verb.Disable path role) = Contains p.grants (wanted s direction.Disable role)

-- the path's last set is ≤ the set of the role that is enabled: some role of it is at or below that role
abbrev pub EnablingAsks : (ℕ → ℕ → Bool) → Plan → Standing → Verb → Type 0
EnablingAsks below p s (verb.Fork other) = Unit {0}
EnablingAsks below p s (verb.Go location roles) = Unit {0}
EnablingAsks below p s (verb.Run path) = Unit {0}
EnablingAsks below p s (verb.Read path row) = Unit {0}
EnablingAsks below p s (verb.Change path row content) = Unit {0}
EnablingAsks below p s (verb.Enable path role) = IfSome (last_of p s path) (λ last. SomeBelow below last role)
EnablingAsks below p s (verb.Disable path role) = Unit {0}

abbrev pub Asks : (ℕ → ℕ → Bool) → Plan → Standing → Verb → CommandRule → Type 0
Asks below p s v rule.Entry = EntryAsks below p s v
Asks below p s v rule.Slots = SlotsAsk p s v
Asks below p s v rule.Path = PathAsks below p s v
Asks below p s v rule.Pattern = PatternAsks below p s v
Asks below p s v rule.Content = ContentAsks below p s v
Asks below p s v rule.Grant = GrantAsks p s v
Asks below p s v rule.Enabling = EnablingAsks below p s v

-- ---- telling

-- the rules have numbers; those of grants and trees are 1 to 4
abbrev pub number_of : CommandRule → ℕ
number_of rule.Entry = 5
number_of rule.Slots = 6
number_of rule.Path = 7
number_of rule.Pattern = 8
number_of rule.Content = 9
number_of rule.Grant = 10
number_of rule.Enabling = 11

-- the lowest rule that is broken, if one is
abbrev pub LowestBroken : (CommandRule → Type 0) → Option CommandRule → Type 0
LowestBroken Holds None = (r : CommandRule) → Holds r
LowestBroken Holds (Some broken) = (Holds broken → ⊥) × ((r : CommandRule) → number_of r < number_of broken → Holds r)

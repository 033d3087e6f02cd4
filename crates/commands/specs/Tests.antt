-- The rules of one command, as tests that compute, and the lowest rule that is broken. What each test says is in Rules.
use Rattle.std.specs.Prelude.{ℕ, Bool, true, cond, ◌&&◌, List, Some, None, Option, ◌==◌, is_some}
use Rattle.std.specs.List.{list_any}
use Rattle.order.specs.RoleSets.{some_below, set_below}
use Rattle.rows.specs.declared.row.GrantRow.{GrantRow}
use Rattle.layout.specs.Network.{Plan}
use Rattle.meaning.specs.declared.directions.Direction.TheVariants as direction
use Rattle.meaning.specs.declared.patterns.Pattern.{Pattern}
use Rattle.meaning.specs.declared.patterns.Pattern.TheVariants as pattern
use Rattle.meaning.specs.declared.verbs.Verb.{Verb}
use Rattle.meaning.specs.declared.verbs.Verb.TheVariants as verb
use Rattle.slots.specs.Slots.{pattern_at}
use Rattle.pasting.specs.Words.{least_of}
use Rattle.pasting.specs.Tests.{content_fits, content_obeys}
use Rattle.commands.specs.declared.standing.Standing.{Standing}
use Rattle.commands.specs.declared.rule.CommandRule.{CommandRule}
use Rattle.commands.specs.declared.rule.CommandRule.TheVariants as rule
use Rattle.commands.specs.Rules.{goal_of, last_of, slots_after, used_set, wanted}

-- the test passes of what there is
abbrev pub if_some : {X : Type 0} → Option X → (X → Bool) → Bool
if_some None test = true
if_some (Some x) test = test x

abbrev pub entry_passes : (ℕ → ℕ → Bool) → Plan → Standing → Verb → Bool
entry_passes below p s (verb.Fork other) = true
entry_passes below p s (verb.Go location roles) = if_some (goal_of p s location) (λ policy. set_below below (least_of p policy) roles)
entry_passes below p s (verb.Run path) = true
entry_passes below p s (verb.Read path row) = true
entry_passes below p s (verb.Change path row content) = true
entry_passes below p s (verb.Enable path role) = true
entry_passes below p s (verb.Disable path role) = true

abbrev pub slots_pass : Plan → Standing → Verb → Bool
slots_pass p s (verb.Fork other) = true
slots_pass p s (verb.Go location roles) = is_some (goal_of p s location)
slots_pass p s (verb.Run path) = is_some (last_of p s path)
slots_pass p s (verb.Read path row) = is_some (last_of p s path)
slots_pass p s (verb.Change path row content) = is_some (last_of p s path) && content_fits p (slots_after p s row) content
slots_pass p s (verb.Enable path role) = is_some (last_of p s path)
slots_pass p s (verb.Disable path role) = is_some (last_of p s path)

abbrev pub path_passes : (ℕ → ℕ → Bool) → Plan → Standing → Verb → Bool
path_passes below p s v = if_some (used_set p s v) (λ last. set_below below last s.roles)

abbrev pub opens_pattern : (ℕ → ℕ → Bool) → ℕ → Option Pattern → Bool
opens_pattern below roles None = true
opens_pattern below roles (Some (pattern.Number slot)) = true
opens_pattern below roles (Some (pattern.Script slot policy)) = true
opens_pattern below roles (Some (pattern.Pointer slot policy last)) = true
opens_pattern below roles (Some (pattern.Tree slot policy top all)) = set_below below all roles

abbrev pub pattern_passes : (ℕ → ℕ → Bool) → Plan → Standing → Verb → Bool
pattern_passes below p s (verb.Fork other) = true
pattern_passes below p s (verb.Go location roles) = true
pattern_passes below p s (verb.Run path) = true
pattern_passes below p s (verb.Read path row) = opens_pattern below s.roles (pattern_at p.patterns row)
pattern_passes below p s (verb.Change path row content) = opens_pattern below s.roles (pattern_at p.patterns row)
pattern_passes below p s (verb.Enable path role) = true
pattern_passes below p s (verb.Disable path role) = true

abbrev pub content_passes : (ℕ → ℕ → Bool) → Plan → Standing → Verb → Bool
content_passes below p s (verb.Fork other) = true
content_passes below p s (verb.Go location roles) = true
content_passes below p s (verb.Run path) = true
content_passes below p s (verb.Read path row) = true
content_passes below p s (verb.Change path row content) = if_some (last_of p s path) (λ last. content_obeys below p s.policy last (slots_after p s row) content)
content_passes below p s (verb.Enable path role) = true
content_passes below p s (verb.Disable path role) = true

abbrev pub is_grant : GrantRow → GrantRow → Bool
is_grant x y = y.policy == x.policy && (y.direction == x.direction && (y.holder == x.holder && y.role == x.role))

abbrev pub granted : List GrantRow → GrantRow → Bool
granted grants x = list_any (is_grant x) grants

abbrev pub grant_passes : Plan → Standing → Verb → Bool
grant_passes p s (verb.Fork other) = true
grant_passes p s (verb.Go location roles) = true
grant_passes p s (verb.Run path) = true
grant_passes p s (verb.Read path row) = true
grant_passes p s (verb.Change path row content) = true
grant_passes p s (verb.Enable path role) = granted p.grants (wanted s direction.Enable role)
grant_passes p s (verb.Disable path role) = granted p.grants (wanted s direction.Disable role)

abbrev pub enabling_passes : (ℕ → ℕ → Bool) → Plan → Standing → Verb → Bool
enabling_passes below p s (verb.Fork other) = true
enabling_passes below p s (verb.Go location roles) = true
enabling_passes below p s (verb.Run path) = true
enabling_passes below p s (verb.Read path row) = true
enabling_passes below p s (verb.Change path row content) = true
enabling_passes below p s (verb.Enable path role) = if_some (last_of p s path) (λ last. some_below below last role)
enabling_passes below p s (verb.Disable path role) = true

-- the lowest rule that the command breaks
unfoldable pub broken : (ℕ → ℕ → Bool) → Plan → Standing → Verb → Option CommandRule
broken below p s v =
    cond (entry_passes below p s v)
    (cond (slots_pass p s v)
    (cond (path_passes below p s v)
    (cond (pattern_passes below p s v)
    (cond (content_passes below p s v)
    (cond (grant_passes p s v)
    (cond (enabling_passes below p s v) None
    (Some rule.Enabling)) (Some rule.Grant)) (Some rule.Content)) (Some rule.Pattern)) (Some rule.Path)) (Some rule.Slots)) (Some rule.Entry)

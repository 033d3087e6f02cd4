-- How a job's commands follow one another, and what the next is held to.
use Rattle.std.specs.Prelude.{◌≡◌, ℕ, ◌+◌, ◌-◌, ◌<◌, ◌≤◌, ◌⊎◌, cond, List, length, Some, None, Option, ◌==◌, slice_index_or, IsSome}
use Rattle.rows.specs.declared.row.CommandRow.{CommandRow}
use Rattle.layout.specs.Network.{Plan}
use Rattle.layout.specs.Zeros.{command0}
use Rattle.meaning.specs.declared.verbs.Verb.{Verb}
use Rattle.meaning.specs.declared.verbs.Verb.TheVariants as verb
use Rattle.meaning.specs.Decoding.{verb_of}
use Rattle.commands.specs.declared.standing.Standing.{Standing}
use Rattle.commands.specs.Rules.{goal_of, slots_after}

-- command number c, from 1; 0 and a number that is not there give the row of zeros, which means no verb
abbrev pub command_at : Plan → ℕ → CommandRow
command_at p c = cond (c == 0) command0 (slice_index_or p.commands (c - 1) command0)

abbrev pub verb_at : Plan → ℕ → Option Verb
verb_at p c = verb_of (command_at p c)

-- a fork's other continuation, 0 for the other verbs
abbrev pub other_of : Verb → ℕ
other_of (verb.Fork other) = other
other_of (verb.Go location roles) = 0
other_of (verb.Run path) = 0
other_of (verb.Read path row) = 0
other_of (verb.Change path row content) = 0
other_of (verb.Enable path role) = 0
other_of (verb.Disable path role) = 0

-- the policy, or this one where there is none
abbrev pub policy_or : ℕ → Option ℕ → ℕ
policy_or policy None = policy
policy_or policy (Some entered) = entered

-- what the next command is held to: a go enters a policy with new roles, a read fills slots. A change fills slots for its own
-- content only
abbrev pub standing_after : Plan → Standing → Verb → Standing
standing_after p s (verb.Fork other) = s
standing_after p s (verb.Go location roles) = record { policy = policy_or s.policy (goal_of p s location); roles = roles; slots = s.slots }
standing_after p s (verb.Run path) = s
standing_after p s (verb.Read path row) = record { policy = s.policy; roles = s.roles; slots = slots_after p s row }
standing_after p s (verb.Change path row content) = s
standing_after p s (verb.Enable path role) = s
standing_after p s (verb.Disable path role) = s

-- ---- what shape gives of the commands

-- a continuation of the command in this row: none, or a later command
abbrev pub Onward : List CommandRow → ℕ → ℕ → Type 0
Onward commands row to = (to ≡ 0) ⊎ ((row + 1 < to) × (to ≤ length commands))

-- each command means a verb, and goes on to later ones
pub record Flows (commands : List CommandRow) : Type 0 where
  pub means : (row : ℕ) → row < length commands → IsSome (verb_of (slice_index_or commands row command0))
  pub next : (row : ℕ) → row < length commands → Onward commands row (slice_index_or commands row command0).next
  pub other : (row other : ℕ) → row < length commands → verb_of (slice_index_or commands row command0) ≡ Some (verb.Fork other) → Onward commands row other

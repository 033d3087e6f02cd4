-- The first breach of a job's commands, as it is told: a command, then all that follows it, then all that follows a fork's other.
use Rattle.std.specs.Prelude.{◌≡◌, ℕ, ◌+◌, ◌-◌, ◌<◌, ◌≤◌, Bool, cond, List, [], ◌∷◌, length, Some, None, Option, ◌==◌, nat_lt, slice_index_or, IfSome}
use Rattle.rows.specs.declared.row.CommandRow.{CommandRow}
use Rattle.layout.specs.Network.{Plan}
use Rattle.meaning.specs.declared.verbs.Verb.{Verb}
use Rattle.meaning.specs.Decoding.{verb_of}
use Rattle.scan.specs.Scan.{or_else}
use Rattle.commands.specs.declared.standing.Standing.{Standing}
use Rattle.commands.specs.declared.rule.CommandRule.{CommandRule}
use Rattle.commands.specs.Rules.{Asks, number_of}
use Rattle.commands.specs.Tests.{broken}
use Rattle.typing.specs.declared.breach.CommandBreach.{CommandBreach}
use Rattle.typing.specs.Flow.{command_at, verb_at, other_of, standing_after, Flows}
use Rattle.typing.specs.Typing.{Typed}

-- ---- as a function

-- what is told of a command and of all that follows it, by what it is held to
abbrev pub Telling : Type 0
Telling = Standing → Option CommandBreach

abbrev pub nothing : Telling
nothing s = None

-- what is told from a continuation on, where the tellings of the commands behind this row are these; only a later command is
-- followed, so where one is not later nothing is told
abbrev pub followed : List Telling → ℕ → ℕ → Telling
followed later row to = cond (nat_lt (row + 1) to) (slice_index_or later (to - (row + 2)) nothing) nothing

abbrev pub breach_at : ℕ → Option CommandRule → Option CommandBreach
breach_at row None = None
breach_at row (Some rule) = Some (record { row = row; rule = rule })

-- the command's own breach, then next, then a fork's other; of a row that means no verb nothing is told
abbrev pub verb_told : (ℕ → ℕ → Bool) → Plan → List Telling → ℕ → ℕ → Option Verb → Telling
verb_told below p later row next None s = None
verb_told below p later row next (Some v) s =
    or_else (breach_at row (broken below p s v)) (or_else (followed later row next (standing_after p s v)) (followed later row (other_of v) s))

abbrev pub command_told : (ℕ → ℕ → Bool) → Plan → List Telling → ℕ → CommandRow → Telling
command_told below p later row q = verb_told below p later row q.next (verb_of q)

-- for each of the commands from this row on, what is told of it
unfoldable pub tellings : (ℕ → ℕ → Bool) → Plan → ℕ → List CommandRow → List Telling
tellings below p row [] = []
tellings below p row (q ∷ qs) = command_told below p (tellings below p (row + 1) qs) row q ∷ tellings below p (row + 1) qs

-- what is told from command c on
unfoldable pub told : (ℕ → ℕ → Bool) → Plan → Standing → ℕ → Option CommandBreach
told below p s c = cond (c == 0) None (slice_index_or (tellings below p 0 p.commands) (c - 1) nothing s)

-- ---- what is told is broken

-- the commands that one leads to, each with what it is held to
pub data Leads (p : Plan) (s' : Standing) (c' : ℕ) : Standing → ℕ → Type 0 where
  here : {s : Standing} {c : ℕ} → s ≡ s' → c ≡ c' → Leads p s' c' s c
  next : {s : Standing} {c : ℕ} (v : Verb) → verb_at p c ≡ Some v → Leads p s' c' (standing_after p s v) (command_at p c).next → Leads p s' c' s c
  other : {s : Standing} {c : ℕ} (v : Verb) → verb_at p c ≡ Some v → Leads p s' c' s (other_of v) → Leads p s' c' s c

-- the breach is that of a command which this one leads to, and its rule is the lowest that the command breaks
pub record Broken (below : ℕ → ℕ → Bool) (p : Plan) (s : Standing) (c : ℕ) (b : CommandBreach) : Type 0 where
  pub standing : Standing
  pub verb : Verb
  pub leads : Leads p standing (b.row + 1) s c
  pub means : verb_at p (b.row + 1) ≡ Some verb
  pub broken : Asks below p standing verb b.rule → ⊥
  pub lowest : (r : CommandRule) → number_of r < number_of b.rule → Asks below p standing verb r

-- ---- the promise of the first breach

-- the continuation, if it is a later command
abbrev pub later : ℕ → ℕ → ℕ
later c to = cond (nat_lt c to) to 0

pub record Judged (below : ℕ → ℕ → Bool) (p : Plan) (s : Standing) (c : ℕ) (r : Option CommandBreach) : Type 0 where
  pub answer : r ≡ told below p s c
  -- none exactly when the command is typed; that nothing told means typed rests on what shape gives of the commands
  pub stands : Flows p.commands → c ≤ length p.commands → r ≡ None → Typed below p s c
  pub untold : Typed below p s c → r ≡ None
  pub broken : IfSome r (Broken below p s c)

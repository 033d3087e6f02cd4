-- What is told is broken.
use Rattle.std.specs.Prelude.{◌≡◌, ℕ, ◌+◌, ◌<◌, Bool, List, [], length, slice_index_or}
use Rattle.order.specs.RoleSets.{SetBelow}
use Rattle.sheet.specs.declared.kinds.LineKind.TheVariants as kind
use Rattle.layout.specs.declared.kind.TableKind.TheVariants.{Lines, Running}
use Rattle.layout.specs.declared.memory.RunningRow.{RunningRow}
use Rattle.rows.specs.declared.row.JobRow.{JobRow}
use Rattle.layout.specs.Network.{TreeLines, Plan, Network}
use Rattle.layout.specs.Zeros.{grant0, job0, no_running}
use Rattle.obeying.specs.declared.trees.Breach.{Breach}
use Rattle.obeying.specs.Rules.{GrantObeys, FirstRow, Asks, FirstBroken}
use Rattle.pasting.specs.Words.{least_of}
use Rattle.commands.specs.declared.rule.CommandRule.{CommandRule}
use Rattle.commands.specs.declared.rule.CommandRule.TheVariants.{Entry}
use Rattle.typing.specs.declared.breach.CommandBreach.{CommandBreach}
use Rattle.typing.specs.Telling.{Broken}
use Rattle.matching.specs.Matching.{policy_at, SlotsMatch}
use Rattle.breaches.specs.declared.breach.Rule.TheVariants as rule
use Rattle.breaches.specs.declared.breach.RuleBreach.{RuleBreach}
use Rattle.breaches.specs.Words.{job_standing, running_standing}
use Rattle.breaches.specs.Told.{edges_before}

-- an edge of the location's tree is the first that breaks a rule, and this is the lowest that it breaks
pub record TreeBroken (below : ℕ → ℕ → Bool) (p : Plan) (before location : ℕ) (tree : TreeLines) (b : RuleBreach) : Type 0 where
  pub at : Breach
  pub first : FirstBroken (Asks below (least_of p (policy_at p location)) p.jobs (policy_at p location) tree) (length tree) at
  pub tells : b ≡ record { table = Lines kind.Edge; row = before + at.row; rule = rule.Tree at.rule }

-- a job breaks a rule: by its own roles, or by a command that it leads to
pub data JobBroken (below : ℕ → ℕ → Bool) (p : Plan) (row : ℕ) (j : JobRow) (b : RuleBreach) : Type 0 where
  by_roles : (SetBelow below (least_of p j.policy) j.roles → ⊥) → b ≡ record { table = Lines kind.Job; row = row; rule = rule.Command Entry }
      → JobBroken below p row j b
  by_command : (at : CommandBreach) → Broken below p (job_standing j) j.command at
      → b ≡ record { table = Lines kind.Command; row = at.row; rule = rule.Command at.rule } → JobBroken below p row j b

-- a running job breaks a rule by its own roles, or by a command that it leads to
pub data RunsBroken (below : ℕ → ℕ → Bool) (p : Plan) (r : RunningRow) (broken : CommandRule) : Type 0 where
  by_roles : (SetBelow below (least_of p (policy_at p r.location)) r.roles → ⊥) → broken ≡ Entry → RunsBroken below p r broken
  by_command : (at : CommandBreach) → Broken below p (running_standing p r) r.command at → broken ≡ at.rule → RunsBroken below p r broken

-- or by what its slots hold
pub data RunningBroken (below : ℕ → ℕ → Bool) (p : Plan) (shelf : List TreeLines) (place : ℕ) (r : RunningRow) (b : RuleBreach) : Type 0 where
  by_running : (broken : CommandRule) → RunsBroken below p r broken → b ≡ record { table = Running; row = place; rule = rule.Command broken }
      → RunningBroken below p shelf place r b
  by_slots : (SlotsMatch below p shelf r.slots → ⊥) → b ≡ record { table = Running; row = place; rule = rule.Filled } → RunningBroken below p shelf place r b

-- a network breaks a rule that admission asks for
pub data RuleBroken (below : ℕ → ℕ → Bool) (top : ℕ) (n : Network) (b : RuleBreach) : Type 0 where
  grant : (row : ℕ) → FirstRow (GrantObeys below top) grant0 n.plan.grants row → b ≡ record { table = Lines kind.Grant; row = row; rule = rule.Grant }
      → RuleBroken below top n b
  edge : (location : ℕ) → location < length n.trees
      → TreeBroken below n.plan (edges_before n.trees location) location (slice_index_or n.trees location []) b → RuleBroken below top n b
  job : (row : ℕ) → row < length n.plan.jobs → JobBroken below n.plan row (slice_index_or n.plan.jobs row job0) b → RuleBroken below top n b

-- a running job of the network breaks a rule
pub record SomeRunningBroken (below : ℕ → ℕ → Bool) (n : Network) (b : RuleBreach) : Type 0 where
  pub place : ℕ
  pub there : place < length n.running
  pub broken : RunningBroken below n.plan n.shelf place (slice_index_or n.running place no_running) b

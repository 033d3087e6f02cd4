-- What a network obeys beside shape, in words.
use Rattle.std.specs.Prelude.{ℕ, ◌<◌, ◌≤◌, Bool, List, [], map, length, replicate, slice_index_or}
use Rattle.order.specs.RoleSets.{SetBelow}
use Rattle.rows.specs.declared.row.JobRow.{JobRow}
use Rattle.layout.specs.declared.memory.RunningRow.{RunningRow}
use Rattle.layout.specs.Network.{TreeLines, Plan, Network}
use Rattle.layout.specs.Zeros.{grant0, job0, no_running}
use Rattle.scan.specs.Scan.{Each}
use Rattle.obeying.specs.Rules.{GrantObeys, TreeObeys}
use Rattle.pasting.specs.Words.{least_of}
use Rattle.commands.specs.declared.standing.Standing.{Standing}
use Rattle.typing.specs.Flow.{Flows}
use Rattle.typing.specs.Typing.{Typed}
use Rattle.matching.specs.Matching.{policy_at, SlotsMatch}

-- ---- jobs

-- a job starts at its policy, with its roles and empty slots
abbrev pub job_standing : JobRow → Standing
job_standing j = record { policy = j.policy; roles = j.roles; slots = replicate 6 0 }

pub record JobTyped (below : ℕ → ℕ → Bool) (p : Plan) (j : JobRow) : Type 0 where
  -- the policy's least set is ≤ the job's roles
  pub least : SetBelow below (least_of p j.policy) j.roles
  pub typed : Typed below p (job_standing j) j.command

-- a running job is held to the policy of its location, with its roles and the patterns that filled its slots
abbrev pub running_standing : Plan → RunningRow → Standing
running_standing p r = record { policy = policy_at p r.location; roles = r.roles; slots = map (λ x. x.pattern) r.slots }

-- its roles and commands
pub record RunsTyped (below : ℕ → ℕ → Bool) (p : Plan) (r : RunningRow) : Type 0 where
  pub least : SetBelow below (least_of p (policy_at p r.location)) r.roles
  pub typed : Typed below p (running_standing p r) r.command

pub record RunningTyped (below : ℕ → ℕ → Bool) (p : Plan) (shelf : List TreeLines) (r : RunningRow) : Type 0 where
  pub runs : RunsTyped below p r
  -- every filled slot holds what its pattern matched
  pub slots : SlotsMatch below p shelf r.slots

-- ---- a network

-- the tree of a location obeys the location's policy
abbrev pub TreeAtObeys : (ℕ → ℕ → Bool) → Plan → ℕ → TreeLines → Type 0
TreeAtObeys below p location tree = TreeObeys below (least_of p (policy_at p location)) p.jobs (policy_at p location) tree

-- what admission asks of a network that has shape
pub record Obeys (below : ℕ → ℕ → Bool) (top : ℕ) (n : Network) : Type 0 where
  pub grants : Each (GrantObeys below top) grant0 n.plan.grants
  pub trees : (l : ℕ) → l < length n.trees → TreeAtObeys below n.plan l (slice_index_or n.trees l [])
  pub jobs : Each (JobTyped below n.plan) job0 n.plan.jobs

-- what an audit asks of the running jobs beside
abbrev pub RunningObeys : (ℕ → ℕ → Bool) → Network → Type 0
RunningObeys below n = Each (RunningTyped below n.plan n.shelf) no_running n.running

-- ---- what shape gives

-- commands go on to later ones, and each job names a command
pub record Ready (n : Network) : Type 0 where
  pub flows : Flows n.plan.commands
  pub jobs : Each (λ j. j.command ≤ length n.plan.commands) job0 n.plan.jobs
  pub running : Each (λ r. r.command ≤ length n.plan.commands) no_running n.running

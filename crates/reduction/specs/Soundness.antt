-- Networks that are sound: every row stands, and every typing rule is kept; and what a step has to bring about so that they stay so.
use Rattle.std.specs.Prelude.{◌≡◌, ℕ, ◌<◌, ◌≤◌, Bool, List, [], ◌++◌, length, slice_index_or}
use Rattle.order.specs.Laws.{Lawful}
use Rattle.order.specs.RoleSets.{InUse}
use Rattle.layout.specs.declared.memory.RunningRow.{RunningRow}
use Rattle.layout.specs.Network.{TreeLines, Plan, Network}
use Rattle.layout.specs.Zeros.{policy0, grant0, location0, pattern0, job0, no_running}
use Rattle.meaning.specs.Decoding.{pattern_of}
use Rattle.scan.specs.Scan.{Each}
use Rattle.standing.specs.declared.sizes.Sizes.{Sizes}
use Rattle.standing.specs.Words.{Means, GrantStands, StepsStand, TreeStands, TemplatesStand, PatternStands, CommandsStand, JobStands, RunningStands}
use Rattle.pasting.specs.Words.{least_of}
use Rattle.breaches.specs.Words.{Obeys, RunningTyped}
use Rattle.replacing.specs.Sound as trees
use Rattle.reduction.specs.Effects.{Effect}

-- a running job stands, and it is typed
pub record JobSound (below : ℕ → ℕ → Bool) (s : Sizes) (p : Plan) (shelf : List TreeLines) (r : RunningRow) : Type 0 where
  pub six : length r.slots ≡ 6
  pub stands : RunningStands s p.patterns r
  pub typed : RunningTyped below p shelf r

-- the sizes are those of the network
pub record Counts (s : Sizes) (n : Network) : Type 0 where
  pub policies : s.policies ≡ length n.plan.policies
  pub locations : s.locations ≡ length n.plan.locations
  pub patterns : s.patterns ≡ length n.plan.patterns
  pub commands : s.commands ≡ length n.plan.commands
  pub jobs : s.jobs ≡ length n.plan.jobs
  pub shelf : s.shelf ≡ length n.shelf

-- what no call after admission writes
pub record PlanStands (s : Sizes) (p : Plan) : Type 0 where
  pub policies : Each (λ x. InUse s.roles x.least) policy0 p.policies
  pub grants : Each (GrantStands s) grant0 p.grants
  pub locations : Each (λ x. x.policy < s.policies) location0 p.locations
  pub steps : StepsStand s p.steps
  pub templates : TemplatesStand s p.templates
  pub patterns : Each (λ x. Means (pattern_of x) (PatternStands s)) pattern0 p.patterns
  pub commands : CommandsStand s p.commands
  pub jobs : Each (JobStands s) job0 p.jobs

-- a network under an order with as many roles, and with the top role, that the sizes tell
pub record NetworkSound (below : ℕ → ℕ → Bool) (s : Sizes) (n : Network) : Type 0 where
  pub lawful : Lawful s.roles s.top below
  pub counts : Counts s n
  pub plan : PlanStands s n.plan
  pub trees : (l : ℕ) → l < length n.trees → TreeStands s (slice_index_or n.trees l [])
  pub every_location : length n.trees ≡ 16
  pub nowhere : (l : ℕ) → l < length n.trees → (l < s.locations → ⊥) → slice_index_or n.trees l [] ≡ []
  -- trees have at most 128 lines, those on the shelf too
  pub short : (l : ℕ) → length (slice_index_or n.trees l []) ≤ 128
  pub shelf : (k : ℕ) → k < length n.shelf → TreeStands s (slice_index_or n.shelf k [])
  pub shelved : (k : ℕ) → length (slice_index_or n.shelf k []) ≤ 128
  pub obeys : Obeys below s.top n
  pub running : Each (JobSound below s n.plan n.shelf) no_running n.running

-- the sizes where so many trees are shelved
abbrev pub with_shelf : Sizes → ℕ → Sizes
with_shelf s trees = record {
  roles = s.roles;
  top = s.top;
  policies = s.policies;
  locations = s.locations;
  paths = s.paths;
  templates = s.templates;
  patterns = s.patterns;
  commands = s.commands;
  jobs = s.jobs;
  shelf = trees;
}

-- what a step at a location of the policy brings about is sound, rooms aside: its successors, the copies, and the tree
pub record EffectSound (below : ℕ → ℕ → Bool) (s : Sizes) (p : Plan) (policy : ℕ) (shelf : List TreeLines) (e : Effect) : Type 0 where
  pub jobs : Each (JobSound below (with_shelf s (length (shelf ++ e.copies))) p (shelf ++ e.copies)) no_running e.jobs
  pub copies : (k : ℕ) → k < length e.copies → TreeStands s (slice_index_or e.copies k [])
  -- a copy is of at most 128 lines: it lies in a tree of the network
  pub short : (k : ℕ) → length (slice_index_or e.copies k []) ≤ 128
  pub tree : trees.Sound below s (least_of p policy) p.jobs policy e.tree

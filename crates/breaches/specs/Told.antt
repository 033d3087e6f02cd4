-- The first breach, as it is told: grants by row, edges by row, jobs by row; and running jobs by their place.
use Rattle.std.specs.Prelude.{ℕ, zero, suc, ◌+◌, Bool, cond, List, [], ◌∷◌, length, None, Some, Option}
use Rattle.std.specs.Option.{option_map}
use Rattle.order.specs.RoleSets.{set_below}
use Rattle.sheet.specs.declared.kinds.LineKind.TheVariants as kind
use Rattle.rows.specs.declared.row.GrantRow.{GrantRow}
use Rattle.rows.specs.declared.row.JobRow.{JobRow}
use Rattle.layout.specs.declared.kind.TableKind.TheVariants.{Lines, Running}
use Rattle.layout.specs.declared.memory.RunningRow.{RunningRow}
use Rattle.layout.specs.Network.{TreeLines, Plan, Network}
use Rattle.scan.specs.Scan.{or_else}
use Rattle.obeying.specs.Breaches.{grant_breach, tree_breach}
use Rattle.pasting.specs.Words.{least_of}
use Rattle.commands.specs.declared.rule.CommandRule.{CommandRule}
use Rattle.commands.specs.declared.rule.CommandRule.TheVariants.{Entry}
use Rattle.typing.specs.Telling.{told}
use Rattle.matching.specs.Matching.{policy_at, slots_match}
use Rattle.breaches.specs.declared.breach.Rule.TheVariants as rule
use Rattle.breaches.specs.declared.breach.RuleBreach.{RuleBreach}
use Rattle.breaches.specs.Words.{job_standing, running_standing}

-- the first row of which something is told, where rows are numbered from `row` on
abbrev pub first_told : {X : Type 0} → (ℕ → X → Option RuleBreach) → ℕ → List X → Option RuleBreach
first_told told row [] = None
first_told told row (x ∷ xs) = or_else (told row x) (first_told told (row + 1) xs)

-- ---- grants and edges

abbrev pub grants_told : (ℕ → ℕ → Bool) → ℕ → List GrantRow → Option RuleBreach
grants_told below top grants = option_map (λ i. record { table = Lines kind.Grant; row = i; rule = rule.Grant }) (grant_breach below top grants)

-- how many edges the locations before this one have
abbrev pub edges_before : List TreeLines → ℕ → ℕ
edges_before trees zero = 0
edges_before [] (suc location) = 0
edges_before (tree ∷ trees) (suc location) = length tree + edges_before trees location

abbrev pub tree_told : (ℕ → ℕ → Bool) → Plan → ℕ → ℕ → TreeLines → Option RuleBreach
tree_told below p before location tree =
    option_map (λ b. record { table = Lines kind.Edge; row = before + b.row; rule = rule.Tree b.rule })
    (tree_breach below (least_of p (policy_at p location)) p.jobs (policy_at p location) tree)

-- rows of edges are numbered over all locations
abbrev pub edges_told : (ℕ → ℕ → Bool) → Plan → List TreeLines → Option RuleBreach
edges_told below p trees = first_told (λ location tree. tree_told below p (edges_before trees location) location tree) 0 trees

-- ---- jobs

abbrev pub job_told : (ℕ → ℕ → Bool) → Plan → ℕ → JobRow → Option RuleBreach
job_told below p row j =
    cond (set_below below (least_of p j.policy) j.roles)
    (option_map (λ b. record { table = Lines kind.Command; row = b.row; rule = rule.Command b.rule }) (told below p (job_standing j) j.command))
    (Some (record { table = Lines kind.Job; row = row; rule = rule.Command Entry }))

abbrev pub jobs_told : (ℕ → ℕ → Bool) → Plan → Option RuleBreach
jobs_told below p = first_told (job_told below p) 0 p.jobs

-- what admission tells of a network that has shape
abbrev pub rules_told : (ℕ → ℕ → Bool) → ℕ → Network → Option RuleBreach
rules_told below top n = or_else (grants_told below top n.plan.grants) (or_else (edges_told below n.plan n.trees) (jobs_told below n.plan))

-- ---- running jobs

-- the lowest rule that its roles break, else that the first of its commands breaks
abbrev pub running_rule : (ℕ → ℕ → Bool) → Plan → RunningRow → Option CommandRule
running_rule below p r =
    cond (set_below below (least_of p (policy_at p r.location)) r.roles)
    (option_map (λ b. b.rule) (told below p (running_standing p r) r.command))
    (Some Entry)

-- its roles and commands, then what its slots hold, all told at its place
abbrev pub running_told : (ℕ → ℕ → Bool) → Plan → List TreeLines → ℕ → RunningRow → Option RuleBreach
running_told below p shelf place r =
    or_else (option_map (λ broken. record { table = Running; row = place; rule = rule.Command broken }) (running_rule below p r))
    (cond (slots_match below p shelf 0 r.slots) None (Some (record { table = Running; row = place; rule = rule.Filled })))

-- what an audit tells of them
abbrev pub all_running_told : (ℕ → ℕ → Bool) → Network → Option RuleBreach
all_running_told below n = first_told (running_told below n.plan n.shelf) 0 n.running

use Rattle.std.proofs.Common.{◌≡◌, ℕ, ◌<◌, None}
use Rattle.obeying.specs.declared.trees.Rule.{Rule}
use Rattle.obeying.specs.Rules.{Asks}
use Rattle.obeying.specs.Breaches.{OuterRows, line_breach, first_breach}
use Rattle.obeying.proofs.trees.Policy.breach.Given as goal

abbrev pub invariant-loop-row : goal.invariant-loop-row
invariant-loop-row g l =
    (first_breach (line_breach (g.O.Order.below l.self.order.now) l.self.least l.self.jobs.now l.self.number l.tree) l.row ≡ None)
    × ((k : ℕ) → k < l.row → (r : Rule) → Asks (g.O.Order.below l.self.order.now) l.self.least l.self.jobs.now l.self.number l.tree k r)
    × OuterRows l.tree l.row l.outers

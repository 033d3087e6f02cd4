use Rattle.std.proofs.Common.{◌≡◌, ℕ, ◌<◌, drop}
use Rattle.scan.specs.Scan.{first_bad}
use Rattle.obeying.specs.Rules.{line, LineMatches}
use Rattle.obeying.specs.Breaches.{line_matches}
use Rattle.obeying.proofs.matching.TreePattern.lines_match.Given as goal

abbrev pub invariant-loop-line : goal.invariant-loop-line
invariant-loop-line g l =
    (first_bad (λ i x. line_matches (g.O.Order.below l.self.policy.order.now) l.self.top l.self.all x) l.line-index (drop l.line-index l.tree)
    ≡ first_bad (λ i x. line_matches (g.O.Order.below l.self.policy.order.now) l.self.top l.self.all x) 0 l.tree)
    × ((k : ℕ) → k < l.line-index → LineMatches (g.O.Order.below l.self.policy.order.now) l.self.top l.self.all (line l.tree k))

use Rattle.layout.specs.Network.{network}
use Rattle.edges.proofs.SelectedLines.{SelectedTo}
use Rattle.trees.proofs.paths.Path.select.Given as goal

abbrev pub invariant-loop-row : goal.invariant-loop-row
invariant-loop-row g l = SelectedTo (g.O.Order.below l.self.order.now) l.self.steps.now (network l.tables).plan l.pattern l.tree l.row l.flags

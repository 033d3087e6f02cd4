use Rattle.edges.proofs.EnabledLines.{EnabledTo}
use Rattle.trees.proofs.paths.Path.enable.Given as goal

abbrev pub invariant-loop-i : goal.invariant-loop-i
invariant-loop-i g l = EnabledTo (g.O.Order.below l.self.order.now) l.self.steps.now l.role l.initial.tree l.i l.met l.tree

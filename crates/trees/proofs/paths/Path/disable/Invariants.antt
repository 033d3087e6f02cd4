use Rattle.edges.proofs.DisabledLines.{DisabledTo}
use Rattle.trees.proofs.paths.Path.disable.Given as goal

abbrev pub invariant-loop-i : goal.invariant-loop-i
invariant-loop-i g l = DisabledTo (g.O.Order.below l.self.order.now) l.self.steps.now l.role l.initial.tree 12 l.i l.met l.left l.tree

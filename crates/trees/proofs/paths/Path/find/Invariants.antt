use Rattle.edges.proofs.FoundLines.{Finding}
use Rattle.trees.proofs.paths.Path.find.Given as goal

abbrev pub invariant-loop-i : goal.invariant-loop-i
invariant-loop-i g l = Finding (g.O.Order.below l.self.order.now) l.self.steps.now l.tree 128 l.i l.met l.found

use Rattle.edges.specs.Disabling.{stays}
use Rattle.edges.proofs.KeptRoles.{Gathered}
use Rattle.trees.proofs.paths.Path.left.Given as goal

abbrev pub invariant-loop-role : goal.invariant-loop-role
invariant-loop-role g l =
    (goal.iterator-loop-role g).can_next l.role-iterator
    × (goal.iterator-loop-role g).is_finite l.role-iterator
    × Gathered (stays (g.O.Order.below l.self.order.now) l.disabled l.above) l.set l.role-iterator.left l.left

use Rattle.order.specs.RoleSets.{SomeBelow}
use Rattle.order.proofs.Searches.{Searched}
use Rattle.order.proofs.role_sets.set_below.Given as goal

abbrev pub invariant-loop-role : goal.invariant-loop-role
invariant-loop-role g l =
    (goal.iterator-loop-role g).can_next l.role-iterator
    × (goal.iterator-loop-role g).is_finite l.role-iterator
    × Searched (SomeBelow (g.O.Order.below l.order) l.a) l.b l.role-iterator.left

use Rattle.std.proofs.Common.{◌≡◌, false}
use Rattle.order.proofs.Searches.{Searched}
use Rattle.order.proofs.role_sets.some_below.Given as goal

abbrev pub invariant-loop-x : goal.invariant-loop-x
invariant-loop-x g l =
    (goal.iterator-loop-x g).can_next l.x-iterator
    × (goal.iterator-loop-x g).is_finite l.x-iterator
    × Searched (λ x. g.O.Order.below l.order x l.role ≡ false) l.set l.x-iterator.left

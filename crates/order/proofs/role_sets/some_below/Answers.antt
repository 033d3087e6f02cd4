use Rattle.std.proofs.Common.{sym, arith}
use Rattle.std.proofs.lemmas.Bool.{both_ways}
use Rattle.std.proofs.lemmas.Bool.Decides.{same_from_decides}
use Rattle.order.specs.RoleSets.{SomeBelow}
use Rattle.order.proofs.Searches.{searched_all}
use Rattle.order.proofs.Tests.{Decides-yes, Decides-no, Decides-some_below}
use Rattle.order.proofs.role_sets.some_below.Goals as goal

pub returns-then-at_or_below : goal.returns-then-at_or_below
returns-then-at_or_below g c =
    let below = g.O.Order.below c.args.order.now in
    let says = Decides-yes {P = SomeBelow below c.args.set c.args.role}
    (c.in-Some.x, c.loop-x.invariant.2.rest c.in-Some.x c.in-Some.ensures.steps.member, sym c.if-at_or_below.ensures.answer) in
    record { answer = same_from_decides _ _ says (Decides-some_below below c.args.set c.args.role (omega arith)); says = says }

pub returns : goal.returns
returns g c =
    let below = g.O.Order.below c.args.order.now in
    let says = Decides-no {P = SomeBelow below c.args.set c.args.role}
    (λ w. both_ways _ (searched_all c.loop-x.invariant.2 c.in-None.ensures.steps.0 w.0 w.1) w.2) in
    record { answer = same_from_decides _ _ says (Decides-some_below below c.args.set c.args.role (omega arith)); says = says }

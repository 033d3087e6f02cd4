use Rattle.std.proofs.Common.{arith}
use Rattle.std.proofs.lemmas.Bool.Decides.{same_from_decides, not_from_Decides}
use Rattle.order.specs.RoleSets.{SetBelow}
use Rattle.order.proofs.Searches.{searched_all}
use Rattle.order.proofs.Tests.{Decides-yes, Decides-no, Decides-set_below}
use Rattle.order.proofs.role_sets.set_below.Goals as goal

pub returns-then-not-some_below : goal.returns-then-not-some_below
returns-then-not-some_below g c =
    let below = g.O.Order.below c.args.order.now in
    let says = Decides-no {P = SetBelow below c.args.a c.args.b}
    (λ p. not_from_Decides _ c.some_below.ensures.says c.if-not-some_below.true
    (p c.in-Some.role (c.loop-role.invariant.2.rest c.in-Some.role c.in-Some.ensures.steps.member))) in
    record { answer = same_from_decides _ _ says (Decides-set_below below c.args.a c.args.b (omega arith) (omega arith)); says = says }

pub returns : goal.returns
returns g c =
    let below = g.O.Order.below c.args.order.now in
    let says = Decides-yes {P = SetBelow below c.args.a c.args.b}
    (searched_all c.loop-role.invariant.2 c.in-None.ensures.steps.0) in
    record { answer = same_from_decides _ _ says (Decides-set_below below c.args.a c.args.b (omega arith) (omega arith)); says = says }

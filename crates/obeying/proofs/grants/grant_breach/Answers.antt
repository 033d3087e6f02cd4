use Rattle.obeying.proofs.Firsts.{grants_first}
use Rattle.obeying.proofs.grants.grant_breach.Goals as goal

pub returns-clause-answer : goal.returns-clause-answer
returns-clause-answer g c =
    grants_first (g.O.Order.below c.args.order.now) g.O.Order.TOP c.args.grants.now c.first_broken.result c.first_broken.ensures.stands c.first_broken.ensures.first

use Rattle.layout.specs.Network.{network}
use Rattle.breaches.specs.Broken.RuleBroken.{grant, edge}
use Rattle.breaches.proofs.Jobwise.{by_job}
use Rattle.breaches.proofs.whole.rules_breach.Goals as goal

pub returns-in-Some-clause-broken : goal.returns-in-Some-clause-broken
returns-in-Some-clause-broken g c = grant c.in-Some.ensures.breaks.0 c.in-Some.ensures.breaks.1 c.in-Some.ensures.breaks.2

pub returns-in-Some-edges_breach-clause-broken : goal.returns-in-Some-edges_breach-clause-broken
returns-in-Some-edges_breach-clause-broken g c = edge c.in-Some-edges_breach.ensures.breaks.0 c.in-Some-edges_breach.ensures.breaks.1 c.in-Some-edges_breach.ensures.breaks.2

pub returns-in-None-clause-broken : goal.returns-in-None-clause-broken
returns-in-None-clause-broken g c = by_job (g.O.Order.below c.args.order.now) g.O.Order.TOP (network c.args.tables.now) c.jobs_breach.result c.jobs_breach.ensures.breaks

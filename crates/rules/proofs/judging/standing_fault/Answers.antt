use Rattle.rules.proofs.Readiness.{ready}
use Rattle.rules.proofs.judging.standing_fault.Goals as goal

pub returns-in_err-breach-clause-stands : goal.returns-in_err-breach-clause-stands
returns-in_err-breach-clause-stands g c e =
    let shaped = c.shape.ensures.stands c.in_default.is in record {
      shape = shaped;
      obeys = c.rules_breach.ensures.stands (ready g.O.Order.COUNT g.O.Order.TOP c.args.tables.now c.args.stage shaped (c.shape.ensures.holds c.in_default.is)) c.in_err-breach.was;
    }

pub returns-in_err-breach-clause-ready : goal.returns-in_err-breach-clause-ready
returns-in_err-breach-clause-ready g c e =
    ready g.O.Order.COUNT g.O.Order.TOP c.args.tables.now c.args.stage (c.shape.ensures.stands c.in_default.is) (c.shape.ensures.holds c.in_default.is)

pub returns-clause-broken : goal.returns-clause-broken
returns-clause-broken g c = (c.shape.ensures.stands c.in_default.is, c.in_ok-breach.ensures.broken)

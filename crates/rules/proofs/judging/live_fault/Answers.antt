use Rattle.std.proofs.Common.{refl}
use Rattle.rules.specs.Admission.LiveBroken.{by_running}
use Rattle.rules.proofs.judging.live_fault.Goals as goal

pub returns-clause-broken : goal.returns-clause-broken
returns-clause-broken g c = by_running c.in_ok-breach.breach (c.standing_fault.ensures.stands c.in_default.is) c.in_ok-breach.ensures.broken refl

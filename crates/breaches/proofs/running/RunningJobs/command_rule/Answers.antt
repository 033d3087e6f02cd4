use Rattle.std.proofs.Common.{refl, subst}
use Rattle.layout.specs.Network.{network}
use Rattle.commands.specs.declared.standing.Standing.{Standing}
use Rattle.typing.specs.Telling.{Broken}
use Rattle.breaches.specs.Broken.RunsBroken.{by_command}
use Rattle.breaches.proofs.running.RunningJobs.command_rule.Goals as goal

pub returns-clause-breaks : goal.returns-clause-breaks
returns-clause-breaks g c =
    by_command c.in_ok-breach.breach
    (subst (λ (s : Standing). Broken (g.O.Order.below c.args.self.now.order.now) (network c.args.self.now.tables.now).plan s c.args.job.now.command c.in_ok-breach.breach)
    c.running_standing-standing.ensures.answer c.in_ok-breach.ensures.broken)
    refl

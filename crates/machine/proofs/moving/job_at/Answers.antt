use Rattle.layout.specs.Network.{network}
use Rattle.machine.proofs.Readying.{job_there}
use Rattle.machine.proofs.moving.job_at.Goals as goal

pub returns : goal.returns
returns c = record { says = job_there (network c.args.tables.now) c.args.position c.running_at.result c.running_at.ensures.answer }

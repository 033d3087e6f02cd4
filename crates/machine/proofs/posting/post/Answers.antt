use Rattle.std.proofs.Common.{is_ok}
use Rattle.machine.proofs.Running.{job_added}
use Rattle.machine.proofs.posting.post.Goals as goal

pub returns-clause-after : goal.returns-clause-after
returns-clause-after g c =
    job_added c.args.tables.now c.push-room.new.self c.started.result c.in_ok-found.found c.args.location c.args.job (is_ok c.push-room.result)
    (c.shape.ensures.holds c.in_default.is) c.in_ok-found.ensures.answer c.started.ensures.answer c.push-room.ensures.answer c.push-room.ensures.after

use Rattle.machine.proofs.Running.{one_out}
use Rattle.machine.proofs.recalling.recall.Goals as goal

pub returns-clause-after : goal.returns-clause-after
returns-clause-after g c = one_out c.args.tables.now c.args.position c.left-tables.result (c.shape.ensures.holds c.in_default.is) c.left-tables.ensures.answer

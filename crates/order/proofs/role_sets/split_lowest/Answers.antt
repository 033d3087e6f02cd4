use Rattle.std.proofs.Common.{arith}
use Rattle.order.proofs.Bits.{lowest}
use Rattle.order.proofs.role_sets.split_lowest.Goals as goal

pub returns-clause-answer : goal.returns-clause-answer
returns-clause-answer c = lowest 64 c.args.set (omega arith) (omega arith)

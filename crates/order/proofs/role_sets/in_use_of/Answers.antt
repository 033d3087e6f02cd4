use Rattle.std.proofs.Common.{arith}
use Rattle.order.proofs.Uses.{uses_none, uses_all}
use Rattle.order.proofs.role_sets.in_use_of.Goals as goal

pub returns-then-count-ge64 : goal.returns-then-count-ge64
returns-then-count-ge64 c =
    let u = uses_all c.args.count c.args.set (omega arith) c.if-set-ne0.true c.if-count-ge64.true in
    record { answer = u.answer; roles = u.roles; says = u.says }

pub returns-else-set-ne0 : goal.returns-else-set-ne0
returns-else-set-ne0 c =
    let u = uses_none c.args.count c.args.set (omega arith) c.if-set-ne0.false in
    record { answer = u.answer; roles = u.roles; says = u.says }

use Rattle.std.proofs.Common.{arith}
use Rattle.rooms.proofs.Starting.{total_more}
use Rattle.rooms.proofs.beginning.total.Goals as goal

pub loop-length-preserved : goal.loop-length-preserved
loop-length-preserved c =
    omega (arith, total_more c.args.lengths.now c.loop-length.length-index c.loop-length-test.true, c.saturating_add-sum.ensures, c.loop-length.invariant)

use Rattle.layout.specs.Zeros.{running0}
use Rattle.rooms.proofs.Closing.{passed}
use Rattle.rooms.proofs.leaving.left.Goals as goal

pub loop-k-preserved-then-k-place : goal.loop-k-preserved-then-k-place
loop-k-preserved-then-k-place c =
    passed 64 running0 c.in_use-job-items.result.now c.args.place c.loop-k.k c.loop-k.left c.loop-k-test.true c.if-k-place.true c.loop-k.invariant

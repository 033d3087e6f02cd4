use Rattle.obeying.specs.TreeLaws.{lowered}
use Rattle.outcomes.specs.Outcomes.{added_all}
use Rattle.replacing.specs.Pasting.{filled}
use Rattle.changes.specs.Pastes.{held_at}
use Rattle.changes.proofs.Filling.{filled_turn}
use Rattle.changes.proofs.putting.put_filled.Goals as goal

pub loop-line-preserved : goal.loop-line-preserved
loop-line-preserved c =
    filled_turn (held_at c.args.slots.now) c.args.levels c.loop-line.line-index c.args.template.now c.loop-line.out c.put_line.new.out
    (added_all c.args.out.now (lowered c.args.levels (filled (held_at c.args.slots.now) c.args.template.now))) c.loop-line-test.true c.loop-line.invariant c.put_line.ensures.after

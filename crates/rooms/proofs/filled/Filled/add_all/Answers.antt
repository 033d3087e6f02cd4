use Rattle.rooms.specs.Filled.{added_all}
use Rattle.rooms.proofs.Joined.{one_turn}
use Rattle.rooms.proofs.filled.Filled.add_all.Goals as goal

pub loop-row-preserved : goal.loop-row-preserved
loop-row-preserved g c =
    one_turn g.row.N c.args.rows.now c.loop-row.row-index c.row-item.result c.row-item.result c.loop-row.self c.add.new.self (added_all g.row.N c.args.self.now c.args.rows.now)
    c.row-item.is c.loop-row-test.true c.loop-row.invariant c.add.ensures.adds

use Rattle.layout.specs.Network.{network}
use Rattle.edges.proofs.SelectedLines.{selected_turn}
use Rattle.trees.proofs.paths.Path.select.Goals as goal

pub loop-row-preserved : goal.loop-row-preserved
loop-row-preserved g c =
    selected_turn (g.O.Order.below c.args.self.now.order.now) c.args.self.now.steps.now (network c.args.tables.now).plan c.args.pattern c.args.tree.now c.loop-row.row
    c.loop-row.flags c.selects.result c.loop-row-test.true c.requires.few c.loop-row.invariant c.selects.ensures.says

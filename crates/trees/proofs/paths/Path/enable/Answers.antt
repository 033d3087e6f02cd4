use Rattle.edges.proofs.EnabledLines.{enabled_none, enabled_turn, enabled_all}
use Rattle.trees.proofs.paths.Path.enable.Goals as goal

pub loop-i-init : goal.loop-i-init
loop-i-init g c = enabled_none (g.O.Order.below c.args.self.now.order.now) c.args.self.now.steps.now c.args.role c.args.tree.now 0

pub loop-i-preserved : goal.loop-i-preserved
loop-i-preserved g c =
    enabled_turn (g.O.Order.below c.args.self.now.order.now) c.args.self.now.steps.now c.args.role c.args.tree.now c.loop-i.i c.loop-i.met c.steps_met-met.result
    c.enabled.result c.loop-i.tree c.requires.nested c.requires.some c.loop-i-test.true c.loop-i.invariant c.enabled.ensures.says c.steps_met-met.ensures.says

pub returns : goal.returns
returns g c = record {
  after = enabled_all (g.O.Order.below c.args.self.now.order.now) c.args.self.now.steps.now c.args.role c.args.tree.now c.loop-i.i c.loop-i.met c.loop-i.tree c.loop-i-test.false c.loop-i.invariant;
}

use Rattle.std.proofs.Common.{refl}
use Rattle.edges.proofs.DisabledLines.{disabled_none, disabled_turn, disabled_all}
use Rattle.trees.proofs.paths.Path.disable.Goals as goal

pub loop-i-init : goal.loop-i-init
loop-i-init g c = disabled_none (g.O.Order.below c.args.self.now.order.now) c.args.self.now.steps.now c.args.role c.args.tree.now 12 0 _ refl

pub loop-i-preserved : goal.loop-i-preserved
loop-i-preserved g c =
    disabled_turn (g.O.Order.below c.args.self.now.order.now) c.args.self.now.steps.now c.args.role c.args.tree.now 12 c.requires.nested c.requires.some
    c.requires.deep c.loop-i.i c.loop-i.met c.steps_met-met.result c.loop-i.left c.loop-i.tree c.disabled-set.result c.loop-i-test.true
    c.loop-i.invariant c.disabled-set.ensures.says c.steps_met-met.ensures.says

pub returns : goal.returns
returns g c = record {
  after = disabled_all (g.O.Order.below c.args.self.now.order.now) c.args.self.now.steps.now c.args.role c.args.tree.now 12 c.loop-i.i c.loop-i.met c.loop-i.left c.loop-i.tree c.loop-i-test.false c.loop-i.invariant;
}

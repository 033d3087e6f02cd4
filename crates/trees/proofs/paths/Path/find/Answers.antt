use Rattle.std.proofs.Common.{arith}
use Rattle.edges.proofs.Reaching.{reached_next}
use Rattle.edges.proofs.FoundLines.{finding_none, finding_next, found_all}
use Rattle.trees.proofs.paths.Path.find.Goals as goal

pub loop-i-init : goal.loop-i-init
loop-i-init g c = finding_none (g.O.Order.below c.args.self.now.order.now) c.args.self.now.steps.now c.args.tree.now 128 c.requires.few 0

pub loop-i-preserved : goal.loop-i-preserved
loop-i-preserved g c =
    let below = g.O.Order.below c.args.self.now.order.now in
    let path = c.args.self.now.steps.now in
    let t = c.args.tree.now in
    finding_next below path t 128 c.requires.few c.loop-i.i c.loop-i.met c.loop-i.found c.is_found.result c.steps_met-met.result c.loop-i-test.true c.loop-i.invariant
    (reached_next below path t c.requires.nested c.loop-i.i c.loop-i.met c.loop-i-test.true c.loop-i.invariant.reached c.steps_met-met.result c.steps_met-met.ensures.says)
    c.is_found.ensures.says

pub returns : goal.returns
returns g c = record { says = found_all (g.O.Order.below c.args.self.now.order.now) c.args.self.now.steps.now c.args.tree.now 128 c.requires.few c.loop-i.i c.loop-i.met c.loop-i.found (omega arith) c.loop-i.invariant }

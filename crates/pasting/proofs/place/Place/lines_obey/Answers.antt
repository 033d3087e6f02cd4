use Rattle.std.proofs.Common.{sym, ◌∙◌, below_more}
use Rattle.layout.specs.Network.{network}
use Rattle.layout.specs.Zeros.{line0}
use Rattle.pasting.specs.Tests.{line_obeys}
use Rattle.pasting.proofs.Loops.{passes_more}
use Rattle.pasting.proofs.place.Place.lines_obey.Goals as goal

pub loop-line-preserved : goal.loop-line-preserved
loop-line-preserved g c = record {
  answer =
      passes_more (line_obeys (g.O.Order.below c.args.self.now.order.now) (network c.args.self.now.tables.now).plan c.args.self.now.policy c.args.above c.args.self.now.slots.now)
      c.args.tree.now c.loop-line.line-index line0 c.loop-line-test.true c.loop-line.invariant.answer (sym c.line_obeys.ensures.answer ∙ c.if-not-line_obeys.false);
  says = below_more _ _ c.loop-line.invariant.says (c.line_obeys.ensures.says.0 c.if-not-line_obeys.false);
}

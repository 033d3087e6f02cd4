use Rattle.std.proofs.Common.{sym, ◌∙◌, below_more}
use Rattle.layout.specs.Zeros.{line0}
use Rattle.pasting.specs.Tests.{line_fits}
use Rattle.pasting.proofs.Loops.{passes_more}
use Rattle.pasting.proofs.fitting.lines_fit.Goals as goal

pub loop-line-preserved : goal.loop-line-preserved
loop-line-preserved c = record {
  answer =
      passes_more (line_fits c.args.patterns.now c.args.slots.now) c.args.tree.now c.loop-line.line-index line0 c.loop-line-test.true c.loop-line.invariant.answer
      (sym c.line_fits.ensures.answer ∙ c.if-not-line_fits.false);
  says = below_more _ _ c.loop-line.invariant.says (c.line_fits.ensures.says.0 c.if-not-line_fits.false);
}

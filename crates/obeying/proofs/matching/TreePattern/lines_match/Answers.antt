use Rattle.std.proofs.Common.{ℕ, sym, ◌∙◌, below_more}
use Rattle.rows.specs.declared.row.TreeLine.{TreeLine}
use Rattle.layout.specs.Zeros.{line0}
use Rattle.scan.proofs.Scan.{bad_next}
use Rattle.obeying.specs.Breaches.{line_matches}
use Rattle.obeying.proofs.matching.TreePattern.lines_match.Goals as goal

pub loop-line-preserved : goal.loop-line-preserved
loop-line-preserved g c =
    let passes = λ (i : ℕ) (x : TreeLine). line_matches (g.O.Order.below c.args.self.now.policy.order.now) c.args.self.now.top c.args.self.now.all x in (
      sym (bad_next passes c.args.tree.now c.loop-line.line-index line0 c.loop-line-test.true (sym c.line_matches.ensures.answer ∙ c.if-not-line_matches.false)) ∙ c.loop-line.invariant.0,
      below_more _ _ c.loop-line.invariant.1 (c.line_matches.ensures.says.0 c.if-not-line_matches.false),
    )

use Rattle.std.proofs.Common.{length, refl, sym, ◌∙◌, arith, below_more}
use Rattle.obeying.proofs.Lines.{breach_next, breach_here, obeys_from}
use Rattle.obeying.proofs.Outers.{outers_none}
use Rattle.obeying.specs.Breaches.{first_breach}
use Rattle.obeying.proofs.trees.Policy.breach.Goals as goal

pub returns-in-Some-clause-answer : goal.returns-in-Some-clause-answer
returns-in-Some-clause-answer g c =
    sym (breach_here _ c.loop-row.row (length c.args.tree.now) c.in-Some.rule c.loop-row-test.true c.loop-row.invariant.0 (sym c.line_breach.ensures.answer ∙ c.in-Some.is))

pub loop-row-init : goal.loop-row-init
unfolding first_breach
loop-row-init g c = (refl, λ k h. absurd (omega arith), outers_none c.args.tree.now 13)

pub loop-row-preserved : goal.loop-row-preserved
loop-row-preserved g c = (
  breach_next _ c.loop-row.row c.loop-row.invariant.0 (sym c.line_breach.ensures.answer ∙ c.in_default.is),
  below_more _ _ c.loop-row.invariant.1 c.in_default.ensures.says,
  c.note_row.ensures.after,
)

pub returns-clause-stands : goal.returns-clause-stands
returns-clause-stands g c e = obeys_from (λ i h. c.loop-row.invariant.1 i (omega arith))

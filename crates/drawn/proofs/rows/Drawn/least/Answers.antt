use Rattle.std.proofs.Common.{sym, ◌∙◌, not-suc-le-zero, arith, below_more}
use mathlib.Core.Bool.{Bool-set}
use mathlib.Core.Logic.{∥∥₁_elim}
use Rattle.drawn.specs.Rows.{rows_below}
use Rattle.drawn.specs.Bounds.{rows_lawful}
use Rattle.drawn.proofs.Fresh.{only_top-contained}
use Rattle.drawn.proofs.Joins.{join_contained, join_through, join_keeps}
use Rattle.drawn.proofs.rows.Drawn.least.Goals as goal

pub loop-pair-init : goal.loop-pair-init
loop-pair-init c =
    (only_top-contained _ _ c.no_pairs-order.ensures.answer, λ k h. absurd (not-suc-le-zero h))

pub loop-pair-preserved : goal.loop-pair-preserved
loop-pair-preserved c =
    let e = c.with_pair-order.ensures.answer in
    let order = c.loop-pair.order in
    let inv = c.loop-pair.invariant in
    let k = c.loop-pair.pair-index in
    let here = c.loop-pair-test.true in
    let known = c.requires k here in (
      λ S keeps x y t.
          join_contained c.args.pairs.now (rows_below order.rows) _ _ inv.0 (λ R kept. kept.has_pairs k here) S keeps x y (sym (e x y) ∙ t),
      below_more _ _
          (λ j h. e _ _ ∙ join_keeps (rows_below order.rows) _ _ _ _ (inv.1 j h))
          (e _ _ ∙ join_through (rows_below order.rows) _ _ _ _ (order.reflexive _ known.0) (order.reflexive _ known.1)),
    )

pub returns : goal.returns
returns c =
    let order = c.loop-pair.order in
    record {
      answer = record {
        lawful = rows_lawful order.rows order.reflexive (λ x y z p q. ∥∥₁_elim order.transitive (Bool-set _ _) (λ t. t x y z p q)) order.topmost;
        has_pairs = λ k h. c.loop-pair.invariant.1 k (omega arith);
        contained = c.loop-pair.invariant.0;
      };
    }

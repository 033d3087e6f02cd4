use Rattle.std.proofs.Common.{◌∙◌}
use mathlib.Core.Logic.{∥∥₁_map}
use Rattle.drawn.specs.Rows.{rows_below}
use Rattle.drawn.proofs.Joins.{grown_joined, join_keeps, join_trans, trans_as}
use Rattle.drawn.proofs.rows.Drawn.with_pair.Goals as goal

pub invariant_of-result : goal.invariant_of-result
invariant_of-result c =
    let order = c.args.self.now in
    let a = c.args.a in
    let b = c.args.b in
    let e = grown_joined order.rows c.grow.result a b c.requires.0 c.requires.1 c.grow.ensures.answer in
    record {
      reflexive = λ x h. e x x ∙ join_keeps (rows_below order.rows) a b x x (order.reflexive x h);
      transitive = ∥∥₁_map order.transitive (λ t. trans_as _ _ e (join_trans (rows_below order.rows) a b t));
      topmost = λ x h. e x 0 ∙ join_keeps (rows_below order.rows) a b x 0 (order.topmost x h);
    }

pub returns : goal.returns
returns c = record {
  answer = grown_joined c.args.self.now.rows c.grow.result c.args.a c.args.b c.requires.0 c.requires.1 c.grow.ensures.answer;
}

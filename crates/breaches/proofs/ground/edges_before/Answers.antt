use Rattle.std.proofs.Common.{List, length, ap, ◌∙◌, arith}
use Rattle.rows.specs.declared.row.TreeLine.{TreeLine}
use Rattle.breaches.proofs.Edges.{edges_more, edges_to}
use Rattle.breaches.proofs.ground.edges_before.Goals as goal

pub loop-tree-preserved : goal.loop-tree-preserved
loop-tree-preserved c = record {
  count = omega (arith, edges_more c.args.trees.now c.min.result c.loop-tree.tree-index c.loop-tree-test.true, ap (λ (xs : List TreeLine). length xs) c.in_use.ensures.rows);
  small = omega arith;
}

pub returns-clause-answer : goal.returns-clause-answer
returns-clause-answer c =
    c.loop-tree.invariant.count ∙ edges_to c.args.trees.now c.args.location c.loop-tree.tree-index c.min.result (omega arith) (omega arith)

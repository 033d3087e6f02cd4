use Rattle.std.proofs.Common.{drop, length}
use Rattle.layout.specs.Network.{network}
use Rattle.edges.specs.Disabling.{Disabled}
use Rattle.reduction.specs.Values.{tree_of}
use Rattle.stepping.proofs.OneLine.{comes_back, its_lines, nested_by, shallow_by}
use Rattle.stepping.proofs.step.Step.disabled_by.Goals as goal

pub disable-requires-clause-nested : goal.disable-requires-clause-nested
disable-requires-clause-nested g c =
    let tree = tree_of (network c.args.self.now.tables.now) c.args.self.now.job in
    nested_by tree _ (its_lines tree c.tree-count.result.now c.rows-lines.result c.tree-count.ensures.lines c.rows-lines.ensures.lines) c.requires.ground.nested

pub disable-requires-clause-deep : goal.disable-requires-clause-deep
disable-requires-clause-deep g c =
    let tree = tree_of (network c.args.self.now.tables.now) c.args.self.now.job in
    shallow_by tree _ (its_lines tree c.tree-count.result.now c.rows-lines.result c.tree-count.ensures.lines c.rows-lines.ensures.lines) c.requires.ground.tree

pub returns : goal.returns
returns g c =
    let tree = tree_of (network c.args.self.now.tables.now) c.args.self.now.job in
    record {
      says = comes_back (Disabled (g.O.Order.below c.args.self.now.order.now) c.args.steps.now c.args.role) (λ t a w. w.long) tree c.tree-count.result.now c.rows-lines.result
          c.disable.new.tree (drop (length c.tree-count.result.now) c.rows-lines.result) c.outcome_of.result
          c.tree-count.ensures.lines c.rows-lines.ensures.lines c.disable.ensures.after c.outcome_of.ensures.answer;
    }

use Rattle.std.proofs.Common.{drop, length}
use Rattle.layout.specs.Network.{network}
use Rattle.edges.specs.Enabling.{Enabled}
use Rattle.reduction.specs.Values.{tree_of}
use Rattle.stepping.proofs.OneLine.{comes_back, its_lines, nested_by}
use Rattle.stepping.proofs.step.Step.enabled_by.Goals as goal

pub enable-requires-clause-nested : goal.enable-requires-clause-nested
enable-requires-clause-nested g c =
    let tree = tree_of (network c.args.self.now.tables.now) c.args.self.now.job in
    nested_by tree _ (its_lines tree c.tree-count.result.now c.rows-lines.result c.tree-count.ensures.lines c.rows-lines.ensures.lines) c.requires.ground.nested

pub returns : goal.returns
returns g c =
    let tree = tree_of (network c.args.self.now.tables.now) c.args.self.now.job in
    record {
      says = comes_back (Enabled (g.O.Order.below c.args.self.now.order.now) c.args.steps.now c.args.role) (λ t a w. w.long) tree c.tree-count.result.now c.rows-lines.result
          c.enable.new.tree (drop (length c.tree-count.result.now) c.rows-lines.result) c.outcome_of.result
          c.tree-count.ensures.lines c.rows-lines.ensures.lines c.enable.ensures.after c.outcome_of.ensures.answer;
    }

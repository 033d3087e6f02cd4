use Rattle.std.proofs.Common.{◌++◌, map, take, ap, ◌∙◌, arith}
use Rattle.std.proofs.lemmas.List.{take_all}
use Rattle.layout.specs.Held.{in_use}
use Rattle.layout.specs.Zeros.{no_tree}
use Rattle.dump.specs.Dumping.{edges_from}
use Rattle.dump.proofs.Edges.{edges_more, edge}
use Rattle.dump.proofs.dumping.edges_of.Goals as goal

pub loop-location-preserved : goal.loop-location-preserved
loop-location-preserved c =
    c.loop-line.invariant
    ∙ ap (λ es. es ++ map (edge c.loop-location.location) (take c.loop-line.line-index c.in_use-line-items.result.now)) c.loop-location.invariant
    ∙ ap (λ ls. edges_from 0 (map in_use (take c.loop-location.location c.args.trees.now)) ++ map (edge c.loop-location.location) ls)
    (take_all c.loop-line.line-index c.in_use-line-items.result.now c.loop-line-test.false ∙ c.in_use-line-items.ensures.rows)
    ∙ edges_more in_use c.args.trees.now c.loop-location.location no_tree (omega (arith, c.told-trees))

use Rattle.std.proofs.Common.{◌≡◌, ◌-◌, fold, rules, arith, ◌∙◌}
use Rattle.places.specs.Places.{edges_in}
use Rattle.poke.proofs.Counted.{behind_is, behind_within}
use Rattle.poke.proofs.edges.behind.Goals as goal

pub returns : goal.returns
returns c =
    let runs : c.fold.result ≡ fold (λ left tree. left - edges_in tree) c.args.row c.args.trees.now = search rules in
    let is = runs ∙ behind_is c.args.trees.now c.args.row in
    record { answer = is; within = omega (arith, is, behind_within c.args.trees.now c.args.row) }

use Rattle.std.proofs.Common.{ap, ◌∙◌, arith}
use Rattle.poke.specs.Poking.{edge_place_in}
use Rattle.poke.proofs.Counted.{edge_after}
use Rattle.poke.proofs.edges.poke_edges.Goals as goal

pub returns-in-At-clause-after : goal.returns-in-At-clause-after
returns-in-At-clause-after c =
    let row = c.in-At.ensures in
    let place = c.place_of-place.ensures.answer ∙ ap (edge_place_in c.args.tables.now) row.0 in
    edge_after c.args.tables.now c.args.poke.row c.args.poke.field c.args.poke.value _ (λ count. omega (arith, row.1)) place _ c.poke_table.ensures.after

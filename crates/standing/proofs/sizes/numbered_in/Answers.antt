use Rattle.std.proofs.Common.{◌∙◌}
use Rattle.standing.proofs.LastRows.{numbered_rows}
use Rattle.standing.proofs.sizes.numbered_in.Goals as goal

pub returns : goal.returns
returns g c = record {
  answer = λ zero.
      c.min.ensures ∙ numbered_rows g.T.Numbered.number zero g.row.N c.args.limit c.args.table.now c.next_number.result c.in_use.result.now c.in_use.ensures.rows c.in_use.ensures.long c.next_number.ensures.answer;
}

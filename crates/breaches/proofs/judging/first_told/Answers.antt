use Rattle.std.proofs.Common.{sym, ◌∙◌, arith}
use Rattle.breaches.proofs.Rowwise.{told_next, rows_more, rows_all}
use Rattle.breaches.proofs.judging.first_told.Goals as goal

pub loop-row-preserved : goal.loop-row-preserved
loop-row-preserved g c = record {
  answer =
      sym (told_next (g.J.Judge.told c.args.judge.now) c.args.rows.now c.loop-row.row c.index-rows-row.result c.loop-row-test.true c.index-rows-row.is (sym c.judge.ensures.answer ∙ c.in_default.is))
      ∙ c.loop-row.invariant.answer;
  clear =
      rows_more (g.J.Judge.clear c.args.judge.now) c.args.rows.now c.loop-row.row c.index-rows-row.result c.index-rows-row.is c.loop-row.invariant.clear (c.judge.ensures.clear c.in_default.is);
}

pub returns-clause-clear : goal.returns-clause-clear
returns-clause-clear g c e = rows_all (g.J.Judge.clear c.args.judge.now) c.args.rows.now c.loop-row.row (omega arith) c.loop-row.invariant.clear

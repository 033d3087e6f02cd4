use Rattle.std.proofs.Common.{vec_items, ap, ◌∙◌}
use Rattle.dump.specs.Dumping.{texts}
use Rattle.dump.proofs.Numbered.{line_more}
use Rattle.dump.proofs.dumping.Written.rows.Goals as goal

pub loop-number-preserved : goal.loop-number-preserved
loop-number-preserved g c =
    let says = c.in_ok-line.ensures.answer ∙ ap (g.P.Place.text c.args.place c.loop-number.number) c.index-rows-number.is in
    line_more (g.P.Place.text c.args.place) c.args.rows.now c.loop-number.number c.index-rows-number.result (texts c.args.self.now.lines) (vec_items c.loop-number.self.lines) (vec_items c.push.new.self) c.in_ok-line.line c.loop-number-test.true c.in_ok-push.ensures.items says c.loop-number.invariant

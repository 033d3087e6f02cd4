use Rattle.std.proofs.Common.{◌-◌, ◌^◌, min, ap, ◌∙◌}
use Rattle.rooms.specs.Leaving.{total}
use Rattle.rooms.proofs.Starting.{as_begun}
use Rattle.rooms.proofs.scratch.Scratch.begin.Goals as goal

pub returns : goal.returns
returns c = record {
  answer = λ n h. as_begun c.args.tables.now c.args.place c.args.location
      (record { running = c.from.result; trees = c.from-2.result; lines = c.from-3.result; tree = c.outcome_of.result }) n c.requires.there h
      c.left.result c.left.ensures.answer c.from.ensures c.from-2.ensures
      c.total.result (c.total.ensures.answer ∙ ap (λ ls. min (total ls) (2 ^ 64 - 1)) c.in_use.ensures.rows) c.from-3.ensures c.outcome_of.ensures.answer;
}

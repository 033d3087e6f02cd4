use Rattle.std.proofs.Common.{sym, subst}
use Rattle.machine.specs.Hosting.{Shown}
use Rattle.session.specs.declared.between.Standing.{Standing}
use Rattle.session.specs.Orders.{meaning, count_of, top_of}
use Rattle.session.proofs.between.Standing.show.Goals as goal

pub returns-in-Drawn : goal.returns-in-Drawn
returns-in-Drawn c = record {
  answer = subst (λ (s : Standing). Shown (count_of s) (top_of s) (meaning s) c.args.tables.now c.args.location c.args.row c.args.roles c.show.result) (sym c.in-Drawn.is) c.show.ensures.answer;
}

pub returns-in-Rights : goal.returns-in-Rights
returns-in-Rights c = record {
  answer = subst (λ (s : Standing). Shown (count_of s) (top_of s) (meaning s) c.args.tables.now c.args.location c.args.row c.args.roles c.show-in-Rights.result) (sym c.in-Rights.is) c.show-in-Rights.ensures.answer;
}

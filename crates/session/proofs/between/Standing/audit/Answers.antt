use Rattle.std.proofs.Common.{sym, subst}
use Rattle.machine.specs.Hosting.{Audited}
use Rattle.session.specs.declared.between.Standing.{Standing}
use Rattle.session.specs.Orders.{meaning, count_of, top_of}
use Rattle.session.proofs.between.Standing.audit.Goals as goal

pub returns-in-Drawn : goal.returns-in-Drawn
returns-in-Drawn c = record {
  answer = subst (λ (s : Standing). Audited (count_of s) (top_of s) (meaning s) c.args.tables.now c.audit.result) (sym c.in-Drawn.is) c.audit.ensures.answer;
}

pub returns-in-Rights : goal.returns-in-Rights
returns-in-Rights c = record {
  answer = subst (λ (s : Standing). Audited (count_of s) (top_of s) (meaning s) c.args.tables.now c.audit-in-Rights.result) (sym c.in-Rights.is) c.audit-in-Rights.ensures.answer;
}

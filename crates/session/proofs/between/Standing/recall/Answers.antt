use Rattle.std.proofs.Common.{sym, subst}
use Rattle.machine.specs.Hosting.{RecallAnswers}
use Rattle.session.specs.declared.between.Standing.{Standing}
use Rattle.session.specs.Orders.{meaning, count_of, top_of}
use Rattle.session.proofs.between.Standing.recall.Goals as goal

pub returns-in-Drawn-clause-answer : goal.returns-in-Drawn-clause-answer
returns-in-Drawn-clause-answer c =
    subst (λ (s : Standing). RecallAnswers (count_of s) (top_of s) (meaning s) c.args.tables.now c.args.position c.recall.result) (sym c.in-Drawn.is) c.recall.ensures.answer

pub returns-in-Rights-clause-answer : goal.returns-in-Rights-clause-answer
returns-in-Rights-clause-answer c =
    subst (λ (s : Standing). RecallAnswers (count_of s) (top_of s) (meaning s) c.args.tables.now c.args.position c.recall-in-Rights.result) (sym c.in-Rights.is) c.recall-in-Rights.ensures.answer

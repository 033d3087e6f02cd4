use Rattle.std.proofs.Common.{sym, subst}
use Rattle.machine.specs.Hosting.{PostAnswers}
use Rattle.session.specs.declared.between.Standing.{Standing}
use Rattle.session.specs.Orders.{meaning, count_of, top_of}
use Rattle.session.proofs.between.Standing.post.Goals as goal

pub returns-in-Drawn-clause-answer : goal.returns-in-Drawn-clause-answer
returns-in-Drawn-clause-answer c =
    subst (λ (s : Standing). PostAnswers (count_of s) (top_of s) (meaning s) c.args.tables.now c.args.location c.args.job c.post.result) (sym c.in-Drawn.is) c.post.ensures.answer

pub returns-in-Rights-clause-answer : goal.returns-in-Rights-clause-answer
returns-in-Rights-clause-answer c =
    subst (λ (s : Standing). PostAnswers (count_of s) (top_of s) (meaning s) c.args.tables.now c.args.location c.args.job c.post-in-Rights.result) (sym c.in-Rights.is) c.post-in-Rights.ensures.answer

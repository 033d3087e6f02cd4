use Rattle.std.proofs.Common.{sym, ap, ◌∙◌}
use Rattle.session.specs.Holding.{admitted}
use Rattle.session.proofs.between.Standing.admit.Goals as goal

pub returns-in-Drawn : goal.returns-in-Drawn
returns-in-Drawn c = record { answer = c.admit.ensures.answer ∙ sym (ap (λ s. admitted s c.args.draft c.args.tables.now) c.in-Drawn.is) }

pub returns-in-Rights : goal.returns-in-Rights
returns-in-Rights c = record { answer = c.admit-in-Rights.ensures.answer ∙ sym (ap (λ s. admitted s c.args.draft c.args.tables.now) c.in-Rights.is) }

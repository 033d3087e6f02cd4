use Rattle.std.proofs.Common.{sym, subst}
use Rattle.replacing.specs.Pasting.{Pasted}
use Rattle.changes.specs.Turns.{Shallow}
use Rattle.changes.proofs.putting.put_content.Goals as goal

pub put-requires-in-Held-clause-shallow : goal.put-requires-in-Held-clause-shallow
put-requires-in-Held-clause-shallow c = subst (λ (p : Pasted). Shallow 1000 p.under) (sym c.at.ensures.answer) (c.requires.shallow c.in-Held.slot)

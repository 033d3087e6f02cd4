use Rattle.changes.specs.Pastes.{pasted_of, held_at}
use Rattle.changes.proofs.Filling.{content_shallow}
use Rattle.changes.proofs.putting.put_line.Goals as goal

pub put-requires-clause-shallow : goal.put-requires-clause-shallow
put-requires-clause-shallow c = content_shallow 1000 (held_at c.args.slots.now) c.requires.shallow c.args.line (pasted_of c.line_content-paste.result) c.line_content-paste.ensures.answer

use Rattle.layout.specs.Held.{in_use}
use Rattle.replacing.specs.Pasting.{given}
use Rattle.changes.specs.Pastes.{held}
use Rattle.changes.proofs.Cutting.{ChangedTo}
use Rattle.changes.proofs.change.Change.apply.Given as goal

abbrev pub invariant-loop-row : goal.invariant-loop-row
invariant-loop-row l = ChangedTo l.flags (given l.self.content (held l.self.slots.now) l.self.own (in_use l.self.templates.now) l.tree) l.tree l.row l.cut l.out

use Rattle.layout.specs.Held.{in_use}
use Rattle.changes.specs.Pastes.{held, held_at}
use Rattle.changes.proofs.Lying.{held_shallow, held_placed}
use Rattle.changes.proofs.change.Change.put_changed.Goals as goal

pub put_content-requires-clause-shallow : goal.put_content-requires-clause-shallow
put_content-requires-clause-shallow c =
    held_shallow (held c.args.self.now.slots.now) c.args.self.now.own c.args.tree.now c.args.row (held_at c.holding-slots.result) c.copy_under-copy.result c.in_use.result.now
    c.holding-slots.ensures.answer c.copy_under-copy.ensures.answer c.in_use.ensures.rows c.requires.near c.requires.shallow

pub returns : goal.returns
returns c = record {
  after = held_placed (held c.args.self.now.slots.now) c.args.self.now.own c.args.tree.now c.args.row (held_at c.holding-slots.result) c.copy_under-copy.result c.in_use.result.now
      c.holding-slots.ensures.answer c.copy_under-copy.ensures.answer c.in_use.ensures.rows (in_use c.args.self.now.templates.now) c.args.self.now.content c.args.out.now _ c.put_content.ensures.after;
}

use Rattle.std.proofs.Common.{ap, ◌∙◌}
use Rattle.layout.specs.Held.{in_use}
use Rattle.layout.specs.Zeros.{line0}
use Rattle.layout.proofs.Pads.{take_pad}
use Rattle.obeying.specs.TreeLaws.{under}
use Rattle.successors.proofs.More.{none_copied, one_copied}
use Rattle.successors.proofs.reading.Reading.copy.Goals as goal

pub returns-in_default : goal.returns-in_default
returns-in_default c = record { after = λ a e. none_copied c.args.scratch.now a c.args.self.now.pattern c.args.tree.now c.args.row c.in_default.not-Tree e }

pub returns-in-Tree : goal.returns-in-Tree
returns-in-Tree c = record {
  after = λ a e. one_copied c.shelve.new.self a c.args.self.now.pattern c.args.tree.now c.args.row c.in-Tree.slot c.in-Tree.policy c.in-Tree.top c.in-Tree.all c.in_use.result.now c.in-Tree.is
      (c.in_use.ensures.rows ∙ ap in_use c.copy_under.ensures.answer ∙ take_pad 128 line0 (under c.args.tree.now c.args.row)) (c.shelve.ensures.after a e);
}

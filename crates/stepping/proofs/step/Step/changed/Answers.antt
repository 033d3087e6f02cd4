use Rattle.layout.specs.Network.{network}
use Rattle.changes.specs.Pastes.{held}
use Rattle.replacing.specs.Holding.{slot_of}
use Rattle.reduction.specs.Values.{tree_of, held_in}
use Rattle.stepping.proofs.Holdings.{slots_shallow, comes_out}
use Rattle.stepping.proofs.step.Step.changed.Goals as goal

pub apply-requires-clause-shallow : goal.apply-requires-clause-shallow
apply-requires-clause-shallow g c =
    slots_shallow (network c.args.self.now.tables.now) c.args.self.now.job c.requires.ground (held c.pastes-slots.result) c.pastes-slots.ensures.held

pub returns : goal.returns
returns g c =
    let n = network c.args.self.now.tables.now in
    record {
      says = comes_out c.args.flags.now c.args.content (held c.pastes-slots.result) (held_in n.plan n.shelf c.args.self.now.job.slots) c.slot_of.result (slot_of c.args.pattern)
          n.plan.templates c.tree.result.now (tree_of n c.args.self.now.job) c.apply.result
          c.pastes-slots.ensures.held c.slot_of.ensures.answer c.tree.ensures.lines c.apply.ensures.says;
    }

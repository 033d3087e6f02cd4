use Rattle.layout.specs.Network.{network}
use Rattle.values.proofs.SixSlots.{each_held}
use Rattle.values.proofs.contents.pastes.Goals as goal

pub returns : goal.returns
returns c = record {
  held = each_held (network c.args.tables.now).plan (network c.args.tables.now).shelf c.args.slots.now c.told-slots
      c.held_in.result c.held_in-2.result c.held_in-3.result c.held_in-4.result c.held_in-5.result c.held_in-6.result
      c.held_in.ensures.answer c.held_in-2.ensures.answer c.held_in-3.ensures.answer c.held_in-4.ensures.answer c.held_in-5.ensures.answer c.held_in-6.ensures.answer;
}

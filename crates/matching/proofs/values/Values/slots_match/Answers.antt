use Rattle.std.proofs.Common.{sym, ◌∙◌, below_more}
use Rattle.layout.specs.Network.{network}
use Rattle.matching.proofs.Slotwise.{slots_next}
use Rattle.matching.proofs.values.Values.slots_match.Goals as goal

pub loop-slot-preserved : goal.loop-slot-preserved
loop-slot-preserved g c = record {
  answer =
      sym (slots_next (g.O.Order.below c.args.self.now.order.now) (network c.args.self.now.tables.now).plan (network c.args.self.now.tables.now).shelf c.args.slots.now c.loop-slot.slot
      c.loop-slot-test.true (sym c.slot_matches.ensures.answer ∙ c.if-not-slot_matches.false))
      ∙ c.loop-slot.invariant.answer;
  says = below_more _ _ c.loop-slot.invariant.says (c.slot_matches.ensures.says.0 c.if-not-slot_matches.false);
}

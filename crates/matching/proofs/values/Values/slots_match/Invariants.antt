use Rattle.std.proofs.Common.{◌≡◌, ℕ, ◌<◌, get_or, drop}
use Rattle.layout.specs.Network.{network}
use Rattle.layout.specs.Zeros.{slot0}
use Rattle.matching.specs.Matching.{SlotMatches, slots_match}
use Rattle.matching.proofs.values.Values.slots_match.Given as goal

abbrev pub invariant-loop-slot : goal.invariant-loop-slot
invariant-loop-slot g l = record {
  answer :
      slots_match (g.O.Order.below l.self.order.now) (network l.self.tables.now).plan (network l.self.tables.now).shelf l.slot (drop l.slot l.slots)
      ≡ slots_match (g.O.Order.below l.self.order.now) (network l.self.tables.now).plan (network l.self.tables.now).shelf 0 l.slots;
  says : (k : ℕ) → k < l.slot → SlotMatches (g.O.Order.below l.self.order.now) (network l.self.tables.now).plan (network l.self.tables.now).shelf k (get_or l.slots k slot0);
}

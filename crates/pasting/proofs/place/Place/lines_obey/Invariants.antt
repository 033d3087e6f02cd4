use Rattle.std.proofs.Common.{◌≡◌, ℕ, ◌<◌, true, take}
use Rattle.std.specs.List.{list_all}
use Rattle.layout.specs.Network.{network}
use Rattle.obeying.specs.Rules.{line}
use Rattle.pasting.specs.Words.{LineObeys}
use Rattle.pasting.specs.Tests.{line_obeys}
use Rattle.pasting.proofs.place.Place.lines_obey.Given as goal

abbrev pub invariant-loop-line : goal.invariant-loop-line
invariant-loop-line g l = record {
  answer : list_all (line_obeys (g.O.Order.below l.self.order.now) (network l.self.tables.now).plan l.self.policy l.above l.self.slots.now) (take l.line-index l.tree) ≡ true;
  says : (k : ℕ) → k < l.line-index → LineObeys (g.O.Order.below l.self.order.now) (network l.self.tables.now).plan l.self.policy l.above l.self.slots.now (line l.tree k);
}

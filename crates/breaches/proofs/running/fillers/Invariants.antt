use Rattle.std.proofs.Common.{◌≡◌, map, take, length}
use Rattle.layout.specs.declared.memory.Slot.{Slot}
use Rattle.breaches.proofs.running.fillers.Given as goal

abbrev pub invariant-loop-slot : goal.invariant-loop-slot
invariant-loop-slot l = record {
  filled : take l.slot l.fillers ≡ map (λ (x : Slot). x.pattern) (take l.slot l.slots);
  long : length l.fillers ≡ 6;
}

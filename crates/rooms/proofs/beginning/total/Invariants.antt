use Rattle.std.proofs.Common.{◌≡◌, ◌-◌, ◌^◌, min, take}
use Rattle.rooms.specs.Leaving.{total}
use Rattle.rooms.proofs.beginning.total.Given as goal

abbrev pub invariant-loop-length : goal.invariant-loop-length
invariant-loop-length l = l.sum ≡ min (total (take l.length-index l.lengths)) (2 ^ 64 - 1)

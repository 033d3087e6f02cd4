use Rattle.std.proofs.Common.{◌≡◌, take}
use Rattle.layout.specs.Held.{held}
use Rattle.layout.specs.Zeros.{running0}
use Rattle.rooms.specs.Leaving.{without}
use Rattle.rooms.proofs.leaving.left.Given as goal

-- the jobs so far, but for the one at the place
abbrev pub invariant-loop-k : goal.invariant-loop-k
invariant-loop-k l = l.left ≡ held 64 running0 (without l.place (take l.k l.job-items))

use Rattle.std.proofs.Common.{◌≡◌, ℕ, ◌<◌, length, get_or}
use Rattle.layout.specs.Zeros.{no_running}
use Rattle.layout.proofs.sizing.running.Given as goal

abbrev pub invariant-loop-job : goal.invariant-loop-job
invariant-loop-job l = (k : ℕ) → k < l.job-index → length (get_or l.jobs k no_running).slots ≡ 6

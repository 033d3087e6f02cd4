use Rattle.std.proofs.Common.{◌≡◌, ◌≤◌, ◌++◌, drop, length}
use Rattle.layout.specs.Held.{in_use}
use Rattle.reduction.specs.Values.{path_steps}
use Rattle.values.proofs.operands.path_steps.Given as goal

abbrev pub invariant-loop-step : goal.invariant-loop-step
invariant-loop-step l = record {
  steps : in_use l.own ++ path_steps (drop l.step-index l.step-items) l.path ≡ path_steps (in_use l.steps) l.path;
  room : l.own.count ≤ l.step-index;
  long : length l.own.rows ≡ 256;
}

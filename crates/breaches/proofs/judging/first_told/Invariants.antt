use Rattle.std.proofs.Common.{◌≡◌, ℕ, ◌<◌, Some, slice_get, drop}
use Rattle.breaches.specs.Told.{first_told}
use Rattle.breaches.proofs.judging.first_told.Given as goal

abbrev pub invariant-loop-row : goal.invariant-loop-row
invariant-loop-row g l = record {
  answer : first_told (g.J.Judge.told l.judge) l.row (drop l.row l.rows) ≡ first_told (g.J.Judge.told l.judge) 0 l.rows;
  clear : (k : ℕ) (x : _) → k < l.row → slice_get l.rows k ≡ Some x → g.J.Judge.clear l.judge k x;
}

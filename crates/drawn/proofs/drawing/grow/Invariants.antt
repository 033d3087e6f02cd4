use Rattle.std.proofs.Common.{◌≡◌, ℕ, ◌<◌, ◌≤◌, length, get_or}
use Rattle.drawn.specs.Pairs.{grown_row}
use Rattle.drawn.proofs.drawing.grow.Given as goal

abbrev pub invariant-loop-row : goal.invariant-loop-row
invariant-loop-row l =
    (length l.row-items ≡ 32)
    × ((k : ℕ) → k < l.row-index → get_or l.row-items k 0 ≡ grown_row l.rows l.a l.b k)
    × ((k : ℕ) → l.row-index ≤ k → get_or l.row-items k 0 ≡ get_or l.rows k 0)

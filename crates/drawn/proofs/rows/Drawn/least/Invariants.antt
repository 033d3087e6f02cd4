use Rattle.std.proofs.Common.{◌≡◌, ℕ, ◌<◌, true, get_or}
use Rattle.drawn.specs.Rows.{rows_below}
use Rattle.drawn.proofs.Joins.{Contained}
use Rattle.drawn.proofs.rows.Drawn.least.Given as goal

abbrev pub invariant-loop-pair : goal.invariant-loop-pair
invariant-loop-pair l =
    Contained l.pairs (rows_below l.order.rows)
    × ((k : ℕ) → k < l.pair-index → rows_below l.order.rows (get_or l.pairs k (0, 0)).0 (get_or l.pairs k (0, 0)).1 ≡ true)

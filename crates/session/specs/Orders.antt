-- The order in force.
use Rattle.std.specs.Prelude.{ℕ, Bool}
use Rattle.drawn.specs.Rows.{rows_below}
use Rattle.rights.specs.Bringing.{rights_below}
use Rattle.session.specs.declared.between.Standing.{Standing}
use Rattle.session.specs.declared.between.Standing.TheVariants as standing

-- what it means
abbrev pub meaning : Standing → ℕ → ℕ → Bool
meaning (standing.Drawn o) = rows_below o.rows
meaning (standing.Rights o) = rights_below

-- how many roles there are, and which is the top
abbrev pub count_of : Standing → ℕ
count_of (standing.Drawn o) = 32
count_of (standing.Rights o) = 64

abbrev pub top_of : Standing → ℕ
top_of (standing.Drawn o) = 0
top_of (standing.Rights o) = 63

-- An order as 32 rows: row a is the set of the roles that role a is at or below.
use Rattle.std.specs.Prelude.{ℕ, Bool, ◌&&◌, List, nat_lt, slice_index}
use Rattle.order.specs.RoleSets.{has}

unfoldable pub rows_below : List ℕ → ℕ → ℕ → Bool
rows_below rows a b = nat_lt a 32 && (nat_lt b 32 && has (slice_index rows a) b)

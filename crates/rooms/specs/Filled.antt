-- Rows that may be more than a table has room for.
use Rattle.std.specs.Prelude.{ℕ, true, cond, List, [], ◌∷◌, length, take, nat_lt}
use Rattle.layout.specs.Held.{held, pushed}
use Rattle.rooms.specs.declared.filled.Filled.{Filled}

-- as many of these rows as there is room for, zero rows behind them, and whether there are more
abbrev pub filled_of : {X : Type 0} {n : ℕ} → ℕ → X → List X → Filled X n
filled_of room zero rows = record { table = held room zero (take room rows); over = nat_lt room (length rows) }

-- one row more: it is written while there is room, and else that is noted
unfoldable pub added : {X : Type 0} {n : ℕ} → ℕ → Filled X n → X → Filled X n
added room f x = record { table = cond (nat_lt f.table.count room) (pushed f.table x) f.table; over = cond (nat_lt f.table.count room) f.over true }

abbrev pub added_all : {X : Type 0} {n : ℕ} → ℕ → Filled X n → List X → Filled X n
added_all room f [] = f
added_all room f (x ∷ xs) = added_all room (added room f x) xs

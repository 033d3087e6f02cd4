-- A list of rows in an array of fixed size: the rows in use first, then zero rows.
use Rattle.std.specs.Prelude.{ℕ, ◌+◌, ◌-◌, List, ◌++◌, length, take, replicate, slice_set}
use Rattle.layout.specs.declared.held.Table.{Table}

-- the rows, and then zero rows up to the limit
abbrev pub pad : {X : Type 0} → ℕ → X → List X → List X
pad limit zero xs = xs ++ replicate (limit - length xs) zero

-- a table that holds these rows
abbrev pub held : {X : Type 0} {n : ℕ} → ℕ → X → List X → Table X n
held limit zero xs = record { count = length xs; rows = pad limit zero xs }

-- the rows in use
abbrev pub in_use : {X : Type 0} {n : ℕ} → Table X n → List X
in_use t = take t.count t.rows

-- one row more behind the last
abbrev pub pushed : {X : Type 0} {n : ℕ} → Table X n → X → Table X n
pushed t x = record { count = t.count + 1; rows = slice_set t.rows t.count x }

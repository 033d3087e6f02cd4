-- The rows of a tree that are flagged, in tree order.
use Rattle.std.specs.Prelude.{ℕ, ◌+◌, Bool, cond, List, [], ◌∷◌, length}

-- the rows whose flags are set, where the flags begin at this row
abbrev pub rows_from : ℕ → List Bool → List ℕ
rows_from row [] = []
rows_from row (flag ∷ flags) = cond flag (row ∷ rows_from (row + 1) flags) (rows_from (row + 1) flags)

abbrev pub flagged_rows : List Bool → List ℕ
flagged_rows flags = rows_from 0 flags

-- how many they are
abbrev pub flagged_count : List Bool → ℕ
flagged_count flags = length (flagged_rows flags)

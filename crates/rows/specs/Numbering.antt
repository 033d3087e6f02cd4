-- Rows of things that are numbered on from 0.
use Rattle.std.specs.Prelude.{ℕ, ◌+◌, Some, None, Option}

-- one more than the number of the last row; 0 where there is none
abbrev pub next_number : {X : Type 0} → (X → ℕ) → Option X → ℕ
next_number number None = 0
next_number number (Some row) = number row + 1

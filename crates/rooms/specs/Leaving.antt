-- What is there when a step begins: a running job leaves the list, and later ones close up.
use Rattle.std.specs.Prelude.{ℕ, zero, suc, ◌+◌, List, [], ◌∷◌, slice_index_or}
use Rattle.layout.specs.Network.{Network}
use Rattle.rooms.specs.Rooms.{Aftermath}

-- the rows but for the one at this place, if there is one
abbrev pub without : {X : Type 0} → ℕ → List X → List X
without place [] = []
without zero (x ∷ xs) = xs
without (suc place) (x ∷ xs) = x ∷ without place xs

-- how many lines trees of these lengths have together
abbrev pub total : List ℕ → ℕ
total [] = 0
total (n ∷ ns) = n + total ns

-- without the job at this place, where nothing else has changed
abbrev pub begun : Network → ℕ → ℕ → Aftermath
begun n place location = record { running = without place n.running; shelf = n.shelf; tree = slice_index_or n.trees location [] }

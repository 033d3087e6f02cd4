-- What is there with more running jobs, and more trees on the shelf.
use Rattle.std.specs.Prelude.{◌≡◌, ℕ, ◌≤◌, Bool, false, List, ◌++◌, length, slice_index_or}
use Rattle.layout.specs.declared.memory.RunningRow.{RunningRow}
use Rattle.layout.specs.Network.{TreeLines}
use Rattle.rooms.specs.Rooms.{Aftermath}

-- these jobs are the last of the running ones
unfoldable pub with_jobs : Aftermath → List RunningRow → Aftermath
with_jobs a jobs = record { running = a.running ++ jobs; shelf = a.shelf; tree = a.tree }

-- and these trees the last on the shelf
unfoldable pub with_copies : Aftermath → List RunningRow → List TreeLines → Aftermath
with_copies a jobs copies = record { running = a.running ++ jobs; shelf = a.shelf ++ copies; tree = a.tree }

-- flags of a tree's lines: no other is set
abbrev pub FlagsOf : TreeLines → List Bool → Type 0
FlagsOf tree flags = (i : ℕ) → length tree ≤ i → slice_index_or flags i false ≡ false

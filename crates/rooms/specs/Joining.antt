-- What a step adds to what is there when it begins.
use Rattle.std.specs.Prelude.{[], ◌∷◌, ◌++◌}
use Rattle.layout.specs.declared.memory.RunningRow.{RunningRow}
use Rattle.layout.specs.Network.{TreeLines}
use Rattle.rooms.specs.Rooms.{Aftermath}

-- one running job more, the last
abbrev pub joined_by : Aftermath → RunningRow → Aftermath
joined_by a job = record { running = a.running ++ (job ∷ []); shelf = a.shelf; tree = a.tree }

-- one shelved tree more, the last
abbrev pub shelved : Aftermath → TreeLines → Aftermath
shelved a tree = record { running = a.running; shelf = a.shelf ++ (tree ∷ []); tree = a.tree }

-- another tree at the location
abbrev pub with_tree : Aftermath → TreeLines → Aftermath
with_tree a tree = record { running = a.running; shelf = a.shelf; tree = tree }

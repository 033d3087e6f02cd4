-- What the operands and the slots of a running job name.
use Rattle.std.specs.Prelude.{ℕ, ◌+◌, cond, List, [], ◌∷◌, Some, None, Option, ◌==◌, slice_index_or}
use Rattle.rows.specs.declared.row.PathStepRow.{PathStepRow}
use Rattle.layout.specs.declared.memory.Slot.{Slot}
use Rattle.layout.specs.declared.memory.RunningRow.{RunningRow}
use Rattle.layout.specs.Network.{TreeLines, Plan, Network}
use Rattle.layout.specs.Zeros.{slot0, no_running}
use Rattle.meaning.specs.declared.verbs.Operand.{Operand}
use Rattle.meaning.specs.declared.verbs.Operand.TheVariants as operand
use Rattle.slots.specs.declared.part.Part.{Part}
use Rattle.slots.specs.declared.part.Part.TheVariants as part
use Rattle.slots.specs.Slots.{part_by}
use Rattle.replacing.specs.Pasting.{Pasted, plain}

-- the running job at a position
abbrev pub job_at : Network → ℕ → RunningRow
job_at n position = slice_index_or n.running position no_running

-- the tree of the job's location
abbrev pub tree_of : Network → RunningRow → TreeLines
tree_of n r = slice_index_or n.trees r.location []

abbrev pub slot_at : List Slot → ℕ → Slot
slot_at slots slot = slice_index_or slots slot slot0

-- the row that an operand names, itself or by what a slot holds
abbrev pub named : List Slot → Operand → ℕ
named slots (operand.Row row) = row
named slots (operand.Slot slot) = (slot_at slots slot).value

-- ---- paths

-- the steps of a path, from the root down
abbrev pub path_steps : List PathStepRow → ℕ → List PathStepRow
path_steps [] path = []
path_steps (x ∷ xs) path = cond (x.path == path) (x ∷ path_steps xs path) (path_steps xs path)

-- the path that an operand names
abbrev pub path_of : Plan → RunningRow → Operand → List PathStepRow
path_of p r path = path_steps p.steps (named r.slots path)

-- ---- contents

-- what a slot holds as the content of an edge, by the part of the pattern that filled it, its value, and that of the next slot: a
-- location makes a pointer with the path in the next slot, and a shelved tree lies under the edge. A path alone, and an empty slot,
-- are no content
abbrev pub held_as : List TreeLines → Option Part → ℕ → ℕ → Pasted
held_as shelf None value next = plain 0 0 0
held_as shelf (Some part.Number) value next = plain 1 value 0
held_as shelf (Some (part.Script policy)) value next = plain 2 value 0
held_as shelf (Some (part.Place policy)) value next = plain 3 next value
held_as shelf (Some (part.Route last)) value next = plain 0 0 0
held_as shelf (Some (part.Tree policy top all)) value next = record { content = 0; first = 0; second = 0; under = slice_index_or shelf value [] }

-- the part that lies in a slot
abbrev pub part_of : Plan → List Slot → ℕ → Option Part
part_of p slots slot = part_by p.patterns (slot_at slots slot).pattern slot

abbrev pub held_in : Plan → List TreeLines → List Slot → ℕ → Pasted
held_in p shelf slots slot = held_as shelf (part_of p slots slot) (slot_at slots slot).value (slot_at slots (slot + 1)).value

-- What a read's pattern puts into the slots of a job.
use Rattle.std.specs.Prelude.{ℕ, ◌+◌, List, slice_set}
use Rattle.rows.specs.declared.row.TreeLine.{TreeLine}
use Rattle.layout.specs.declared.memory.Slot.{Slot}
use Rattle.meaning.specs.declared.patterns.Pattern.{Pattern}
use Rattle.meaning.specs.declared.patterns.Pattern.TheVariants as pattern

-- a slot that the pattern of this row filled with a value
abbrev pub filled_with : ℕ → ℕ → Slot
filled_with row value = record { pattern = row + 1; value = value }

-- the slots after the pattern of this row has matched an edge: a number, or the job of a script; a pointer's location, and in the next
-- slot its path; of a tree the number that it has on the shelf. The other slots stay as they are
abbrev pub filled_slots : Pattern → ℕ → TreeLine → ℕ → List Slot → List Slot
filled_slots (pattern.Number slot) row x number slots = slice_set slots slot (filled_with row x.first)
filled_slots (pattern.Script slot policy) row x number slots = slice_set slots slot (filled_with row x.first)
filled_slots (pattern.Pointer slot policy last) row x number slots = slice_set (slice_set slots slot (filled_with row x.second)) (slot + 1) (filled_with row x.first)
filled_slots (pattern.Tree slot policy top all) row x number slots = slice_set slots slot (filled_with row number)

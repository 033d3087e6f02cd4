-- What slots hold. Only which pattern filled a slot is known of it here, so a list of six numbers says it: 0 for an empty slot,
-- or the pattern's row and 1. Which part of the pattern lies in the slot follows from the pattern and the slot.
use Rattle.std.specs.Prelude.{ℕ, ◌+◌, ◌-◌, cond, List, Some, None, Option, ◌==◌, slice_index, slice_index_or, slice_set}
use Rattle.rows.specs.declared.row.PatternRow.{PatternRow}
use Rattle.layout.specs.Zeros.{pattern0}
use Rattle.meaning.specs.declared.patterns.Pattern.{Pattern}
use Rattle.meaning.specs.declared.patterns.Pattern.TheVariants as pattern
use Rattle.meaning.specs.Decoding.{when, then_some, pattern_of}
use Rattle.slots.specs.declared.part.Part.{Part}
use Rattle.slots.specs.declared.part.Part.TheVariants as part

-- the pattern of this row, if it means one; a row that is not there means none
abbrev pub pattern_at : List PatternRow → ℕ → Option Pattern
pattern_at patterns row = pattern_of (slice_index_or patterns row pattern0)

-- the part of the pattern that lies in this slot
abbrev pub part_in : Pattern → ℕ → Option Part
part_in (pattern.Number own) slot = when (slot == own) part.Number
part_in (pattern.Script own policy) slot = when (slot == own) (part.Script policy)
part_in (pattern.Pointer own policy last) slot = cond (slot == own) (Some (part.Place policy)) (when (slot == own + 1) (part.Route last))
part_in (pattern.Tree own policy top all) slot = when (slot == own) (part.Tree policy top all)

-- the part that a slot holds by the number that says how it was filled
abbrev pub part_by : List PatternRow → ℕ → ℕ → Option Part
part_by patterns filler slot = cond (filler == 0) None (then_some (pattern_at patterns (filler - 1)) (λ p. part_in p slot))

abbrev pub part_at : List PatternRow → List ℕ → ℕ → Option Part
part_at patterns slots slot = part_by patterns (slice_index slots slot) slot

-- ---- filling

-- the slots with those of the pattern filled by this number
abbrev pub filled_by : Option Pattern → ℕ → List ℕ → List ℕ
filled_by None filler slots = slots
filled_by (Some (pattern.Number own)) filler slots = slice_set slots own filler
filled_by (Some (pattern.Script own policy)) filler slots = slice_set slots own filler
filled_by (Some (pattern.Pointer own policy last)) filler slots = slice_set (slice_set slots own filler) (own + 1) filler
filled_by (Some (pattern.Tree own policy top all)) filler slots = slice_set slots own filler

-- the slots after the pattern of this row has filled its own
abbrev pub filled : List PatternRow → List ℕ → ℕ → List ℕ
filled patterns slots row = filled_by (pattern_at patterns row) (row + 1) slots

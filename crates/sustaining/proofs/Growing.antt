-- Slots that still stand where more trees are shelved.
use Rattle.std.proofs.Common.{ℕ, ◌-◌, ◌≤◌, List, get_or, Some, None, Option, arith}
use Rattle.rows.specs.declared.row.PatternRow.{PatternRow}
use Rattle.layout.specs.declared.memory.Slot.{Slot}
use Rattle.layout.specs.Zeros.{pattern0}
use Rattle.meaning.specs.declared.patterns.Pattern.{Pattern}
use Rattle.meaning.specs.declared.patterns.Pattern.TheVariants as pattern
use Rattle.meaning.specs.Decoding.{pattern_of}
use Rattle.standing.specs.declared.sizes.Sizes.{Sizes}
use Rattle.standing.specs.Words.{Means, PartStands, SlotStands}
use Rattle.standing.specs.Words.SlotStands.{none, filled}
use Rattle.reduction.specs.Soundness.{with_shelf}

module _ (s : Sizes) (trees : ℕ) (more : s.shelf ≤ trees) where
  part_grows : (m : Pattern) (slot value : ℕ) → PartStands s m slot value → PartStands (with_shelf s trees) m slot value
  part_grows (pattern.Number own) slot value w = w
  part_grows (pattern.Script own policy) slot value w = w
  part_grows (pattern.Pointer own policy last) slot value w = w
  part_grows (pattern.Tree own policy top all) slot value w = (w.0, omega (arith, w.1))

  means_grows : (o : Option Pattern) (slot value : ℕ) → Means o (λ m. PartStands s m slot value) → Means o (λ m. PartStands (with_shelf s trees) m slot value)
  means_grows None slot value w = w
  means_grows (Some m) slot value w = part_grows m slot value w

  pub slot_grows : (patterns : List PatternRow) (slot : ℕ) (x : Slot) → SlotStands s patterns slot x → SlotStands (with_shelf s trees) patterns slot x
  slot_grows patterns slot x (none e f) = none e f
  slot_grows patterns slot x (filled h l m) = filled h l (means_grows (pattern_of (get_or patterns (x.pattern - 1) pattern0)) slot x.value m)

-- What slots hold, where each holds what the pattern that filled it says.
use Rattle.std.specs.Prelude.{◌≡◌, ℕ, ◌+◌, ◌<◌, Bool, List, Some, None, Option}
use Rattle.layout.specs.Network.{TreeLines, Plan}
use Rattle.meaning.specs.declared.patterns.Pattern.{Pattern}
use Rattle.meaning.specs.declared.patterns.Pattern.TheVariants as pattern
use Rattle.obeying.specs.Rules.{Matches}
use Rattle.slots.specs.declared.part.Part.{Part}
use Rattle.slots.specs.declared.part.Part.TheVariants as part
use Rattle.slots.specs.Slots.{part_at}
use Rattle.pasting.specs.Words.{least_of, IsRoute}
use Rattle.standing.specs.declared.sizes.Sizes.{Sizes}
use Rattle.edges.specs.Matching.{JobOf}
use Rattle.replacing.specs.Pasting.{Pasted, plain}
use Rattle.replacing.specs.Sound.{Sound}

module _ (below : ℕ → ℕ → Bool) (s : Sizes) (p : Plan) where
  -- by the part of a pattern that a slot was filled with, and that of the next slot: a number; a script of the policy; with a path in
  -- the next slot, a pointer to what exists; a tree that is sound at the policy, and that the pattern matches
  abbrev pub HoldsPart : Option Part → Option Part → Pasted → Type 0
  HoldsPart None next x = Unit {0}
  HoldsPart (Some part.Number) next x = (n : ℕ) × (x ≡ plain 1 n 0)
  HoldsPart (Some (part.Script policy)) next x = (job : ℕ) × (x ≡ plain 2 job 0) × JobOf p policy job
  HoldsPart (Some (part.Place policy)) next x = IsRoute next → (path : ℕ) × (location : ℕ) × (x ≡ plain 3 path location) × (path < s.paths) × (location < s.locations)
  HoldsPart (Some (part.Route last)) next x = Unit {0}
  HoldsPart (Some (part.Tree policy top all)) next x =
      (tree : TreeLines) × (x ≡ record { content = 0; first = 0; second = 0; under = tree }) × Sound below s (least_of p policy) p.jobs policy tree
      × Matches below (least_of p policy) p.jobs policy top all tree

  abbrev pub Holds : List ℕ → (ℕ → Pasted) → Type 0
  Holds slots hold = (k : ℕ) → HoldsPart (part_at p.patterns slots k) (part_at p.patterns slots (k + 1)) (hold k)

-- the slot that a pattern fills, the first of two where it is a pointer's
abbrev pub slot_of : Pattern → ℕ
slot_of (pattern.Number slot) = slot
slot_of (pattern.Script slot policy) = slot
slot_of (pattern.Pointer slot policy last) = slot
slot_of (pattern.Tree slot policy top all) = slot

-- the slots that a pattern may fill: one of six, and two of them for a pointer
abbrev pub InSlots : Pattern → Type 0
InSlots (pattern.Number slot) = slot < 6
InSlots (pattern.Script slot policy) = slot < 6
InSlots (pattern.Pointer slot policy last) = slot < 5
InSlots (pattern.Tree slot policy top all) = slot < 6

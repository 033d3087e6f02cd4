-- Whether a filled slot's value matches its part of the pattern that filled it. First in words, then as a test that computes.
use Rattle.std.specs.Prelude.{◌≡◌, ℕ, ◌+◌, ◌<◌, Bool, true, false, ◌&&◌, List, [], ◌∷◌, get_or, length, Some, None, Option, ◌==◌, nat_lt, slice_index_or}
use Rattle.rows.specs.declared.row.LocationRow.{LocationRow}
use Rattle.layout.specs.declared.memory.Slot.{Slot}
use Rattle.layout.specs.Network.{TreeLines, Plan}
use Rattle.layout.specs.Zeros.{location0, job0, slot0}
use Rattle.obeying.specs.Rules.{Matches}
use Rattle.obeying.specs.Breaches.{tree_matches}
use Rattle.slots.specs.declared.part.Part.{Part}
use Rattle.slots.specs.declared.part.Part.TheVariants as part
use Rattle.slots.specs.Slots.{part_by}
use Rattle.slots.specs.Operands.{last_set}
use Rattle.pasting.specs.Words.{least_of}
use Rattle.pasting.specs.Tests.{has_job}

-- the policy of a location
abbrev pub policy_at : Plan → ℕ → ℕ
policy_at p location = (slice_index_or p.locations location location0).policy

-- a number matches any number; a script's job and a location are of the policy, a path has the last set, and a shelved tree
-- matches the tree pattern
abbrev pub ValueMatches : (ℕ → ℕ → Bool) → Plan → List TreeLines → Option Part → ℕ → Type 0
ValueMatches below p shelf None value = Unit {0}
ValueMatches below p shelf (Some part.Number) value = Unit {0}
ValueMatches below p shelf (Some (part.Script policy)) value = (value < length p.jobs) × ((get_or p.jobs value job0).policy ≡ policy)
ValueMatches below p shelf (Some (part.Place policy)) value = (value < length p.locations) × (policy_at p value ≡ policy)
ValueMatches below p shelf (Some (part.Route last)) value = last_set p.steps value ≡ Some last
ValueMatches below p shelf (Some (part.Tree policy top all)) value =
    (value < length shelf) × Matches below (least_of p policy) p.jobs policy top all (slice_index_or shelf value [])

-- the slot of this number holds what its part asks; an empty slot has no part
abbrev pub SlotMatches : (ℕ → ℕ → Bool) → Plan → List TreeLines → ℕ → Slot → Type 0
SlotMatches below p shelf slot x = ValueMatches below p shelf (part_by p.patterns x.pattern slot) x.value

-- every filled slot matches
abbrev pub SlotsMatch : (ℕ → ℕ → Bool) → Plan → List TreeLines → List Slot → Type 0
SlotsMatch below p shelf slots = (k : ℕ) → k < length slots → SlotMatches below p shelf k (slice_index_or slots k slot0)

-- ---- the tests

abbrev pub has_place : List LocationRow → ℕ → ℕ → Bool
has_place locations policy location = nat_lt location (length locations) && (slice_index_or locations location location0).policy == policy

-- the path is there, and this is its last set
abbrev pub is_set : Option ℕ → ℕ → Bool
is_set None last = false
is_set (Some set) last = set == last

-- the shelved tree is there, and matches the pattern
unfoldable pub is_tree : (ℕ → ℕ → Bool) → Plan → List TreeLines → ℕ → ℕ → ℕ → ℕ → Bool
is_tree below p shelf policy top all tree =
    nat_lt tree (length shelf) && tree_matches below (least_of p policy) p.jobs policy top all (slice_index_or shelf tree [])

abbrev pub value_matches : (ℕ → ℕ → Bool) → Plan → List TreeLines → Option Part → ℕ → Bool
value_matches below p shelf None value = true
value_matches below p shelf (Some part.Number) value = true
value_matches below p shelf (Some (part.Script policy)) value = has_job p.jobs policy value
value_matches below p shelf (Some (part.Place policy)) value = has_place p.locations policy value
value_matches below p shelf (Some (part.Route last)) value = is_set (last_set p.steps value) last
value_matches below p shelf (Some (part.Tree policy top all)) value = is_tree below p shelf policy top all value

abbrev pub slot_matches : (ℕ → ℕ → Bool) → Plan → List TreeLines → ℕ → Slot → Bool
slot_matches below p shelf slot x = value_matches below p shelf (part_by p.patterns x.pattern slot) x.value

-- those of these slots, numbered from `slot` on
abbrev pub slots_match : (ℕ → ℕ → Bool) → Plan → List TreeLines → ℕ → List Slot → Bool
slots_match below p shelf slot [] = true
slots_match below p shelf slot (x ∷ xs) = slot_matches below p shelf slot x && slots_match below p shelf (slot + 1) xs

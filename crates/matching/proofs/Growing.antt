-- A shelf that grows, and slots that are empty.
use Rattle.std.proofs.Common.{◌≡◌, ℕ, zero, suc, Bool, List, [], ◌++◌, get_or, replicate, Some, None, Option, refl, sym, subst, arith}
use Rattle.std.proofs.lemmas.List.{length-append, get_or_append_left}
use Rattle.layout.specs.declared.memory.Slot.{Slot}
use Rattle.layout.specs.Network.{TreeLines, Plan}
use Rattle.layout.specs.Zeros.{slot0}
use Rattle.obeying.specs.Rules.{Matches}
use Rattle.slots.specs.declared.part.Part.{Part}
use Rattle.slots.specs.declared.part.Part.TheVariants as part
use Rattle.slots.specs.Slots.{part_by}
use Rattle.pasting.specs.Words.{least_of}
use Rattle.matching.specs.Matching.{ValueMatches, SlotMatches, SlotsMatch}

pub value_grows : (below : ℕ → ℕ → Bool) (p : Plan) (shelf more : List TreeLines) (held : Option Part) (value : ℕ) → ValueMatches below p shelf held value → ValueMatches below p (shelf ++ more) held value
value_grows below p shelf more None value w = w
value_grows below p shelf more (Some part.Number) value w = w
value_grows below p shelf more (Some (part.Script policy)) value w = w
value_grows below p shelf more (Some (part.Place policy)) value w = w
value_grows below p shelf more (Some (part.Route last)) value w = w
value_grows below p shelf more (Some (part.Tree policy top all)) value w = (
  omega (arith, w.0, length-append shelf more),
  subst (Matches below (least_of p policy) p.jobs policy top all) (sym (get_or_append_left shelf more [] value w.0)) w.1,
)

pub slots_grow : (below : ℕ → ℕ → Bool) (p : Plan) (shelf more : List TreeLines) (slots : List Slot) → SlotsMatch below p shelf slots → SlotsMatch below p (shelf ++ more) slots
slots_grow below p shelf more slots w k h = value_grows below p shelf more (part_by p.patterns (get_or slots k slot0).pattern k) (get_or slots k slot0).value (w k h)

empty_at : (n k : ℕ) → get_or (replicate n slot0) k slot0 ≡ slot0
empty_at zero k = refl
empty_at (suc n) zero = refl
empty_at (suc n) (suc k) = empty_at n k

pub empty : (below : ℕ → ℕ → Bool) (p : Plan) (shelf : List TreeLines) (n : ℕ) → SlotsMatch below p shelf (replicate n slot0)
empty below p shelf n k h = subst (SlotMatches below p shelf k) (sym (empty_at n k)) tt

-- What the layers above may use of filled slots, for every order of roles.
use Rattle.std.specs.Prelude.{ℕ, Bool, List, ◌++◌, replicate, Option}
use Rattle.layout.specs.declared.memory.Slot.{Slot}
use Rattle.layout.specs.Network.{TreeLines, Plan}
use Rattle.layout.specs.Zeros.{slot0}
use Rattle.slots.specs.declared.part.Part.{Part}
use Rattle.matching.specs.Matching.{ValueMatches, SlotsMatch}

pub record MatchingLaws : Type 0 where
  -- what matches goes on matching when trees are put on the shelf behind those that are there
  pub value_grows : (below : ℕ → ℕ → Bool) (p : Plan) (shelf more : List TreeLines) (held : Option Part) (value : ℕ)
      → ValueMatches below p shelf held value → ValueMatches below p (shelf ++ more) held value
  pub slots_grow : (below : ℕ → ℕ → Bool) (p : Plan) (shelf more : List TreeLines) (slots : List Slot)
      → SlotsMatch below p shelf slots → SlotsMatch below p (shelf ++ more) slots
  -- empty slots match
  pub empty : (below : ℕ → ℕ → Bool) (p : Plan) (shelf : List TreeLines) (n : ℕ) → SlotsMatch below p shelf (replicate n slot0)

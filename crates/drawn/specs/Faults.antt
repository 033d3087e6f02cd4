-- What a refused draw tells.
use Rattle.std.specs.Prelude.{◌≡◌, ℕ, List, [], ◌∷◌, ◌++◌, codes, decimal}
use Rattle.order.specs.Refusals.{Refusal}
use Rattle.drawn.specs.declared.drawing.DrawFault.{DrawFault}
use Rattle.drawn.specs.Draws.{FirstUnknown}

-- 12: a code above 31, told by the place of the first pair that has one
abbrev pub refusal : DrawFault → Refusal
refusal fault = record { number = 12; values = fault.pair ∷ [] }

-- these pairs are refused, and this is told
abbrev pub Refused : List (ℕ × ℕ) → Refusal → Type 0
Refused pairs told = (k : ℕ) × FirstUnknown pairs k × (told ≡ record { number = 12; values = k ∷ [] })

-- the same for a person
abbrev pub fault_text : DrawFault → List ℕ
fault_text fault = codes "pair " ++ (decimal fault.pair ++ codes " has a code that is no role")

-- What a fault tells: its number, the table, the row and the rule; 0 stands for shape.
use Rattle.std.specs.Prelude.{ℕ, List, [], ◌∷◌, ◌++◌, codes}
use Rattle.std.specs.Fmt.{decimal}
use Rattle.order.specs.Refusals.{Refusal}
use Rattle.layout.specs.Kinds as kinds
use Rattle.breaches.specs.Rules as rules
use Rattle.rules.specs.declared.fault.Fault.{Fault}
use Rattle.rules.specs.declared.fault.Fault.TheVariants.{Shape, Rule}

abbrev pub refusal : Fault → Refusal
refusal (Shape place) = record { number = 6; values = kinds.number_of place.table ∷ place.row ∷ 0 ∷ [] }
refusal (Rule breach) = record { number = 7; values = kinds.number_of breach.table ∷ breach.row ∷ rules.number_of breach.rule ∷ [] }

-- a fault in words
abbrev pub fault_words : Fault → List ℕ
fault_words (Shape place) = codes "table " ++ (decimal (kinds.number_of place.table) ++ (codes " row " ++ (decimal place.row ++ codes ": out of shape")))
fault_words (Rule breach) =
    codes "table " ++ (decimal (kinds.number_of breach.table) ++ (codes " row " ++ (decimal breach.row ++ (codes ": breaks rule " ++ decimal (rules.number_of breach.rule)))))

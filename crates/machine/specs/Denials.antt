-- What a denial tells: its number, and what says where. Of what is missing 0 stands for the position, 1 for the location and 2
-- for the job.
use Rattle.std.specs.Prelude.{ℕ, List, [], ◌∷◌, ◌++◌, codes}
use Rattle.std.specs.Fmt.{decimal}
use Rattle.order.specs.Refusals.{Refusal}
use Rattle.layout.specs.declared.kind.TableKind.TheVariants as kind
use Rattle.layout.specs.Kinds as kinds
use Rattle.commands.specs.declared.rule.CommandRule.TheVariants as rule
use Rattle.commands.specs.Rules as rules
use Rattle.rooms.specs.Rooms as rooms
use Rattle.machine.specs.declared.denial.Missing.{Missing}
use Rattle.machine.specs.declared.denial.Missing.TheVariants as missing
use Rattle.machine.specs.declared.denial.Denial.{Denial}
use Rattle.machine.specs.declared.denial.Denial.TheVariants as denial

abbrev pub missing_number : Missing → ℕ
missing_number missing.Position = 0
missing_number missing.Location = 1
missing_number missing.Job = 2

abbrev pub refusal : Denial → Refusal
refusal (denial.Shape place) = record { number = 11; values = kinds.number_of place.table ∷ place.row ∷ 0 ∷ [] }
refusal (denial.Missing m) = record { number = 8; values = missing_number m ∷ [] }
refusal denial.OtherPolicy = record { number = 9; values = [] }
refusal (denial.Unfit position) = record { number = 11; values = kinds.number_of kind.Running ∷ position ∷ rules.number_of rule.Slots ∷ [] }
refusal (denial.NoRoom room) = record { number = 10; values = rooms.number_of room ∷ [] }

-- a denial in words
abbrev pub missing_words : Missing → List ℕ
missing_words missing.Position = codes "position"
missing_words missing.Location = codes "location"
missing_words missing.Job = codes "job"

abbrev pub denial_words : Denial → List ℕ
denial_words (denial.Shape place) = codes "table " ++ (decimal (kinds.number_of place.table) ++ (codes " row " ++ (decimal place.row ++ codes ": out of shape")))
denial_words (denial.Missing m) = codes "no such " ++ missing_words m
denial_words denial.OtherPolicy = codes "the job is of another policy"
denial_words (denial.Unfit position) =
    codes "table " ++ (decimal (kinds.number_of kind.Running) ++ (codes " row " ++ (decimal position ++ (codes ": breaks rule " ++ decimal (rules.number_of rule.Slots)))))
denial_words (denial.NoRoom room) = codes "no room " ++ decimal (rooms.number_of room)

-- What a fault of loading tells: its number, the line, of a line that cannot be read the byte that settles it, and its
-- words.
use Rattle.std.specs.Prelude.{ℕ, List, [], ◌∷◌, ◌++◌, codes}
use Rattle.std.specs.Fmt.{decimal}
use Rattle.order.specs.Refusals.{Refusal}
use Rattle.number.specs.Faults.{number_of, fault_words}
use Rattle.filing.specs.declared.placing.Misplaced.{Misplaced}
use Rattle.filing.specs.declared.placing.Misplaced.TheVariants as misplaced
use Rattle.filing.specs.Filing.{misplaced_words}
use Rattle.tables.specs.declared.fault.LoadFault.{LoadFault}
use Rattle.tables.specs.declared.fault.LoadFault.TheVariants.{Unreadable, OutOfPlace, Full}

abbrev pub refusal : LoadFault → Refusal
refusal (Unreadable line fault) = record { number = number_of fault.cause; values = line ∷ fault.byte ∷ [] }
refusal (OutOfPlace line) = record { number = 5; values = line ∷ [] }
refusal (Full line) = record { number = 4; values = line ∷ [] }

-- the fault of a line that was not filed
abbrev pub fault_at : ℕ → Misplaced → LoadFault
fault_at line misplaced.OutOfPlace = OutOfPlace line
fault_at line misplaced.Full = Full line

-- words of a line
abbrev pub at_line : ℕ → List ℕ → List ℕ
at_line line words = codes "line " ++ (decimal line ++ (codes ": " ++ words))

-- a fault in words
abbrev pub load_words : LoadFault → List ℕ
load_words (Unreadable line fault) = at_line line (fault_words fault)
load_words (OutOfPlace line) = at_line line (misplaced_words misplaced.OutOfPlace)
load_words (Full line) = at_line line (misplaced_words misplaced.Full)

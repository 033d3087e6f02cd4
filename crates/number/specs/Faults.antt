-- What a reader's fault tells: its number, the byte that settles it, and its words.
use Rattle.std.specs.Prelude.{ℕ, List, [], ◌∷◌, ◌++◌, codes}
use Rattle.std.specs.Fmt.{decimal}
use Rattle.order.specs.Refusals.{Refusal}
use Rattle.number.specs.declared.fault.Cause.{Cause}
use Rattle.number.specs.declared.fault.Cause.TheVariants.{Ends, TooLarge, UnknownKind}
use Rattle.number.specs.declared.fault.ReadFault.{ReadFault}

abbrev pub number_of : Cause → ℕ
number_of Ends = 1
number_of TooLarge = 2
number_of UnknownKind = 3

abbrev pub refusal : ReadFault → Refusal
refusal fault = record { number = number_of fault.cause; values = fault.byte ∷ [] }

-- a cause in words
abbrev pub cause_words : Cause → List ℕ
cause_words Ends = codes "the sheet ends inside a line"
cause_words TooLarge = codes "a number is too long or too large, or not in the fewest bytes"
cause_words UnknownKind = codes "unknown kind"

-- a fault in words
abbrev pub fault_words : ReadFault → List ℕ
fault_words fault = cause_words fault.cause ++ (codes " at byte " ++ decimal fault.byte)

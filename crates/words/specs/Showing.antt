-- The text of what is not understood.
use Rattle.std.specs.Prelude.{ℕ, List, ◌++◌, codes, decimal}
use Rattle.words.specs.declared.unclear.LineError.{LineError}
use Rattle.words.specs.declared.unclear.LineError.TheVariants as error
use Rattle.words.specs.declared.unclear.Unclear.{Unclear}
use Rattle.words.specs.declared.unclear.Why.{Why}
use Rattle.words.specs.declared.unclear.Why.TheVariants.{NotACommand, NotAnOrder, NotARoleCode, NotARoleSet, NeitherHexNorFile, NotHexadecimal, NotANumber, CannotBeRead, NoSuchTable, NoSuchRow, NoSuchField, TooWide, Missing, TooMany}

-- Why a word is not understood.
abbrev pub reason_of : Why → List ℕ
reason_of NotACommand = codes "no such command"
reason_of NotAnOrder = codes "no such order"
reason_of NotARoleCode = codes "not a role code"
reason_of NotARoleSet = codes "not a role set"
reason_of NeitherHexNorFile = codes "neither hex nor file"
reason_of NotHexadecimal = codes "not hexadecimal"
reason_of NotANumber = codes "not a number"
reason_of CannotBeRead = codes "cannot be read"
reason_of NoSuchTable = codes "no such table"
reason_of NoSuchRow = codes "no such row"
reason_of NoSuchField = codes "no such field"
reason_of TooWide = codes "too wide"
reason_of Missing = codes "missing"
reason_of TooMany = codes "too many words"

-- Which word is not understood, and why.
abbrev pub unclear_text : Unclear → List ℕ
unclear_text u = codes "word " ++ (decimal u.word ++ (codes ": " ++ reason_of u.why))

-- Why a line could not be read.
abbrev pub error_text : LineError → List ℕ
error_text (error.OutOfMemory lack) = codes "out of memory"
error_text (error.Unclear u) = unclear_text u

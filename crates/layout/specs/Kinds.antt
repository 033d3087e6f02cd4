-- The tables' numbers: 0 for the running list, those of the kinds of lines, and 255 for the shelf.
use Rattle.std.specs.Prelude.{◌≡◌, ℕ, cond, List, ◌++◌, Some, None, Ok, Err, Option, Result, ◌==◌, codes}
use Rattle.std.specs.Fmt.{decimal}
use Rattle.sheet.specs.declared.kinds.LineKind.{LineKind}
use Rattle.sheet.specs.Kinds.{code_of, kind_of}
use Rattle.layout.specs.declared.kind.TableKind.{TableKind}
use Rattle.layout.specs.declared.kind.UnknownTable.{UnknownTable}
use Rattle.layout.specs.declared.kind.TableKind.TheVariants.{Running, Lines, Shelf}

-- the number of a table
abbrev pub number_of : TableKind → ℕ
number_of Running = 0
number_of (Lines kind) = code_of kind
number_of Shelf = 255

-- the table of a kind of lines, if there is a kind
abbrev pub lines_of : Option LineKind → Option TableKind
lines_of (Some kind) = Some (Lines kind)
lines_of None = None

-- the table of a number, if it is one
abbrev pub table_of : ℕ → Option TableKind
table_of n = cond (n == 0) (Some Running) (cond (n == 255) (Some Shelf) (lines_of (kind_of n)))

-- the answer is the table of the number, or the number itself where no table has it
abbrev pub TellsTable : ℕ → Result TableKind UnknownTable → Type 0
TellsTable n (Ok table) = table_of n ≡ Some table
TellsTable n (Err unknown) = (table_of n ≡ None) × (unknown.0 ≡ n)

-- a number that no table has, in words
abbrev pub unknown_words : UnknownTable → List ℕ
unknown_words unknown = codes "no table has number " ++ decimal unknown.0

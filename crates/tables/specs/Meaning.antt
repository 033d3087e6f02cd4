-- What loading means, line by line: every line before the first fault is in its place and has room, and the fault is that
-- of the line it names.
use Rattle.std.specs.Prelude.{◌≡◌, ℕ, true, false, List, [], ◌∷◌, ◌++◌, length, Some, None, Ok, Err, Option, Result}
use Rattle.number.specs.declared.fault.ReadFault.{ReadFault}
use Rattle.layout.specs.Network.{Network, empty}
use Rattle.filing.specs.declared.decoded.Row.{Row}
use Rattle.filing.specs.declared.placing.Before.{Before}
use Rattle.filing.specs.Filing.{none_before, in_place, has_room, filed, behind}
use Rattle.tables.specs.declared.fault.LoadFault.{LoadFault}
use Rattle.tables.specs.declared.fault.LoadFault.TheVariants.{Unreadable, OutOfPlace, Full}

-- each of the rows is in its place and has room, and they lead from the one network to the other
abbrev pub Files : Before → Network → List Row → Before → Network → Type 0
Files before n [] after m = (before ≡ after) × (n ≡ m)
Files before n (row ∷ rows) after m = (in_place before n row ≡ true) × (has_room n row ≡ true) × Files (behind before row) (filed n row) rows after m

-- as many rows as the line's number are filed, and this row is the next
pub record Reaches (rows : List Row) (line : ℕ) (before : Before) (n : Network) (row : Row) : Type 0 where
  pub ahead : List Row
  pub rest : List Row
  pub parts : rows ≡ ahead ++ row ∷ rest
  pub count : length ahead ≡ line
  pub files : Files none_before empty ahead before n

-- all rows are filed
pub record Passes (rows : List Row) (n : Network) : Type 0 where
  pub after : Before
  pub files : Files none_before empty rows after n

abbrev pub Means : List Row → Option ReadFault → Result Network LoadFault → Type 0
-- every line was read and filed
Means rows end (Ok n) = (end ≡ None) × Passes rows n
-- the lines before were filed, and then the reader told the fault
Means rows end (Err (Unreadable line fault)) = (end ≡ Some fault) × (length rows ≡ line) × ((n : Network) × Passes rows n)
Means rows end (Err (OutOfPlace line)) =
    (before : Before) × (n : Network) × (row : Row) × Reaches rows line before n row × (in_place before n row ≡ false)
Means rows end (Err (Full line)) =
    (before : Before) × (n : Network) × (row : Row) × Reaches rows line before n row × (in_place before n row ≡ true) × (has_room n row ≡ false)

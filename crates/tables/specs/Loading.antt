-- Loading: the lines that a sheet reads as, filed one after the other up to the first fault.
use Rattle.std.specs.Prelude.{◌≡◌, ℕ, ◌+◌, List, [], ◌∷◌, map, length, Some, None, Ok, Err, Option, Result}
use Rattle.number.specs.declared.fault.ReadFault.{ReadFault}
use Rattle.sheet.specs.declared.finding.Found.{Found}
use Rattle.sheet.specs.Fields.{read_line, stretch}
use Rattle.sheet.specs.Laws.{Handed}
use Rattle.layout.specs.declared.memory.Tables.{Tables}
use Rattle.layout.specs.Network.{Network, network, empty, stored, Holds}
use Rattle.filing.specs.declared.decoded.Row.{Row}
use Rattle.filing.specs.declared.placing.Before.{Before}
use Rattle.filing.specs.declared.placing.Misplaced.{Misplaced}
use Rattle.filing.specs.Rows.{row_of}
use Rattle.filing.specs.Filing.{none_before, placed, filed}
use Rattle.tables.specs.declared.fault.LoadFault.{LoadFault}
use Rattle.tables.specs.declared.fault.LoadFault.TheVariants.{Unreadable}
use Rattle.tables.specs.declared.blank_state.Blank.{Blank}
use Rattle.tables.specs.declared.draft_state.Draft.{Draft}
use Rattle.tables.specs.Faults.{fault_at}
use Rattle.tables.specs.Meaning.{Means}

-- ---- what a sheet reads as

-- at q the sheet ends, or the reader tells this fault
abbrev pub EndsAs : List ℕ → ℕ → Option ReadFault → Type 0
EndsAs sheet q None = q ≡ length sheet
EndsAs sheet q (Some fault) = read_line q sheet ≡ Err fault

-- from the place the reader hands out these lines, and then stands where the sheet ends, or tells the fault
pub record ReadsFrom (sheet : List ℕ) (place : ℕ) (fs : List Found) (end : Option ReadFault) : Type 0 where
  pub stop : ℕ
  pub handed : Handed sheet place fs stop
  pub ends : EndsAs sheet stop end

abbrev pub Reads : List ℕ → List Found → Option ReadFault → Type 0
Reads sheet fs end = ReadsFrom sheet 0 fs end

-- there are such lines and such an end, and no others
pub record ReadsInOneWay (sheet : List ℕ) : Type 0 where
  pub lines : List Found
  pub end : Option ReadFault
  pub reads : Reads sheet lines end
  pub only : (fs : List Found) (other : Option ReadFault) → Reads sheet fs other → (fs ≡ lines) × (other ≡ end)

-- the row of a line
abbrev pub row_at : List ℕ → Found → Row
row_at sheet f = row_of f.kind (stretch sheet f)

-- ---- filing

-- what is known behind the line with this number, or its fault
abbrev pub line_filed : ℕ → Result Before Misplaced → Result Before LoadFault
line_filed line (Ok before) = Ok before
line_filed line (Err why) = Err (fault_at line why)

-- one line, and then the rest, unless the line has a fault
abbrev pub and_then : Result Before LoadFault → (Before → Result Network LoadFault) → Result Network LoadFault
and_then (Ok before) rest = rest before
and_then (Err fault) rest = Err fault

-- the network with the rows filed into it, from this line on; at the end the reader's fault, if there is one
abbrev pub loaded : ℕ → Before → Network → List Row → Option ReadFault → Result Network LoadFault
loaded line before n [] None = Ok n
loaded line before n [] (Some fault) = Err (Unreadable line fault)
loaded line before n (row ∷ rows) end =
    and_then (line_filed line (placed before n row)) (λ after. loaded (line + 1) after (filed n row) rows end)

-- the whole sheet, into the empty network
abbrev pub sheet_loaded : List ℕ → List Found → Option ReadFault → Result Network LoadFault
sheet_loaded sheet fs end = loaded 0 none_before empty (map (row_at sheet) fs) end

-- ---- what is answered, and what the tables hold then

-- the lines were filed: their count is told, and the tables hold the network; or the fault is told
abbrev pub Filed : Result ℕ LoadFault → Tables → ℕ → Result Network LoadFault → Type 0
Filed r t count (Ok n) = (r ≡ Ok count) × (t ≡ stored n)
Filed r t count (Err fault) = r ≡ Err fault

-- a draft with as many lines as there are; or the blank as it was, and the fault
abbrev pub answered : Blank → ℕ → Result Network LoadFault → Result (Draft × ℕ) (Blank × LoadFault)
answered blank count (Ok n) = Ok (record { serial = blank.serial; lines = count }, count)
answered blank count (Err fault) = Err (blank, fault)

-- after a fault there is nothing in the tables
abbrev pub remains : Result Network LoadFault → Network
remains (Ok n) = n
remains (Err fault) = empty

-- the promise of a load, where the sheet reads as these lines and this end
pub record Loads (blank : Blank) (sheet : List ℕ) (fs : List Found) (end : Option ReadFault) (r : Result (Draft × ℕ) (Blank × LoadFault)) (t : Tables) : Type 0 where
  pub answer : r ≡ answered blank (length fs) (sheet_loaded sheet fs end)
  pub after : t ≡ stored (remains (sheet_loaded sheet fs end))
  pub meaning : Means (map (row_at sheet) fs) end (sheet_loaded sheet fs end)

-- whatever the sheet: after a load the tables hold a network within their limits, after a refusal they are all zero
abbrev pub Tidy : Result (Draft × ℕ) (Blank × LoadFault) → Tables → Type 0
Tidy (Ok draft) t = Holds t (network t)
Tidy (Err refused) t = t ≡ stored empty

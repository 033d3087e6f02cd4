-- What a step brings about: how many edges it finds, the job's successors, the trees that are put on the shelf, and the tree of the
-- location after it.
use Rattle.std.specs.Prelude.{ℕ, ◌+◌, cond, List, [], ◌∷◌, ◌++◌, map, replicate, ◌==◌, slice_index_or}
use Rattle.rows.specs.declared.row.JobRow.{JobRow}
use Rattle.rows.specs.declared.row.TreeLine.{TreeLine}
use Rattle.layout.specs.declared.memory.RunningRow.{RunningRow}
use Rattle.layout.specs.Network.{TreeLines, Plan, Network}
use Rattle.layout.specs.Zeros.{job0, slot0}
use Rattle.meaning.specs.declared.patterns.Pattern.{Pattern}
use Rattle.meaning.specs.declared.patterns.Pattern.TheVariants as pattern
use Rattle.obeying.specs.Rules.{line}
use Rattle.obeying.specs.TreeLaws.{under}
use Rattle.rooms.specs.Rooms.{Aftermath}
use Rattle.rooms.specs.Leaving.{without}
use Rattle.reduction.specs.Filling.{filled_slots}

pub record Effect : Type 0 where
  pub found : ℕ
  pub jobs : List RunningRow
  pub copies : List TreeLines
  pub tree : TreeLines

-- what a step of the job at this place leaves: the job leaves the running list, later ones close up, and its successors join the end;
-- copies are put behind the shelf
abbrev pub aftermath : Network → ℕ → Effect → Aftermath
aftermath n place e = record { running = without place n.running ++ e.jobs; shelf = n.shelf ++ e.copies; tree = e.tree }

-- ---- successors

-- the job at its next command; 0 makes no job
abbrev pub goes_on : RunningRow → ℕ → List RunningRow
goes_on r next = cond (next == 0) [] (record { location = r.location; roles = r.roles; command = next; slots = r.slots } ∷ [])

-- a job that starts at a location: with its own roles and command, and empty slots
abbrev pub started : ℕ → JobRow → RunningRow
started location j = record { location = location; roles = j.roles; command = j.command; slots = replicate 6 slot0 }

-- the job that a script on this line starts; any other content starts none
abbrev pub script_on : Plan → ℕ → TreeLine → List RunningRow
script_on p location x = cond (x.content == 2) (started location (slice_index_or p.jobs x.first job0) ∷ []) []

-- the jobs that the scripts on these lines start, in this order
abbrev pub scripts : Plan → ℕ → TreeLines → List ℕ → List RunningRow
scripts p location tree [] = []
scripts p location tree (row ∷ rows) = script_on p location (line tree row) ++ scripts p location tree rows

-- ---- reading

-- the trees under these lines, where the pattern is a tree's
abbrev pub copies : Pattern → TreeLines → List ℕ → List TreeLines
copies (pattern.Number slot) tree rows = []
copies (pattern.Script slot policy) tree rows = []
copies (pattern.Pointer slot policy last) tree rows = []
copies (pattern.Tree slot policy top all) tree rows = map (under tree) rows

-- the job at its next command with slots filled by what the pattern of row `filler` matched on line `row`, where a tree gets this number
abbrev pub reader : RunningRow → ℕ → Pattern → ℕ → TreeLines → ℕ → ℕ → RunningRow
reader r next m filler tree number row =
    record { location = r.location; roles = r.roles; command = next; slots = filled_slots m filler (line tree row) number r.slots }

-- one for each of these lines; trees are numbered on from `number`
abbrev pub readers : RunningRow → ℕ → Pattern → ℕ → TreeLines → ℕ → List ℕ → List RunningRow
readers r next m filler tree number [] = []
readers r next m filler tree number (row ∷ rows) = reader r next m filler tree number row ∷ readers r next m filler tree (number + 1) rows

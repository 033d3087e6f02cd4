-- The lines of a dump, each without its end. What is shown of the tables is the network that they hold, and of the shelf also how
-- many lines each tree has by its length, whatever the host has written there.
use Rattle.std.specs.Prelude.{ℕ, ◌+◌, ◌-◌, cond, List, [], ◌∷◌, ◌++◌, map, take, drop, codes, decimal, ◌==◌, string_bytes, vec_items, String, Vec}
use Rattle.std.specs.declared.alloc.Global.{Global}
use Rattle.rows.specs.declared.row.EdgeRow.{EdgeRow}
use Rattle.rows.specs.declared.row.TreeLine.{TreeLine}
use Rattle.layout.specs.declared.memory.RunningRow.{RunningRow}
use Rattle.layout.specs.declared.memory.Slot.{Slot}
use Rattle.layout.specs.declared.memory.Tables.{Tables}
use Rattle.layout.specs.Held.{in_use}
use Rattle.layout.specs.Network.{Plan, TreeLines, network}
use Rattle.dump.specs.declared.field.Field.{Field}
use Rattle.dump.specs.Listed.{policy_fields, grant_fields, location_fields, step_fields, line_fields, edge_fields, template_fields, pattern_fields, command_fields, job_fields, running_fields}
use Rattle.dump.specs.Texts.{fields_text}

-- What lines say.
abbrev pub texts : Vec (String Global) Global → List (List ℕ)
texts lines = map string_bytes (vec_items lines)

-- The text of each row, by its number; the first has this number.
abbrev pub numbered : {R : Type 0} → (ℕ → R → List ℕ) → ℕ → List R → List (List ℕ)
numbered text i [] = []
numbered text i (r ∷ rs) = text i r ∷ numbered text (i + 1) rs

-- ---- the tables

-- `table T row R: F F ..`
abbrev pub row_line : {R : Type 0} → (R → List Field) → ℕ → ℕ → R → List ℕ
row_line fields table row r = codes "table " ++ (decimal table ++ (codes " row " ++ (decimal row ++ (codes ":" ++ fields_text (fields r)))))

-- The lines of a table, rows from 0.
abbrev pub table_lines : {R : Type 0} → (R → List Field) → ℕ → List R → List (List ℕ)
table_lines fields table rows = numbered (row_line fields table) 0 rows

-- The edges of all locations, of which the first is `l`.
abbrev pub edges_from : ℕ → List TreeLines → List EdgeRow
edges_from l [] = []
edges_from l (tree ∷ trees) = map (λ line. record { location = l; line = line }) tree ++ edges_from (l + 1) trees

-- What stands before the edges, and what behind them.
abbrev pub lines_before : Plan → List (List ℕ)
lines_before p =
    table_lines policy_fields 1 p.policies
    ++ (table_lines grant_fields 2 p.grants ++ (table_lines location_fields 3 p.locations ++ table_lines step_fields 4 p.steps))

abbrev pub lines_behind : Plan → List (List ℕ)
lines_behind p =
    table_lines template_fields 6 p.templates
    ++ (table_lines pattern_fields 7 p.patterns ++ (table_lines command_fields 8 p.commands ++ table_lines job_fields 9 p.jobs))

-- ---- the running list

-- A slot that is filled, ` slot S pattern X value V`: the pattern is held as its row and 1.
abbrev pub slot_text : ℕ → Slot → List ℕ
slot_text k s =
    cond (s.pattern == 0) []
    (codes " slot " ++ (decimal k ++ (codes " pattern " ++ (decimal (s.pattern - 1) ++ (codes " value " ++ decimal s.value)))))

abbrev pub slots_text : ℕ → List Slot → List ℕ
slots_text k [] = []
slots_text k (s ∷ slots) = slot_text k s ++ slots_text (k + 1) slots

-- `running P: L SET C`, and the filled slots behind it
abbrev pub running_line : ℕ → RunningRow → List ℕ
running_line position r = codes "running " ++ (decimal position ++ (codes ":" ++ (fields_text (running_fields r) ++ slots_text 0 r.slots)))

-- ---- the shelf

-- `shelf T: N`
abbrev pub shelf_line : ℕ → ℕ → List ℕ
shelf_line tree lines = codes "shelf " ++ (decimal tree ++ (codes ": " ++ decimal lines))

-- `shelf T line I: D LABEL SET KIND FIRST SECOND`
abbrev pub shelved_line : ℕ → ℕ → TreeLine → List ℕ
shelved_line tree line r = codes "shelf " ++ (decimal tree ++ (codes " line " ++ (decimal line ++ (codes ":" ++ fields_text (line_fields r)))))

-- Trees of these lengths, one behind the other, of which the first has this number.
abbrev pub shelf_lines : ℕ → List ℕ → TreeLines → List (List ℕ)
shelf_lines tree [] lines = []
shelf_lines tree (n ∷ ns) lines = shelf_line tree n ∷ (numbered (shelved_line tree) 0 (take n lines) ++ shelf_lines (tree + 1) ns (drop n lines))

-- ---- all of them

-- What comes behind the tables of the sheet.
abbrev pub lines_last : Tables → List (List ℕ)
lines_last t = numbered running_line 0 (network t).running ++ (shelf_lines 0 (in_use t.shelf.trees) t.shelf.lines ++ (codes "end" ∷ []))

abbrev pub dump_lines : Tables → List (List ℕ)
dump_lines t =
    lines_before (network t).plan
    ++ (table_lines edge_fields 5 (edges_from 0 (network t).trees) ++ (lines_behind (network t).plan ++ lines_last t))

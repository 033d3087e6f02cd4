-- One number of the tables written over: what is answered, and the tables after.
-- The row 4294967295 stands for the number of rows in use. The table is looked for first, then the row, the field and
-- the value, and the first that is wrong is told; nothing is written then.
use Rattle.std.specs.Prelude.{ℕ, ◌-◌, min, cond, List, [], ◌∷◌, get_or, take, set, Some, None, Ok, Err, Option, Result, ◌==◌, nat_lt, slice_index_or, slice_set}
use Rattle.std.specs.List.{slice_get}
use Rattle.rows.specs.declared.row.TreeLine.{TreeLine}
use Rattle.layout.specs.declared.held.Table.{Table}
use Rattle.layout.specs.declared.memory.Shelf.{Shelf}
use Rattle.layout.specs.declared.memory.Tables.{Tables}
use Rattle.layout.specs.Zeros.{line0, no_tree}
use Rattle.places.specs.declared.finding.Place.{Place}
use Rattle.places.specs.Places.{edges_in, edge_place}
use Rattle.poke.specs.declared.wrong.Wrong.{Wrong}
use Rattle.poke.specs.declared.wrong.Wrong.TheVariants as wrong
use Rattle.poke.specs.Cells.{on_ok, policy_with, grant_with, location_with, step_with, line_with, template_with, pattern_with, command_with, job_with, running_with}
use Rattle.poke.specs.Placing.{with_policies, with_grants, with_locations, with_steps, with_trees, with_templates, with_patterns, with_commands, with_jobs, with_running, with_shelf}

abbrev pub Written : Type 0 → Type 0
Written X = Result X Wrong

-- What is answered, and what stands there after.
abbrev pub told : {X : Type 0} → Written X → Written (Unit {0})
told (Ok x) = Ok tt
told (Err w) = Err w

abbrev pub after : {X : Type 0} → X → Written X → X
after old (Ok new) = new
after old (Err w) = old

-- ---- a table

-- A row written by the rule of its kind.
abbrev pub row_with : {R : Type 0} {n : ℕ} → (R → ℕ → ℕ → Written R) → Table R n → ℕ → ℕ → ℕ → Option R → Written (Table R n)
row_with rule t row field value None = Err wrong.Row
row_with rule t row field value (Some r) = on_ok (rule r field value) (λ new. record { count = t.count; rows = slice_set t.rows row new })

-- A table of n rows.
abbrev pub table_with : {R : Type 0} {n : ℕ} → (R → ℕ → ℕ → Written R) → Table R n → ℕ → ℕ → ℕ → Written (Table R n)
table_with {n = n} rule t row field value =
    cond (row == 4294967295) (cond (field == 0) (Ok (record { count = value; rows = t.rows })) (Err wrong.Field))
    (cond (nat_lt row n) (row_with rule t row field value (slice_get t.rows row)) (Err wrong.Row))

-- ---- the edges of all locations

-- The number of a row that stands behind all rows of these trees, counted from there.
abbrev pub behind : ℕ → List (Table TreeLine 128) → ℕ
behind row [] = row
behind row (tree ∷ trees) = behind (row - edges_in tree) trees

-- The last location of the location table, and 0 where it has none.
abbrev pub last_of : ℕ → ℕ
last_of count = min count 16 - 1

abbrev pub last_location : Tables → ℕ
last_location t = last_of t.locations.count

-- A row behind all that are in use is one of the last location.
abbrev pub edge_at : Tables → ℕ → Option Place → Place
edge_at t row None = record { location = last_location t; edge = behind row (take (last_location t) t.trees) }
edge_at t row (Some place) = place

abbrev pub edge_place_in : Tables → ℕ → Place
edge_place_in t row = edge_at t row (edge_place 0 row t.trees)

abbrev pub edge_with : List (Table TreeLine 128) → Place → ℕ → ℕ → Written (List (Table TreeLine 128))
edge_with trees place field value =
    on_ok (table_with line_with (slice_index_or trees place.location no_tree) place.edge field value) (set trees place.location)

-- The number of edges of the location that the field names.
abbrev pub edge_count_with : List (Table TreeLine 128) → ℕ → ℕ → Written (List (Table TreeLine 128))
edge_count_with trees field value =
    cond (nat_lt field 16) (Ok (slice_set trees field (record { count = value; rows = (get_or trees field no_tree).rows }))) (Err wrong.Field)

abbrev pub edges_with : Tables → ℕ → ℕ → ℕ → Written (List (Table TreeLine 128))
edges_with t row field value = cond (row == 4294967295) (edge_count_with t.trees field value) (edge_with t.trees (edge_place_in t row) field value)

-- ---- the shelf

-- The number of trees (0), and the number of lines of each (1 and up).
abbrev pub lengths_with : Shelf → ℕ → ℕ → Written Shelf
lengths_with s field value =
    cond (field == 0) (Ok (record { trees = record { count = value; rows = s.trees.rows }; lines = s.lines }))
    (cond (nat_lt (field - 1) 64) (Ok (record { trees = record { count = s.trees.count; rows = slice_set s.trees.rows (field - 1) value }; lines = s.lines }))
    (Err wrong.Field))

abbrev pub shelved_with : Shelf → ℕ → ℕ → ℕ → Written Shelf
shelved_with s row field value =
    cond (nat_lt row 1024) (on_ok (line_with (slice_index_or s.lines row line0) field value) (λ new. record { trees = s.trees; lines = slice_set s.lines row new })) (Err wrong.Row)

abbrev pub shelf_with : Shelf → ℕ → ℕ → ℕ → Written Shelf
shelf_with s row field value = cond (row == 4294967295) (lengths_with s field value) (shelved_with s row field value)

-- ---- all of them

-- The answer, and all the tables with what is written in its place.
abbrev pub outcome : {X : Type 0} → (X → Tables) → X → Written X → Written (Unit {0}) × Tables
outcome place old w = (told w, place (after old w))

abbrev pub poked : Tables → ℕ → ℕ → ℕ → ℕ → Written (Unit {0}) × Tables
poked t table row field value =
    cond (table == 0) (outcome (with_running t) t.running (table_with running_with t.running row field value))
    (cond (table == 1) (outcome (with_policies t) t.policies (table_with policy_with t.policies row field value))
    (cond (table == 2) (outcome (with_grants t) t.grants (table_with grant_with t.grants row field value))
    (cond (table == 3) (outcome (with_locations t) t.locations (table_with location_with t.locations row field value))
    (cond (table == 4) (outcome (with_steps t) t.steps (table_with step_with t.steps row field value))
    (cond (table == 5) (outcome (with_trees t) t.trees (edges_with t row field value))
    (cond (table == 6) (outcome (with_templates t) t.templates (table_with template_with t.templates row field value))
    (cond (table == 7) (outcome (with_patterns t) t.patterns (table_with pattern_with t.patterns row field value))
    (cond (table == 8) (outcome (with_commands t) t.commands (table_with command_with t.commands row field value))
    (cond (table == 9) (outcome (with_jobs t) t.jobs (table_with job_with t.jobs row field value))
    (cond (table == 255) (outcome (with_shelf t) t.shelf (shelf_with t.shelf row field value))
    (Err wrong.Table, t)))))))))))

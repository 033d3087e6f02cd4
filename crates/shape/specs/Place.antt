-- The first place out of shape: by the tables' kinds and rows, the running list and the shelf last.
use Rattle.std.specs.Prelude.{ℕ, ◌+◌, ◌-◌, Bool, cond, ◌&&◌, List, take, drop, Some, None, Option, ◌==◌, nat_eq, nat_le, nat_lt}
use Rattle.std.specs.Option.{option_map}
use Rattle.sheet.specs.declared.kinds.LineKind.TheVariants as kind
use Rattle.rows.specs.declared.row.TreeLine.{TreeLine}
use Rattle.layout.specs.declared.held.Table.{Table}
use Rattle.layout.specs.declared.memory.Shelf.{Shelf}
use Rattle.layout.specs.declared.memory.Tables.{Tables}
use Rattle.layout.specs.declared.kind.TableKind.{TableKind}
use Rattle.layout.specs.declared.kind.TableKind.TheVariants as kinds
use Rattle.layout.specs.Held.{in_use}
use Rattle.scan.specs.Scan.{or_else, first_of, first_bad, scan, carried, clear}
use Rattle.zeros.specs.Zeroed.{policy_zero, grant_zero, location_zero, step_zero, line_zero, template_zero, pattern_zero, command_zero, job_zero, running_zero}
use Rattle.standing.specs.declared.sizes.Sizes.{Sizes}
use Rattle.standing.specs.declared.lines.Home.TheVariants as home
use Rattle.standing.specs.Sizes.{within, sizes_of}
use Rattle.standing.specs.Tests.{policy_passes, grant_passes, location_passes, pattern_passes, job_passes, no_steps, step_passes, steps_after, root, line_passes, line_after, no_lines, template_passes, lines_after, none_named, command_passes, named_after, running_passes}
use Rattle.shape.specs.declared.place.Place.{Place}
use Rattle.shape.specs.declared.place.Stage.{Stage}
use Rattle.shape.specs.declared.place.Stage.TheVariants.{Draft, Live}

-- what is told of a table behind its own rows: the first row too many, else the first row past the last that is not zero
abbrev pub rest_fault : {X : Type 0} {n : ℕ} → (X → Bool) → ℕ → Table X n → Option ℕ
rest_fault zeroed limit t = cond (nat_lt limit t.count) (Some limit) (first_bad (λ i x. zeroed x) t.count (drop t.count t.rows))

-- the first row in use that does not stand, else the rest
abbrev pub table_fault : {S X : Type 0} {n : ℕ} → (S → ℕ → X → Bool) → (S → X → S) → S → (X → Bool) → ℕ → Table X n → Option ℕ
table_fault passes after first zeroed limit t = or_else (scan passes after first 0 (in_use t)) (rest_fault zeroed limit t)

-- the same where a row asks nothing of the rows before
abbrev pub plain_fault : {X : Type 0} {n : ℕ} → (X → Bool) → (X → Bool) → ℕ → Table X n → Option ℕ
plain_fault passes zeroed limit t = table_fault (λ (b : Unit {0}) i x. passes x) (λ b x. b) tt zeroed limit t

-- ---- the trees of the locations: rows are numbered over all locations, and all rows in use come before the rest

abbrev pub shifted : ℕ → Option ℕ → Option ℕ
shifted base row = option_map (λ i. base + i) row

abbrev pub bad_tree : Sizes → List TreeLine → Option ℕ
bad_tree s lines = scan (λ b i x. line_passes home.Tree s b x) (λ b x. line_after x) root 0 lines

-- where the rows of the next location begin
abbrev pub base_after : ℕ → Table TreeLine 128 → ℕ
base_after base t = base + within t.count 128

-- a location that does not exist has no edges
abbrev pub tree_fault : Sizes → ℕ → ℕ → Table TreeLine 128 → Option ℕ
tree_fault s base l t =
    cond (nat_lt l s.locations) (shifted base (or_else (bad_tree s (in_use t)) (cond (nat_lt 128 t.count) (Some 128) None)))
    (cond (t.count == 0) None (Some base))

abbrev pub trees_fault : Sizes → ℕ → ℕ → List (Table TreeLine 128) → Option ℕ
trees_fault s base l ts = first_of (tree_fault s) base_after base l ts

abbrev pub past_fault : ℕ → Table TreeLine 128 → Option ℕ
past_fault base t = shifted base (first_bad (λ i x. line_zero x) (within t.count 128) (drop (within t.count 128) t.rows))

abbrev pub pasts_fault : ℕ → ℕ → List (Table TreeLine 128) → Option ℕ
pasts_fault base l ts = first_of (λ base l t. past_fault base t) base_after base l ts

abbrev pub edges_fault : Sizes → List (Table TreeLine 128) → Option ℕ
edges_fault s ts = or_else (trees_fault s 0 0 ts) (pasts_fault 0 0 ts)

-- ---- the shelf: trees lie one after the other in 1,024 lines

-- where the next tree begins; nothing lies behind the last line
abbrev pub shelf_after : ℕ → ℕ → ℕ
shelf_after start lines = cond (nat_le start 1024 && nat_le lines (1024 - start)) (start + lines) 1024

abbrev pub shelved_passes : Sizes → List TreeLine → ℕ → ℕ → Bool
shelved_passes s shelved start lines =
    (nat_le start 1024 && (nat_le lines (1024 - start) && nat_le lines 128)) && clear (bad_tree s (take lines (drop start shelved)))

-- lines past the last tree are told where the next tree would be
abbrev pub told_at : ℕ → Option ℕ → Option ℕ
told_at row written = option_map (λ i. row) written

abbrev pub shelf_end : Table ℕ 64 → ℕ
shelf_end trees = carried shelf_after 0 (in_use trees)

abbrev pub shelf_rest : Shelf → Option ℕ
shelf_rest shelf =
    cond (nat_lt 64 shelf.trees.count) (Some 64)
    (or_else (told_at shelf.trees.count (first_bad (λ i x. line_zero x) (shelf_end shelf.trees) (drop (shelf_end shelf.trees) shelf.lines)))
    (first_bad (λ i n. nat_eq n 0) shelf.trees.count (drop shelf.trees.count shelf.trees.rows)))

abbrev pub shelf_fault : Sizes → Shelf → Option ℕ
shelf_fault s shelf = or_else (scan (λ start i lines. shelved_passes s shelf.lines start lines) shelf_after 0 0 (in_use shelf.trees)) (shelf_rest shelf)

-- ---- all tables

abbrev pub placed : TableKind → Option ℕ → Option Place
placed table row = option_map (λ i. record { table = table; row = i }) row

-- in a draft a table that has to be empty is told at its first row
abbrev pub in_draft : Stage → ℕ → Option ℕ → Option ℕ
in_draft Draft count fault = cond (nat_lt 0 count) (Some 0) fault
in_draft Live count fault = fault

abbrev pub ground_fault : Sizes → Tables → Option Place
ground_fault s t =
    or_else (placed (kinds.Lines kind.Policy) (plain_fault (policy_passes s) policy_zero 16 t.policies))
    (or_else (placed (kinds.Lines kind.Grant) (plain_fault (grant_passes s) grant_zero 64 t.grants))
    (or_else (placed (kinds.Lines kind.Location) (plain_fault (location_passes s) location_zero 16 t.locations))
    (or_else (placed (kinds.Lines kind.PathStep) (table_fault (λ b i x. step_passes s b x) steps_after no_steps step_zero 256 t.steps))
    (placed (kinds.Lines kind.Edge) (edges_fault s t.trees)))))

abbrev pub program_fault : Sizes → Tables → Option Place
program_fault s t =
    or_else (placed (kinds.Lines kind.TemplateLine) (table_fault (λ b i x. template_passes s b x) (λ b x. lines_after x) no_lines template_zero 256 t.templates))
    (or_else (placed (kinds.Lines kind.Pattern) (plain_fault (pattern_passes s) pattern_zero 64 t.patterns))
    (or_else (placed (kinds.Lines kind.Command) (table_fault (command_passes s) named_after none_named command_zero 255 t.commands))
    (placed (kinds.Lines kind.Job) (plain_fault (job_passes s) job_zero 64 t.jobs))))

abbrev pub moving_fault : Sizes → Tables → Stage → Option Place
moving_fault s t stage =
    or_else (placed kinds.Running (in_draft stage t.running.count (plain_fault (running_passes s t.patterns.rows) running_zero 64 t.running)))
    (placed kinds.Shelf (in_draft stage t.shelf.trees.count (shelf_fault s t.shelf)))

abbrev pub place_of : Sizes → Tables → Stage → Option Place
place_of s t stage = or_else (ground_fault s t) (or_else (program_fault s t) (moving_fault s t stage))

-- under an order with so many roles and this top
abbrev pub first_place : ℕ → ℕ → Tables → Stage → Option Place
first_place count top t stage = place_of (sizes_of count top t) t stage

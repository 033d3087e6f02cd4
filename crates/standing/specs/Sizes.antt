-- How many rows of each kind there are to be named, and the roles of the order.
use Rattle.std.specs.Prelude.{ℕ, ◌+◌, ◌-◌, min, cond, ◌==◌, slice_index_or}
use Rattle.rows.specs.declared.row.PathStepRow.{PathStepRow}
use Rattle.rows.specs.declared.row.TemplateRow.{TemplateRow}
use Rattle.layout.specs.declared.held.Table.{Table}
use Rattle.layout.specs.declared.memory.Tables.{Tables}
use Rattle.layout.specs.Zeros.{step0, template0}
use Rattle.standing.specs.declared.sizes.Sizes.{Sizes}

-- a row exists where it is below the table's count and below its limit
abbrev pub within : ℕ → ℕ → ℕ
within count limit = min count limit

-- things of one row or more are numbered on from 0: one more than the number of the last row's, and at most the limit
abbrev pub numbered_in : {X : Type 0} {n : ℕ} → (X → ℕ) → X → ℕ → ℕ → Table X n → ℕ
numbered_in number zero rows limit t = cond (within t.count rows == 0) 0 (within (number (slice_index_or t.rows (within t.count rows - 1) zero) + 1) limit)

abbrev pub paths_in : Table PathStepRow 256 → ℕ
paths_in t = numbered_in (λ row. row.path) step0 256 64 t

abbrev pub templates_in : Table TemplateRow 256 → ℕ
templates_in t = numbered_in (λ row. row.template) template0 256 32 t

-- the sizes under an order with so many roles and this top
abbrev pub sizes_of : ℕ → ℕ → Tables → Sizes
sizes_of count peak t = record {
  roles = count;
  top = peak;
  policies = within t.policies.count 16;
  locations = within t.locations.count 16;
  paths = paths_in t.steps;
  templates = templates_in t.templates;
  patterns = within t.patterns.count 64;
  commands = within t.commands.count 255;
  jobs = within t.jobs.count 64;
  shelf = within t.shelf.trees.count 64;
}

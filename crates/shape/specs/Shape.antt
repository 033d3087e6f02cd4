-- Tables with shape, one clause for each sentence.
use Rattle.std.specs.Prelude.{◌≡◌, ℕ, ◌+◌, ◌<◌, ◌≤◌, List, [], ◌∷◌, length, take, drop, slice_index, slice_index_or}
use Rattle.order.specs.RoleSets.{InUse}
use Rattle.rows.specs.declared.row.TreeLine.{TreeLine}
use Rattle.layout.specs.declared.held.Table.{Table}
use Rattle.layout.specs.declared.memory.Tables.{Tables}
use Rattle.layout.specs.Held.{in_use}
use Rattle.layout.specs.Zeros.{policy0, grant0, location0, step0, line0, template0, pattern0, command0, job0, no_running, no_tree}
use Rattle.meaning.specs.Decoding.{pattern_of}
use Rattle.scan.specs.Scan.{Each}
use Rattle.standing.specs.declared.sizes.Sizes.{Sizes}
use Rattle.standing.specs.Sizes.{sizes_of}
use Rattle.standing.specs.Words.{Means, GrantStands, PatternStands, JobStands, StepsStand, TreeStands, TemplatesStand, CommandsStand, RunningStands, RunningClear}
use Rattle.shape.specs.declared.place.Stage.{Stage}
use Rattle.shape.specs.declared.place.Stage.TheVariants.{Draft, Live}

-- rows that are all zero
abbrev pub Zeros : {X : Type 0} → X → List X → Type 0
Zeros zero rows = Each (λ x. x ≡ zero) zero rows

-- a table: it does not pass its rows, the rows in use stand, and those past the last are as they have to be
pub record TableStands {X : Type 0} {n : ℕ} (limit : ℕ) (t : Table X n) (Rows Rest : List X → Type 0) : Type 0 where
  pub few : t.count ≤ limit
  pub own : Rows (in_use t)
  pub rest : Rest (drop t.count t.rows)

-- the tree of the location l: one that does not exist has no edges
pub record TreeAt (s : Sizes) (l : ℕ) (t : Table TreeLine 128) : Type 0 where
  pub table : TableStands 128 t (TreeStands s) (Zeros line0)
  pub nowhere : s.locations ≤ l → t.count ≡ 0

abbrev pub total : List ℕ → ℕ
total [] = 0
total (n ∷ ns) = n + total ns

-- shelved trees are trees of at most 128 lines, and lie one after the other in 1,024
pub record ShelfStands (s : Sizes) (shelved : List TreeLine) (lines : List ℕ) : Type 0 where
  pub room : total lines ≤ 1024
  pub small : Each (λ n. n ≤ 128) 0 lines
  pub trees : (i : ℕ) → i < length lines → TreeStands s (take (slice_index lines i) (drop (total (take i lines)) shelved))

-- nothing moves in a draft
abbrev pub Still : Stage → Tables → Type 0
Still Draft t = (t.running.count ≡ 0) × (t.shelf.trees.count ≡ 0)
Still Live t = Unit {0}

pub record ShapedBy (s : Sizes) (t : Tables) (stage : Stage) : Type 0 where
  pub policies : TableStands 16 t.policies (Each (λ x. InUse s.roles x.least) policy0) (Zeros policy0)
  pub grants : TableStands 64 t.grants (Each (GrantStands s) grant0) (Zeros grant0)
  pub locations : TableStands 16 t.locations (Each (λ x. x.policy < s.policies) location0) (Zeros location0)
  pub steps : TableStands 256 t.steps (StepsStand s) (Zeros step0)
  pub trees : (l : ℕ) → l < length t.trees → TreeAt s l (slice_index_or t.trees l no_tree)
  pub templates : TableStands 256 t.templates (TemplatesStand s) (Zeros template0)
  pub patterns : TableStands 64 t.patterns (Each (λ x. Means (pattern_of x) (PatternStands s)) pattern0) (Zeros pattern0)
  pub commands : TableStands 255 t.commands (CommandsStand s) (Zeros command0)
  pub jobs : TableStands 64 t.jobs (Each (JobStands s) job0) (Zeros job0)
  pub running : TableStands 64 t.running (Each (RunningStands s t.patterns.rows) no_running) (Each RunningClear no_running)
  pub shelf : TableStands 64 t.shelf.trees (ShelfStands s t.shelf.lines) (Zeros 0)
  pub shelved : Zeros line0 (drop (total (in_use t.shelf.trees)) t.shelf.lines)
  pub still : Still stage t

-- shape under an order with so many roles and this top
abbrev pub Shaped : ℕ → ℕ → Tables → Stage → Type 0
Shaped count top t stage = ShapedBy (sizes_of count top t) t stage

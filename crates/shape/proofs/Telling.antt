-- Nothing is told exactly when the tables have shape.
use Rattle.std.proofs.Common.{◌≡◌, ℕ, ◌<◌, Bool, ◌&&◌, eqb, List, length, get_or, drop, Decides, Option, refl, arith}
use Rattle.std.proofs.lemmas.Bool.Decides.{Decides-eqb, Decides-and, Decides-like}
use Rattle.order.specs.RoleSets.{InUse}
use Rattle.sheet.specs.declared.kinds.LineKind.TheVariants as kind
use Rattle.layout.specs.declared.held.Table.{Table}
use Rattle.layout.specs.declared.memory.RunningRow.{RunningRow}
use Rattle.layout.specs.declared.memory.Tables.{Tables}
use Rattle.layout.specs.declared.kind.TableKind.{TableKind}
use Rattle.layout.specs.declared.kind.TableKind.TheVariants as kinds
use Rattle.layout.specs.Held.{in_use}
use Rattle.layout.specs.Zeros.{policy0, grant0, location0, step0, line0, template0, pattern0, command0, job0, slot0, no_running, no_tree}
use Rattle.meaning.specs.Decoding.{pattern_of}
use Rattle.scan.specs.Scan.{or_else, scan, first_bad, clear, Each}
use Rattle.scan.proofs.Tells.{Tells, tells_like, or_tells, map_tells, few_tells, each_tells, Decides-clear}
use Rattle.zeros.specs.Zeroed.{policy_zero, grant_zero, location_zero, step_zero, template_zero, pattern_zero, command_zero, job_zero, slot_zero, running_zero}
use Rattle.zeros.proofs.Deciding.{Decides-policy0, Decides-grant0, Decides-location0, Decides-step0, Decides-template0, Decides-pattern0, Decides-command0, Decides-job0, Decides-slot0}
use Rattle.standing.specs.declared.sizes.Sizes.{Sizes}
use Rattle.standing.specs.Sizes.{sizes_of}
use Rattle.standing.specs.Tests.{policy_passes, grant_passes, location_passes, pattern_passes, job_passes, no_steps, step_passes, steps_after, no_lines, template_passes, lines_after, none_named, command_passes, named_after, running_passes}
use Rattle.standing.specs.Words.{Means, GrantStands, PatternStands, JobStands, StepsStand, TemplatesStand, CommandsStand, RunningStands, RunningClear}
use Rattle.standing.proofs.Rows.{Decides-policy, Decides-grant, Decides-location, Decides-pattern, Decides-job, Decides-running}
use Rattle.standing.proofs.Paths.{steps_tell}
use Rattle.standing.proofs.Templates.{templates_tell}
use Rattle.standing.proofs.Continuing.{commands_tell}
use Rattle.shape.specs.declared.place.Stage.{Stage}
use Rattle.shape.specs.declared.place.Stage.TheVariants.{Draft, Live}
use Rattle.shape.specs.Place.{rest_fault, table_fault, plain_fault, edges_fault, shelf_fault, placed, in_draft, ground_fault, program_fault, moving_fault, first_place}
use Rattle.shape.specs.Shape.{Zeros, TableStands, TreeAt, total, ShelfStands, Still, Shaped}
use Rattle.shape.proofs.Forest.{within-small, edges_tell}
use Rattle.shape.proofs.Shelving.{shelf_fault-tells}

-- a table, by what is told of its own rows and of those past the last
table-tells : {S X : Type 0} {n : ℕ} (passes : S → ℕ → X → Bool) (after : S → X → S) (first : S) (zeroed : X → Bool) (limit : ℕ) (t : Table X n) (Rows Rest : List X → Type 0)
    → Tells (scan passes after first 0 (in_use t)) (Rows (in_use t))
    → Tells (first_bad (λ i x. zeroed x) t.count (drop t.count t.rows)) (Rest (drop t.count t.rows))
    → Tells (table_fault passes after first zeroed limit t) (TableStands limit t Rows Rest)
table-tells passes after first zeroed limit t Rows Rest own rest =
    tells_like (table_fault passes after first zeroed limit t)
    (λ w. record { few = w.1.0; own = w.0; rest = w.1.1 }) (λ w. (w.own, (w.few, w.rest)))
    (or_tells (scan passes after first 0 (in_use t)) (rest_fault zeroed limit t) own
    (λ _. few_tells limit t.count (first_bad (λ i x. zeroed x) t.count (drop t.count t.rows)) (λ _. rest)))

-- the rows past the last are all zero
zeros_tell : {X : Type 0} {n : ℕ} (zeroed : X → Bool) (z : X) → ((x : X) → Decides (zeroed x) (x ≡ z)) → (t : Table X n)
    → Tells (first_bad (λ i x. zeroed x) t.count (drop t.count t.rows)) (Zeros z (drop t.count t.rows))
zeros_tell zeroed z d t = each_tells zeroed (λ x. x ≡ z) z d t.count (drop t.count t.rows)

-- a table whose rows ask nothing of the rows before
plain_tells : {X : Type 0} {n : ℕ} (passes : X → Bool) (P : X → Type 0) (zeroed : X → Bool) (z : X) (limit : ℕ) (t : Table X n)
    → ((x : X) → Decides (passes x) (P x)) → ((x : X) → Decides (zeroed x) (x ≡ z)) → Tells (plain_fault passes zeroed limit t) (TableStands limit t (Each P z) (Zeros z))
plain_tells passes P zeroed z limit t d dz =
    table-tells (λ (b : Unit {0}) i x. passes x) (λ b x. b) tt zeroed limit t (Each P z) (Zeros z) (each_tells passes P z d 0 (in_use t)) (zeros_tell zeroed z dz t)

placed-tells : {P : Type 0} (table : TableKind) (o : Option ℕ) → Tells o P → Tells (placed table o) P
placed-tells table o t = map_tells (placed table) refl (λ i. (record { table = table; row = i }, refl)) o t

Decides-running0 : (x : RunningRow) → Decides (running_zero x) (RunningClear x)
Decides-running0 x =
    Decides-like (running_zero x)
    (λ w. record { location = w.0.0; roles = w.0.1.0; command = w.0.1.1; slots = w.1 }) (λ w. ((w.location, (w.roles, w.command)), w.slots))
    (Decides-and (eqb x.location 0 && (eqb x.roles 0 && eqb x.command 0)) (clear (first_bad (λ i y. slot_zero y) 0 x.slots))
    (Decides-and (eqb x.location 0) (eqb x.roles 0 && eqb x.command 0) (Decides-eqb x.location 0)
    (Decides-and (eqb x.roles 0) (eqb x.command 0) (Decides-eqb x.roles 0) (Decides-eqb x.command 0)))
    (Decides-clear (first_bad (λ i y. slot_zero y) 0 x.slots) (each_tells slot_zero (λ y. y ≡ slot0) slot0 Decides-slot0 0 x.slots)))

-- a table that has to be empty in a draft
abbrev Empty : Stage → ℕ → Type 0
Empty Draft count = count ≡ 0
Empty Live count = Unit {0}

draft_tells : {P : Type 0} (stage : Stage) (count : ℕ) (o : Option ℕ) → Tells o P → Tells (in_draft stage count o) (Empty stage count × P)
draft_tells Draft count o t = tells_like (in_draft Draft count o) (λ w. (omega (arith, w.0), w.1)) (λ w. (omega (arith, w.0), w.1)) (few_tells 0 count o (λ _. t))
draft_tells Live count o t = tells_like o (λ w. (tt, w)) (λ w. w.1) t

module _ (count top : ℕ) (t : Tables) where
  abbrev S : Sizes
  S = sizes_of count top t

  abbrev Policies : Type 0
  Policies = TableStands 16 t.policies (Each (λ x. InUse count x.least) policy0) (Zeros policy0)

  abbrev Grants : Type 0
  Grants = TableStands 64 t.grants (Each (GrantStands S) grant0) (Zeros grant0)

  abbrev Locations : Type 0
  Locations = TableStands 16 t.locations (Each (λ x. x.policy < S.policies) location0) (Zeros location0)

  abbrev Steps : Type 0
  Steps = TableStands 256 t.steps (StepsStand S) (Zeros step0)

  abbrev Edges : Type 0
  Edges = (l : ℕ) → l < length t.trees → TreeAt S l (get_or t.trees l no_tree)

  abbrev Templates : Type 0
  Templates = TableStands 256 t.templates (TemplatesStand S) (Zeros template0)

  abbrev Patterns : Type 0
  Patterns = TableStands 64 t.patterns (Each (λ x. Means (pattern_of x) (PatternStands S)) pattern0) (Zeros pattern0)

  abbrev Commands : Type 0
  Commands = TableStands 255 t.commands (CommandsStand S) (Zeros command0)

  abbrev Jobs : Type 0
  Jobs = TableStands 64 t.jobs (Each (JobStands S) job0) (Zeros job0)

  abbrev Running : Type 0
  Running = TableStands 64 t.running (Each (RunningStands S t.patterns.rows) no_running) (Each RunningClear no_running)

  abbrev Shelf : Type 0
  Shelf = TableStands 64 t.shelf.trees (ShelfStands S t.shelf.lines) (Zeros 0) × Zeros line0 (drop (total (in_use t.shelf.trees)) t.shelf.lines)

  abbrev policies_fault : Option ℕ
  policies_fault = plain_fault (policy_passes S) policy_zero 16 t.policies

  abbrev grants_fault : Option ℕ
  grants_fault = plain_fault (grant_passes S) grant_zero 64 t.grants

  abbrev locations_fault : Option ℕ
  locations_fault = plain_fault (location_passes S) location_zero 16 t.locations

  abbrev steps_fault : Option ℕ
  steps_fault = table_fault (λ b i x. step_passes S b x) steps_after no_steps step_zero 256 t.steps

  abbrev edge_rows_fault : Option ℕ
  edge_rows_fault = edges_fault S t.trees

  abbrev templates_fault : Option ℕ
  templates_fault = table_fault (λ b i x. template_passes S b x) (λ b x. lines_after x) no_lines template_zero 256 t.templates

  abbrev patterns_fault : Option ℕ
  patterns_fault = plain_fault (pattern_passes S) pattern_zero 64 t.patterns

  abbrev commands_fault : Option ℕ
  commands_fault = table_fault (command_passes S) named_after none_named command_zero 255 t.commands

  abbrev jobs_fault : Option ℕ
  jobs_fault = plain_fault (job_passes S) job_zero 64 t.jobs

  abbrev running_fault : Option ℕ
  running_fault = plain_fault (running_passes S t.patterns.rows) running_zero 64 t.running

  abbrev shelves_fault : Option ℕ
  shelves_fault = shelf_fault S t.shelf

  policies_tell : Tells policies_fault Policies
  policies_tell = plain_tells (policy_passes S) (λ x. InUse count x.least) policy_zero policy0 16 t.policies (Decides-policy S) Decides-policy0

  grants_tell : Tells grants_fault Grants
  grants_tell = plain_tells (grant_passes S) (GrantStands S) grant_zero grant0 64 t.grants (Decides-grant S) Decides-grant0

  locations_tell : Tells locations_fault Locations
  locations_tell = plain_tells (location_passes S) (λ x. x.policy < S.policies) location_zero location0 16 t.locations (Decides-location S) Decides-location0

  steps_fault-tells : Tells steps_fault Steps
  steps_fault-tells =
      table-tells (λ b i x. step_passes S b x) steps_after no_steps step_zero 256 t.steps (StepsStand S) (Zeros step0) (steps_tell S (in_use t.steps)) (zeros_tell step_zero step0 Decides-step0 t.steps)

  templates_fault-tells : Tells templates_fault Templates
  templates_fault-tells =
      table-tells (λ b i x. template_passes S b x) (λ b x. lines_after x) no_lines template_zero 256 t.templates (TemplatesStand S) (Zeros template0)
      (templates_tell S (in_use t.templates)) (zeros_tell template_zero template0 Decides-template0 t.templates)

  patterns_tell : Tells patterns_fault Patterns
  patterns_tell = plain_tells (pattern_passes S) (λ x. Means (pattern_of x) (PatternStands S)) pattern_zero pattern0 64 t.patterns (Decides-pattern S) Decides-pattern0

  commands_fault-tells : Tells commands_fault Commands
  commands_fault-tells =
      table-tells (command_passes S) named_after none_named command_zero 255 t.commands (CommandsStand S) (Zeros command0)
      (commands_tell S (in_use t.commands) (within-small t.commands.count 255)) (zeros_tell command_zero command0 Decides-command0 t.commands)

  jobs_tell : Tells jobs_fault Jobs
  jobs_tell = plain_tells (job_passes S) (JobStands S) job_zero job0 64 t.jobs (Decides-job S) Decides-job0

  running_tells : Tells running_fault Running
  running_tells =
      table-tells (λ (b : Unit {0}) i x. running_passes S t.patterns.rows x) (λ b x. b) tt running_zero 64 t.running
      (Each (RunningStands S t.patterns.rows) no_running) (Each RunningClear no_running)
      (each_tells (running_passes S t.patterns.rows) (RunningStands S t.patterns.rows) no_running (Decides-running S t.patterns.rows (within-small t.patterns.count 64)) 0 (in_use t.running))
      (each_tells running_zero RunningClear no_running Decides-running0 t.running.count (drop t.running.count t.running.rows))

  ground_tells : Tells (ground_fault S t) (Policies × (Grants × (Locations × (Steps × Edges))))
  ground_tells =
      or_tells (placed (kinds.Lines kind.Policy) policies_fault) (or_else (placed (kinds.Lines kind.Grant) grants_fault) (or_else (placed (kinds.Lines kind.Location) locations_fault) (or_else (placed (kinds.Lines kind.PathStep) steps_fault) (placed (kinds.Lines kind.Edge) edge_rows_fault)))) (placed-tells (kinds.Lines kind.Policy) policies_fault policies_tell)
      (λ _. or_tells (placed (kinds.Lines kind.Grant) grants_fault) (or_else (placed (kinds.Lines kind.Location) locations_fault) (or_else (placed (kinds.Lines kind.PathStep) steps_fault) (placed (kinds.Lines kind.Edge) edge_rows_fault))) (placed-tells (kinds.Lines kind.Grant) grants_fault grants_tell)
      (λ _. or_tells (placed (kinds.Lines kind.Location) locations_fault) (or_else (placed (kinds.Lines kind.PathStep) steps_fault) (placed (kinds.Lines kind.Edge) edge_rows_fault)) (placed-tells (kinds.Lines kind.Location) locations_fault locations_tell)
      (λ _. or_tells (placed (kinds.Lines kind.PathStep) steps_fault) (placed (kinds.Lines kind.Edge) edge_rows_fault) (placed-tells (kinds.Lines kind.PathStep) steps_fault steps_fault-tells)
      (λ _. placed-tells (kinds.Lines kind.Edge) edge_rows_fault (edges_tell S t.trees)))))

  program_tells : Tells (program_fault S t) (Templates × (Patterns × (Commands × Jobs)))
  program_tells =
      or_tells (placed (kinds.Lines kind.TemplateLine) templates_fault) (or_else (placed (kinds.Lines kind.Pattern) patterns_fault) (or_else (placed (kinds.Lines kind.Command) commands_fault) (placed (kinds.Lines kind.Job) jobs_fault))) (placed-tells (kinds.Lines kind.TemplateLine) templates_fault templates_fault-tells)
      (λ _. or_tells (placed (kinds.Lines kind.Pattern) patterns_fault) (or_else (placed (kinds.Lines kind.Command) commands_fault) (placed (kinds.Lines kind.Job) jobs_fault)) (placed-tells (kinds.Lines kind.Pattern) patterns_fault patterns_tell)
      (λ _. or_tells (placed (kinds.Lines kind.Command) commands_fault) (placed (kinds.Lines kind.Job) jobs_fault) (placed-tells (kinds.Lines kind.Command) commands_fault commands_fault-tells)
      (λ _. placed-tells (kinds.Lines kind.Job) jobs_fault jobs_tell)))

  moving_tells : (stage : Stage) → Tells (moving_fault S t stage) ((Empty stage t.running.count × Running) × (Empty stage t.shelf.trees.count × Shelf))
  moving_tells stage =
      or_tells (placed kinds.Running (in_draft stage t.running.count running_fault)) (placed kinds.Shelf (in_draft stage t.shelf.trees.count shelves_fault))
      (placed-tells kinds.Running (in_draft stage t.running.count running_fault) (draft_tells stage t.running.count running_fault running_tells))
      (λ _. placed-tells kinds.Shelf (in_draft stage t.shelf.trees.count shelves_fault) (draft_tells stage t.shelf.trees.count shelves_fault (shelf_fault-tells S t.shelf)))

  still : (stage : Stage) → Empty stage t.running.count → Empty stage t.shelf.trees.count → Still stage t
  still Draft a b = (a, b)
  still Live a b = tt

  empty-running : (stage : Stage) → Still stage t → Empty stage t.running.count
  empty-running Draft w = w.0
  empty-running Live w = tt

  empty-shelf : (stage : Stage) → Still stage t → Empty stage t.shelf.trees.count
  empty-shelf Draft w = w.1
  empty-shelf Live w = tt

  pub shape_tells : (stage : Stage) → Tells (first_place count top t stage) (Shaped count top t stage)
  shape_tells stage =
      tells_like (first_place count top t stage)
      (λ w. record {
        policies = w.0.0;
        grants = w.0.1.0;
        locations = w.0.1.1.0;
        steps = w.0.1.1.1.0;
        trees = w.0.1.1.1.1;
        templates = w.1.0.0;
        patterns = w.1.0.1.0;
        commands = w.1.0.1.1.0;
        jobs = w.1.0.1.1.1;
        running = w.1.1.0.1;
        shelf = w.1.1.1.1.0;
        shelved = w.1.1.1.1.1;
        still = still stage w.1.1.0.0 w.1.1.1.0;
      })
      (λ w. (
        (w.policies, (w.grants, (w.locations, (w.steps, w.trees)))),
        (
          (w.templates, (w.patterns, (w.commands, w.jobs))),
          ((empty-running stage w.still, w.running), (empty-shelf stage w.still, (w.shelf, w.shelved))),
        ),
      ))
      (or_tells (ground_fault S t) (or_else (program_fault S t) (moving_fault S t stage)) ground_tells
      (λ _. or_tells (program_fault S t) (moving_fault S t stage) program_tells (λ _. moving_tells stage)))

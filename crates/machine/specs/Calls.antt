-- What the calls on a live network answer, and the network after them, where its tables have shape.
use Rattle.std.specs.Prelude.{ℕ, Bool, cond, List, [], ◌∷◌, ◌++◌, length, None, Some, Ok, Err, Option, Result, ◌==◌, nat_lt, slice_index_or}
use Rattle.std.specs.List.{slice_get}
use Rattle.order.specs.RoleSets.{opens_to}
use Rattle.rows.specs.declared.row.JobRow.{JobRow}
use Rattle.rows.specs.declared.row.LocationRow.{LocationRow}
use Rattle.rows.specs.declared.row.TreeLine.{TreeLine}
use Rattle.layout.specs.declared.memory.RunningRow.{RunningRow}
use Rattle.layout.specs.Network.{Network}
use Rattle.layout.specs.Zeros.{job0}
use Rattle.shape.specs.declared.place.Place.{Place}
use Rattle.rules.specs.declared.fault.Fault.{Fault}
use Rattle.rules.specs.declared.fault.Fault.TheVariants as fault
use Rattle.rooms.specs.declared.room.Room.TheVariants.{RunningJobs}
use Rattle.rooms.specs.Leaving.{without}
use Rattle.reduction.specs.Effects.{started}
use Rattle.machine.specs.declared.auditing.FaultRecord.{FaultRecord}
use Rattle.machine.specs.declared.denial.Missing.TheVariants.{Position, Location, Job}
use Rattle.machine.specs.declared.denial.Denial.{Denial}
use Rattle.machine.specs.declared.denial.Denial.TheVariants as denial

-- tables out of shape are told before all else
abbrev pub in_shape : {A : Type 0} → Option Place → Result A Denial → Result A Denial
in_shape None answer = answer
in_shape (Some place) answer = Err (denial.Shape place)

-- the network with other running jobs
abbrev pub with_running : Network → List RunningRow → Network
with_running n running = record { plan = n.plan; trees = n.trees; running = running; shelf = n.shelf }

-- ---- post

-- the row of the job that is to start: the location is looked for first, then the job, then their policies are compared, then
-- there has to be room
abbrev pub to_post : Option LocationRow → Option JobRow → ℕ → Result JobRow Denial
to_post None j running = Err (denial.Missing Location)
to_post (Some l) None running = Err (denial.Missing Job)
to_post (Some l) (Some j) running =
    cond (j.policy == l.policy) (cond (nat_lt running 64) (Ok j) (Err (denial.NoRoom RunningJobs))) (Err denial.OtherPolicy)

-- a posted job is the last of the running ones, and its position is told
abbrev pub position_of : ℕ → Result JobRow Denial → Result ℕ Denial
position_of position (Ok j) = Ok position
position_of position (Err d) = Err d

abbrev pub posted : Network → ℕ → ℕ → Result ℕ Denial
posted n location job = position_of (length n.running) (to_post (slice_get n.plan.locations location) (slice_get n.plan.jobs job) (length n.running))

abbrev pub after_post : Network → ℕ → ℕ → Network
after_post n location job = with_running n (n.running ++ (started location (slice_index_or n.plan.jobs job job0) ∷ []))

-- ---- recall

abbrev pub recalled : Network → ℕ → Result (Unit {0}) Denial
recalled n position = cond (nat_lt position (length n.running)) (Ok tt) (Err (denial.Missing Position))

-- the job is taken out, and later ones close up
abbrev pub after_recall : Network → ℕ → Network
after_recall n position = with_running n (without position n.running)

-- ---- show

-- the line, if it is open to the roles
abbrev pub if_open : (ℕ → ℕ → Bool) → ℕ → Option TreeLine → Option TreeLine
if_open below roles None = None
if_open below roles (Some x) = cond (opens_to below x.set roles) (Some x) None

abbrev pub shown : (ℕ → ℕ → Bool) → Network → ℕ → ℕ → ℕ → Option TreeLine
shown below n location row roles = if_open below roles (slice_get (slice_index_or n.trees location []) row)

-- nothing where the tables are out of shape
abbrev pub shown_in : Option Place → Option TreeLine → Option TreeLine
shown_in None line = line
shown_in (Some place) line = None

-- ---- audit

-- a fault as a row of a table and the rule that it breaks; shape is none of the rules
abbrev pub record_of : Fault → FaultRecord
record_of (fault.Shape place) = record { table = place.table; row = place.row; rule = None }
record_of (fault.Rule breach) = record { table = breach.table; row = breach.row; rule = Some breach.rule }

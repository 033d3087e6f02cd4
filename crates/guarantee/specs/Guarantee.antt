-- What holds at the start, and after every history of calls, of a network that was admitted.
use Rattle.std.specs.Prelude.{◌≡◌, ℕ, ◌<◌, ◌⊎◌, Bool, List, length, None, Some, Err, Option, Result}
use Rattle.layout.specs.declared.memory.Tables.{Tables}
use Rattle.layout.specs.Network.{network}
use Rattle.rules.specs.Admission.{Sound}
use Rattle.rooms.specs.declared.room.Room.{Room}
use Rattle.rooms.specs.Rooms.{lacking}
use Rattle.reduction.specs.Values.{job_at, tree_of}
use Rattle.reduction.specs.Effects.{Effect, aftermath}
use Rattle.reduction.specs.Access.{Touches, OpenTo}
use Rattle.machine.specs.declared.auditing.FaultRecord.{FaultRecord}
use Rattle.machine.specs.declared.denial.Missing.TheVariants.{Position}
use Rattle.machine.specs.declared.denial.Denial.{Denial}
use Rattle.machine.specs.declared.denial.Denial.TheVariants as denial
use Rattle.machine.specs.Stepping.{Outcome}
use Rattle.machine.specs.Hosting.{StepGranted, Stepped, Audited}
use Rattle.guarantee.specs.Histories.{Call, History}

-- under an order with so many roles, this top and this relation
module _ (count top : ℕ) (below : ℕ → ℕ → Bool) where
  module _ (t : Tables) where
    -- every edge that a granted step finds, copies or cuts is open to the roles that its job has when it begins, and so is every edge
    -- over it
    abbrev pub Access : Type 0
    Access =
        (position found : ℕ) (after : Tables) (g : StepGranted count top below t position found after)
        (i : ℕ) → i < length (tree_of (network t) (job_at (network t) position))
        → Touches below (network t) (job_at (network t) position) g.granted.verb i → OpenTo below (network t) (job_at (network t) position) i

    -- no running job stands at the position
    abbrev pub NoJob : ℕ → Type 0
    NoJob position = position < length (network t).running → ⊥

    -- this room is the first that is too small for what a step there would leave
    pub record Crowded (position : ℕ) (room : Room) : Type 0 where
      pub effect : Effect
      pub outcome : Outcome below (network t) position effect
      pub small : lacking (aftermath (network t) position effect) ≡ Some room

    -- a step is denied exactly when no running job stands at its position, or a room is too small for its outcome; and it is told which
    pub record Denials (position : ℕ) (answer : Result ℕ Denial) : Type 0 where
      pub missing : NoJob position → answer ≡ Err (denial.Missing Position)
      pub crowded : (room : Room) → Crowded position room → answer ≡ Err (denial.NoRoom room)
      pub only : (d : Denial) → answer ≡ Err d → NoJob position ⊎ ((room : Room) × Crowded position room)

    pub record Kept : Type 0 where
      -- the tables have shape, and the network keeps every typing rule
      pub sound : Sound count top below t
      -- an audit of it answers nothing
      pub quiet : (answer : Option FaultRecord) → Audited count top below t answer → answer ≡ None
      pub access : Access
      pub denials : (position : ℕ) (answer : Result ℕ Denial) (after : Tables) → Stepped count top below t position answer after → Denials position answer

  -- of the tables as they are, and of those after any list of calls
  abbrev pub Guarantee : Tables → Type 0
  Guarantee t = (calls : List Call) (after : Tables) → History count top below t calls after → Kept after

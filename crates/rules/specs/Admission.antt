-- Admission: a draft whose tables have shape and obey the typing rules becomes live.
use Rattle.std.specs.Prelude.{◌≡◌, ℕ, Bool, Some, None, Ok, Err, Option, Result}
use Rattle.std.specs.Option.{option_map}
use Rattle.layout.specs.declared.memory.Tables.{Tables}
use Rattle.layout.specs.Network.{network}
use Rattle.scan.specs.Scan.{or_else}
use Rattle.shape.specs.declared.place.Stage.{Stage}
use Rattle.shape.specs.declared.place.Stage.TheVariants as stage
use Rattle.shape.specs.Place.{first_place}
use Rattle.shape.specs.Shape.{Shaped}
use Rattle.tables.specs.declared.draft_state.Draft.{Draft}
use Rattle.breaches.specs.declared.breach.RuleBreach.{RuleBreach}
use Rattle.breaches.specs.Broken.{RuleBroken, SomeRunningBroken}
use Rattle.breaches.specs.Told.{rules_told, all_running_told}
use Rattle.breaches.specs.Words.{Obeys, RunningObeys}
use Rattle.rules.specs.declared.fault.Fault.{Fault}
use Rattle.rules.specs.declared.fault.Fault.TheVariants.{Shape, Rule}
use Rattle.rules.specs.declared.live.Live.{Live}

-- ---- in words

-- what is asked of both a draft and a live network, under an order with so many roles and this top
pub record Stands (count top : ℕ) (below : ℕ → ℕ → Bool) (t : Tables) (stage : Stage) : Type 0 where
  pub shape : Shaped count top t stage
  pub obeys : Obeys below top (network t)

-- a draft that is admitted
abbrev pub Admissible : ℕ → ℕ → (ℕ → ℕ → Bool) → Tables → Type 0
Admissible count top below t = Stands count top below t stage.Draft

-- a live network that is as it has to be: its running jobs obey too
pub record Sound (count top : ℕ) (below : ℕ → ℕ → Bool) (t : Tables) : Type 0 where
  pub stands : Stands count top below t stage.Live
  pub running : RunningObeys below (network t)

-- ---- as it is told

-- shape first, then the rules
abbrev pub standing_fault : ℕ → ℕ → (ℕ → ℕ → Bool) → Tables → Stage → Option Fault
standing_fault count top below t stage = or_else (option_map Shape (first_place count top t stage)) (option_map Rule (rules_told below top (network t)))

-- of a live network the running jobs last
abbrev pub live_fault : ℕ → ℕ → (ℕ → ℕ → Bool) → Tables → Option Fault
live_fault count top below t = or_else (standing_fault count top below t stage.Live) (option_map Rule (all_running_told below (network t)))

-- the tables are out of shape, or they have it and break this rule
abbrev pub StandingBroken : ℕ → ℕ → (ℕ → ℕ → Bool) → Tables → Stage → Fault → Type 0
StandingBroken count top below t stage (Shape place) = Shaped count top t stage → ⊥
StandingBroken count top below t stage (Rule breach) = Shaped count top t stage × RuleBroken below top (network t) breach

-- or all stands, and a running job breaks this rule
pub data LiveBroken (count top : ℕ) (below : ℕ → ℕ → Bool) (t : Tables) (fault : Fault) : Type 0 where
  by_standing : StandingBroken count top below t stage.Live fault → LiveBroken count top below t fault
  by_running : (breach : RuleBreach) → Stands count top below t stage.Live → SomeRunningBroken below (network t) breach → fault ≡ Rule breach
      → LiveBroken count top below t fault

-- ---- what is answered

-- a live network of the same tables, and how many jobs there are; or the draft as it was, and the fault
abbrev pub answered : Draft → ℕ → Option Fault → Result (Live × ℕ) (Draft × Fault)
answered draft jobs None = Ok (record { serial = draft.serial; jobs = jobs }, jobs)
answered draft jobs (Some fault) = Err (draft, fault)

-- what is accepted is admissible, and nothing that is admissible is refused
abbrev pub Decided : ℕ → ℕ → (ℕ → ℕ → Bool) → Tables → Result (Live × ℕ) (Draft × Fault) → Type 0
Decided count top below t (Ok live) = Admissible count top below t
Decided count top below t (Err refused) = (Admissible count top below t → ⊥) × StandingBroken count top below t stage.Draft refused.1

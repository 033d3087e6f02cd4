-- What each call on a live network answers, and what it leaves in the host's tables: they may hold anything, and tables out of shape
-- are told before all else. A call that is refused leaves them as they were; show and audit only read them.
use Rattle.std.specs.Prelude.{◌≡◌, ℕ, Bool, None, Some, Ok, Err, Option, Result, MatchResult}
use Rattle.std.specs.Option.{option_map}
use Rattle.layout.specs.declared.memory.Tables.{Tables}
use Rattle.layout.specs.Network.{Network, network, Holds}
use Rattle.rows.specs.declared.row.TreeLine.{TreeLine}
use Rattle.shape.specs.declared.place.Place.{Place}
use Rattle.shape.specs.declared.place.Stage.TheVariants as stage
use Rattle.shape.specs.Place.{first_place}
use Rattle.rules.specs.Admission.{live_fault}
use Rattle.rooms.specs.declared.room.Room.{Room}
use Rattle.rooms.specs.Rooms.{Aftermath, lacking, left_in}
use Rattle.machine.specs.declared.auditing.FaultRecord.{FaultRecord}
use Rattle.machine.specs.declared.denial.Denial.{Denial}
use Rattle.machine.specs.declared.denial.Denial.TheVariants as denial
use Rattle.machine.specs.Calls.{in_shape, posted, after_post, recalled, after_recall, shown, shown_in, record_of}
use Rattle.machine.specs.Stepping.{Granted, Denied}

-- what a step leaves at the location is written where there is room for it; else the first room that is too small is told
abbrev pub Settled : Tables → Network → ℕ → ℕ → Aftermath → Result ℕ Denial → Tables → Type 0
Settled before n location found a (Ok answer) after = (answer ≡ found) × (lacking a ≡ None) × Holds after (left_in n location a)
Settled before n location found a (Err d) after = (room : Room) × (lacking a ≡ Some room) × (d ≡ denial.NoRoom room) × (after ≡ before)

module _ (count top : ℕ) (below : ℕ → ℕ → Bool) (before : Tables) where
  -- the first place where the tables are out of shape, if there is one
  abbrev pub out_of_shape : Option Place
  out_of_shape = first_place count top before stage.Live

  abbrev pub PostAnswers : ℕ → ℕ → Result ℕ Denial → Type 0
  PostAnswers location job answer = answer ≡ in_shape out_of_shape (posted (network before) location job)

  abbrev pub PostLeaves : ℕ → ℕ → Result ℕ Denial → Tables → Type 0
  PostLeaves location job answer after = MatchResult answer (λ position. Holds after (after_post (network before) location job)) (λ d. after ≡ before)

  abbrev pub RecallAnswers : ℕ → Result (Unit {0}) Denial → Type 0
  RecallAnswers position answer = answer ≡ in_shape out_of_shape (recalled (network before) position)

  abbrev pub RecallLeaves : ℕ → Result (Unit {0}) Denial → Tables → Type 0
  RecallLeaves position answer after = MatchResult answer (λ done. Holds after (after_recall (network before) position)) (λ d. after ≡ before)

  -- a step is denied for tables out of shape, or for what it would do
  pub data StepDenied (position : ℕ) (d : Denial) : Type 0 where
    by_shape : (place : Place) → out_of_shape ≡ Some place → d ≡ denial.Shape place → StepDenied position d
    by_step : out_of_shape ≡ None → Denied below (network before) position d → StepDenied position d

  pub record StepGranted (position found : ℕ) (after : Tables) : Type 0 where
    pub shape : out_of_shape ≡ None
    pub network_after : Network
    pub granted : Granted below (network before) position found network_after
    pub holds : Holds after network_after

  abbrev pub Stepped : ℕ → Result ℕ Denial → Tables → Type 0
  Stepped position (Ok found) after = StepGranted position found after
  Stepped position (Err d) after = StepDenied position d × (after ≡ before)

  abbrev pub Shown : ℕ → ℕ → ℕ → Option TreeLine → Type 0
  Shown location row roles answer = answer ≡ shown_in out_of_shape (shown below (network before) location row roles)

  abbrev pub Audited : Option FaultRecord → Type 0
  Audited answer = answer ≡ option_map record_of (live_fault count top below before)

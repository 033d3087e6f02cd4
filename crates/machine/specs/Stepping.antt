-- A step of the job at a position, by the network before it: when it is granted, what it leaves, and when it is denied. `below a b`
-- reads "role a is at or below role b".
use Rattle.std.specs.Prelude.{◌≡◌, ℕ, ◌<◌, Bool, length, Some, None, Ok, Err, Result}
use Rattle.layout.specs.declared.memory.RunningRow.{RunningRow}
use Rattle.layout.specs.Network.{Network}
use Rattle.meaning.specs.declared.verbs.Verb.{Verb}
use Rattle.commands.specs.Rules.{SlotsAsk}
use Rattle.typing.specs.Flow.{verb_at}
use Rattle.breaches.specs.Words.{running_standing}
use Rattle.rooms.specs.declared.room.Room.{Room}
use Rattle.rooms.specs.Rooms.{lacking, left_in}
use Rattle.reduction.specs.Effects.{Effect, aftermath}
use Rattle.reduction.specs.Values.{job_at}
use Rattle.reduction.specs.Steps.{Reduces}
use Rattle.machine.specs.declared.denial.Missing.TheVariants.{Position}
use Rattle.machine.specs.declared.denial.Denial.{Denial}
use Rattle.machine.specs.declared.denial.Denial.TheVariants as denial

module _ (below : ℕ → ℕ → Bool) (n : Network) (position : ℕ) where
  -- a job runs there, and its command means this verb
  pub record Does (v : Verb) : Type 0 where
    pub runs : position < length n.running
    pub means : verb_at n.plan (job_at n position).command ≡ Some v

  -- each slot that the command uses was filled with what the use needs
  abbrev pub SlotsFit : Verb → Type 0
  SlotsFit v = SlotsAsk n.plan (running_standing n.plan (job_at n position)) v

  -- what the step brings about, before any room is counted
  pub record Outcome (e : Effect) : Type 0 where
    pub verb : Verb
    pub does : Does verb
    pub reduces : Reduces below n (job_at n position) verb e

  -- the step is granted, finds so many edges, and leaves this network
  pub record Granted (found : ℕ) (after : Network) : Type 0 where
    pub verb : Verb
    pub does : Does verb
    pub fits : SlotsFit verb
    pub effect : Effect
    pub reduces : Reduces below n (job_at n position) verb effect
    pub room : lacking (aftermath n position effect) ≡ None
    pub told : found ≡ effect.found
    pub left : after ≡ left_in n (job_at n position).location (aftermath n position effect)

  -- the step is denied: no job runs there; or a slot that its command uses is not fit for it; or a room is too small for what it would
  -- leave, and the first such room is told
  pub data Denied (d : Denial) : Type 0 where
    missing : (position < length n.running → ⊥) → d ≡ denial.Missing Position → Denied d
    unfit : (v : Verb) → Does v → (SlotsFit v → ⊥) → d ≡ denial.Unfit position → Denied d
    crowded : (v : Verb) → Does v → SlotsFit v → (e : Effect) → Reduces below n (job_at n position) v e
        → (room : Room) → lacking (aftermath n position e) ≡ Some room → d ≡ denial.NoRoom room → Denied d

  -- the job that is to make the step, and its verb, where a job runs there and its slots are fit; else why the step is denied
  abbrev pub ReadyFor : Result (RunningRow × Verb) Denial → Type 0
  ReadyFor (Ok found) = (found.0 ≡ job_at n position) × Does found.1 × SlotsFit found.1
  ReadyFor (Err d) = Denied d

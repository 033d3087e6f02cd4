-- A running job of tables that have shape.
use Rattle.std.proofs.Common.{◌≡◌, ℕ, ◌-◌, ◌<◌, Bool, eqb, length, get_or, Some, None, Ok, Option, IsSome, MatchOption, refl, sym, subst, ◌∙◌, arith}
use Rattle.std.specs.List.{slice_get}
use Rattle.std.proofs.lemmas.Bool.{cond-false, ne_eqb}
use Rattle.std.proofs.lemmas.Option.{get_or_from_slice_get, slice_get_within, slice_get-get_or}
use Rattle.rows.specs.declared.row.CommandRow.{CommandRow}
use Rattle.layout.specs.declared.memory.RunningRow.{RunningRow}
use Rattle.layout.specs.declared.memory.Tables.{Tables}
use Rattle.layout.specs.Network.{Network, network, Holds}
use Rattle.layout.specs.Zeros.{command0, no_running}
use Rattle.meaning.specs.declared.verbs.Verb.{Verb}
use Rattle.meaning.specs.Decoding.{verb_of}
use Rattle.shape.specs.declared.place.Stage.TheVariants as stage
use Rattle.shape.specs.Shape.{Shaped}
use Rattle.typing.specs.Flow.{command_at, verb_at}
use Rattle.rules.proofs.Readiness.{ready}
use Rattle.commands.specs.Rules.{SlotsAsk}
use Rattle.breaches.specs.Words.{running_standing}
use Rattle.reduction.specs.Values.{job_at}
use Rattle.machine.specs.declared.denial.Denial.TheVariants as denial
use Rattle.machine.specs.Stepping.{Does, Denied, unfit, ReadyFor}

-- the job of the position, if one runs there
pub job_there : (n : Network) (position : ℕ) (r : Option RunningRow) → r ≡ slice_get n.running position
    → MatchOption r (position < length n.running → ⊥) (λ job. (position < length n.running) × (job ≡ job_at n position))
job_there n position None e = λ h. let q : None ≡ Some (job_at n position) = e ∙ slice_get-get_or n.running position no_running h in absurd cc
job_there n position (Some job) e =
    (slice_get_within n.running position job (sym e), sym (get_or_from_slice_get n.running position job no_running (sym e)))

-- its command means a verb
pub means_verb : (count top : ℕ) (t : Tables) → Shaped count top t stage.Live → Holds t (network t) → (position : ℕ) → position < length (network t).running
    → IsSome (verb_at (network t).plan (job_at (network t) position).command)
means_verb count top t shape holds position h =
    let c = (job_at (network t) position).command in
    let some = (shape.running.own position h).command in
    let w = ready count top t stage.Live shape holds in
    let row = get_or (network t).plan.commands (c - 1) command0 in
    let there : command_at (network t).plan c ≡ row = cond-false (eqb c 0) command0 row (ne_eqb c 0 (λ e. omega (arith, e, some.0))) in
    subst (λ (q : CommandRow). IsSome (verb_of q)) (sym there) (w.flows.means (c - 1) (omega (arith, some.0, w.running position h)))

module _ (below : ℕ → ℕ → Bool) (n : Network) (position : ℕ) (job : RunningRow) (here : (position < length n.running) × (job ≡ job_at n position))
    (v : Verb) (m : verb_at n.plan job.command ≡ Some v) where
  does : Does below n position v
  does = record { runs = here.0; means = subst (λ (r : RunningRow). verb_at n.plan r.command ≡ Some v) here.1 m }

  pub not_fit : (SlotsAsk n.plan (running_standing n.plan job) v → ⊥) → Denied below n position (denial.Unfit position)
  not_fit bad = unfit v does (λ f. bad (subst (λ (r : RunningRow). SlotsAsk n.plan (running_standing n.plan r) v) (sym here.1) f)) refl

  pub is_fit : SlotsAsk n.plan (running_standing n.plan job) v → ReadyFor below n position (Ok (job, v))
  is_fit f = (here.1, does, subst (λ (r : RunningRow). SlotsAsk n.plan (running_standing n.plan r) v) here.1 f)

-- the same, of the job itself
pub means_here : (count top : ℕ) (t : Tables) → Shaped count top t stage.Live → Holds t (network t) → (position : ℕ) (job : RunningRow)
    → (position < length (network t).running) × (job ≡ job_at (network t) position) → IsSome (verb_at (network t).plan job.command)
means_here count top t shape holds position job here =
    subst (λ (r : RunningRow). IsSome (verb_at (network t).plan r.command)) (sym here.1) (means_verb count top t shape holds position here.0)

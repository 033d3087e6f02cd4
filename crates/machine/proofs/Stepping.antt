-- What a step that was put together and settled is, as a whole.
use Rattle.std.proofs.Common.{◌≡◌, ℕ, ◌<◌, Bool, None, Ok, Err, Result, length, refl, sym, subst, arith}
use Rattle.layout.specs.declared.memory.RunningRow.{RunningRow}
use Rattle.layout.specs.declared.memory.Tables.{Tables}
use Rattle.layout.specs.Network.{Network, network}
use Rattle.meaning.specs.declared.verbs.Verb.{Verb}
use Rattle.shape.specs.declared.place.Stage.TheVariants as stage
use Rattle.shape.specs.Shape.{Shaped}
use Rattle.rooms.specs.Rooms.{left_in}
use Rattle.reduction.specs.Values.{job_at}
use Rattle.reduction.specs.Effects.{Effect, aftermath}
use Rattle.reduction.specs.Steps.{Reduces}
use Rattle.machine.specs.declared.denial.Denial.{Denial}
use Rattle.machine.specs.Stepping.{Denied, ReadyFor, crowded}
use Rattle.machine.specs.Hosting.{out_of_shape, by_step, Settled, Stepped}

module _ (count top : ℕ) (below : ℕ → ℕ → Bool) (t : Tables) (position : ℕ) where
  abbrev n : Network
  n = network t

  -- the location of a running job is one of those that there can be
  pub there : Shaped count top t stage.Live → (job : RunningRow) → (position < length n.running) × (job ≡ job_at n position) → job.location < 16
  there shape job here =
      let low : (job_at n position).location < 16 = omega (arith, (shape.running.own position here.0).location) in
      subst (λ (r : RunningRow). r.location < 16) (sym here.1) low

  as_one : (v : Verb) → ReadyFor below n position (Ok (job_at n position, v)) → out_of_shape count top below t ≡ None → (e : Effect) → Reduces below n (job_at n position) v e
      → (r : Result ℕ Denial) (u : Tables) → Settled t n (job_at n position).location e.found (aftermath n position e) r u → Stepped count top below t position r u
  as_one v f s e q (Ok found) u w = record {
    shape = s;
    network_after = left_in n (job_at n position).location (aftermath n position e);
    granted = record { verb = v; does = f.1; fits = f.2; effect = e; reduces = q; room = w.1; told = w.0; left = refl };
    holds = w.2;
  }
  as_one v f s e q (Err d) u w = (by_step s (crowded v f.1 f.2 e q w.0 w.1 w.2), w.3)

  pub stepped : (job : RunningRow) (v : Verb) → ReadyFor below n position (Ok (job, v)) → out_of_shape count top below t ≡ None → (e : Effect) → Reduces below n job v e
      → (r : Result ℕ Denial) (u : Tables) → Settled t n job.location e.found (aftermath n position e) r u → Stepped count top below t position r u
  stepped job v f s e q r u w =
      as_one v (refl, f.1, f.2) s e (subst (λ (x : RunningRow). Reduces below n x v e) f.0 q) r u
      (subst (λ (x : RunningRow). Settled t n x.location e.found (aftermath n position e) r u) f.0 w)

  pub denied : (d : Denial) → Denied below n position d → out_of_shape count top below t ≡ None → Stepped count top below t position (Err d) t
  denied d why s = (by_step s why, refl)

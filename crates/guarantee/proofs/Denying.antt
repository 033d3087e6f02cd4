-- When a step on tables that hold a sound network is denied.
use Rattle.std.proofs.Common.{◌≡◌, ℕ, ◌⊎◌, Bool, None, Some, Ok, Err, Option, Result, sym, ap, ◌∙◌, subst, inl, inr}
use Rattle.layout.specs.declared.memory.Tables.{Tables}
use Rattle.layout.specs.Network.{network}
use Rattle.meaning.specs.declared.verbs.Verb.{Verb}
use Rattle.standing.specs.Sizes.{sizes_of}
use Rattle.rooms.specs.declared.room.Room.{Room}
use Rattle.rooms.specs.Rooms.{lacking}
use Rattle.reduction.specs.Effects.{Effect, aftermath}
use Rattle.reduction.specs.Values.{job_at}
use Rattle.reduction.specs.Steps.{Reduces}
use Rattle.reduction.specs.StepLaws.{OneEffect}
use Rattle.machine.specs.declared.denial.Missing.TheVariants.{Position}
use Rattle.machine.specs.declared.denial.Denial.{Denial}
use Rattle.machine.specs.declared.denial.Denial.TheVariants as denial
use Rattle.machine.specs.Stepping.{Does, SlotsFit, Denied, missing, unfit, crowded}
use Rattle.machine.specs.Hosting.{StepDenied, by_shape, by_step, Stepped}
use Rattle.keeping.specs.Keeping.{HoldsSound, KeepingLaws}
use Rattle.sustaining.specs.StepLaws.{StepLaws}
use Rattle.guarantee.specs.Guarantee.{NoJob, Crowded, Denials}

same_some : {X : Type 0} (o : Option X) (a b : X) → o ≡ Some a → o ≡ Some b → a ≡ b
same_some o a b e d = let q : Some a ≡ Some b = sym e ∙ d in cc

none_some : {X : Type 0} {A : Type 0} (o : Option X) (a : X) → o ≡ None → o ≡ Some a → A
none_some {X} {A} o a e d = let q : None ≡ Some a = sym e ∙ d in absurd cc

module _ (laws : KeepingLaws) (steps : StepLaws) (one : OneEffect) (count top : ℕ) (below : ℕ → ℕ → Bool) (t : Tables) (w : HoldsSound count top below t (network t)) (position : ℕ) where
  same_effect : (v x : Verb) (d e : Effect) → Does below (network t) position v → Does below (network t) position x
      → Reduces below (network t) (job_at (network t) position) v d → Reduces below (network t) (job_at (network t) position) x e → d ≡ e
  same_effect v x d e a b p q =
      let same : v ≡ x = same_some _ v x a.means b.means in
      one below (network t) (job_at (network t) position) x d e (subst (λ (y : Verb). Reduces below (network t) (job_at (network t) position) y d) same p) q

  fits : (v : Verb) → Does below (network t) position v → SlotsFit below (network t) position v
  fits v a =
      let r = steps.ready below (sizes_of count top t) (network t) w.sound position a.runs in
      subst (SlotsFit below (network t) position) (same_some _ r.0 v r.1 a.means) r.2

  -- why a step is denied
  why : (d : Denial) → StepDenied count top below t position d → Denied below (network t) position d
  why d (by_shape place e q) = none_some _ place (laws.shape count top below t (network t) w) e
  why d (by_step e q) = q

  no_job : (d : Denial) → NoJob count top below t position → Denied below (network t) position d → d ≡ denial.Missing Position
  no_job d none (missing h e) = e
  no_job d none (unfit v a f e) = absurd (none a.runs)
  no_job d none (crowded v a f e q room l x) = absurd (none a.runs)

  small : (d : Denial) (room : Room) → Crowded count top below t position room → Denied below (network t) position d → d ≡ denial.NoRoom room
  small d room c (missing h e) = absurd (h c.outcome.does.runs)
  small d room c (unfit v a f e) = absurd (f (fits v a))
  small d room c (crowded v a f e q other l x) =
      let same : e ≡ c.effect = same_effect v c.outcome.verb e c.effect a c.outcome.does q c.outcome.reduces in
      let rooms : other ≡ room = same_some _ other room (subst (λ (y : Effect). lacking (aftermath (network t) position y) ≡ Some other) same l) c.small in
      x ∙ ap denial.NoRoom rooms

  either : (d : Denial) → Denied below (network t) position d → NoJob count top below t position ⊎ ((room : Room) × Crowded count top below t position room)
  either d (missing h e) = inl h
  either d (unfit v a f e) = absurd (f (fits v a))
  either d (crowded v a f e q room l x) = inr (room, record { effect = e; outcome = record { verb = v; does = a; reduces = q }; small = l })

  pub denials : (answer : Result ℕ Denial) (after : Tables) → Stepped count top below t position answer after → Denials count top below t position answer
  denials (Ok found) after g = record {
    missing = λ none. absurd (none g.granted.does.runs);
    crowded = λ room c.
        let same : c.effect ≡ g.granted.effect = same_effect c.outcome.verb g.granted.verb c.effect g.granted.effect c.outcome.does g.granted.does c.outcome.reduces g.granted.reduces in
        none_some _ room g.granted.room (subst (λ (y : Effect). lacking (aftermath (network t) position y) ≡ Some room) same c.small);
    only = λ d e. absurd cc;
  }
  denials (Err d) after h = record {
    missing = λ none. ap Err (no_job d none (why d h.0));
    crowded = λ room c. ap Err (small d room c (why d h.0));
    only = λ x e. either d (why d h.0);
  }

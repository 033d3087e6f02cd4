-- What the layers above may use of steps, for every lawful order of roles.
use Rattle.std.specs.Prelude.{◌≡◌, ℕ, ◌<◌, Bool, length, Some}
use Rattle.layout.specs.Network.{Network}
use Rattle.meaning.specs.declared.verbs.Verb.{Verb}
use Rattle.commands.specs.Rules.{SlotsAsk}
use Rattle.typing.specs.Flow.{verb_at}
use Rattle.matching.specs.Matching.{policy_at}
use Rattle.breaches.specs.Words.{running_standing}
use Rattle.standing.specs.declared.sizes.Sizes.{Sizes}
use Rattle.reduction.specs.Access.{Touches, OpenTo}
use Rattle.reduction.specs.Effects.{Effect}
use Rattle.reduction.specs.Soundness.{NetworkSound, EffectSound}
use Rattle.reduction.specs.Steps.{Reduces}
use Rattle.reduction.specs.Values.{job_at, tree_of}

pub record StepLaws : Type 0 where
  -- what a step brings about is sound, rooms aside
  pub sound : (below : ℕ → ℕ → Bool) (s : Sizes) (n : Network) → NetworkSound below s n → (place : ℕ) → place < length n.running
      → (v : Verb) → verb_at n.plan (job_at n place).command ≡ Some v → (e : Effect) → Reduces below n (job_at n place) v e
      → EffectSound below s n.plan (policy_at n.plan (job_at n place).location) n.shelf e
  -- a running job's command means a verb, and its slots are fit for it
  pub ready : (below : ℕ → ℕ → Bool) (s : Sizes) (n : Network) → NetworkSound below s n → (place : ℕ) → place < length n.running
      → (v : Verb) × (verb_at n.plan (job_at n place).command ≡ Some v) × SlotsAsk n.plan (running_standing n.plan (job_at n place)) v
  -- every edge that a step touches is open to the job's roles, and so is every edge over it
  pub opens : (below : ℕ → ℕ → Bool) (s : Sizes) (n : Network) → NetworkSound below s n → (place : ℕ) → place < length n.running
      → (v : Verb) → verb_at n.plan (job_at n place).command ≡ Some v → (i : ℕ) → i < length (tree_of n (job_at n place))
      → Touches below n (job_at n place) v i → OpenTo below n (job_at n place) i

-- Forks and goes: the tree stays, and the job's successors are sound.
use Rattle.std.proofs.Common.{◌≡◌, ℕ, Bool, [], ◌++◌, map, Some, sym, subst, arith}
use Rattle.layout.specs.declared.memory.RunningRow.{RunningRow}
use Rattle.layout.specs.Network.{Network}
use Rattle.layout.specs.Zeros.{no_running}
use Rattle.meaning.specs.declared.verbs.Operand.{Operand}
use Rattle.meaning.specs.declared.verbs.Verb.TheVariants as verb
use Rattle.pasting.specs.Words.{least_of}
use Rattle.order.specs.RoleSets.{SetBelow}
use Rattle.typing.specs.Typing.{Typed}
use Rattle.typing.specs.Flow.{verb_at}
use Rattle.typing.proofs.Inversions.{parts, at_go}
use Rattle.matching.specs.Matching.{policy_at}
use Rattle.breaches.specs.Words.{running_standing}
use Rattle.standing.specs.declared.sizes.Sizes.{Sizes}
use Rattle.reduction.specs.Effects.{Effect, goes_on}
use Rattle.reduction.specs.Soundness.{JobSound, NetworkSound, EffectSound}
use Rattle.reduction.specs.Steps.{next_of, moved, Forks, Goes}
use Rattle.reduction.specs.Values.{tree_of, named}
use Rattle.sustaining.proofs.Lists.{each_append}
use Rattle.sustaining.proofs.Networks.{tree_sound, next_there, other_there, verb_there}
use Rattle.sustaining.proofs.Operands.{goal_there}
use Rattle.sustaining.proofs.Successors.{Successor, onward_sound, goes_on_sound, none_shelved}

module _ (below : ℕ → ℕ → Bool) (s : Sizes) (n : Network) (w : NetworkSound below s n) (r : RunningRow) (j : JobSound below s n.plan n.shelf r) where
  pub fork_sound : (other : ℕ) → verb_at n.plan r.command ≡ Some (verb.Fork other) → (e : Effect) → Forks below n r other e
      → EffectSound below s n.plan (policy_at n.plan r.location) n.shelf e
  fork_sound other v e q =
      let k = parts below n.plan j.typed.runs.typed (verb.Fork other) v in
      subst (EffectSound below s n.plan (policy_at n.plan r.location) n.shelf) (sym q)
      (none_shelved below s n.plan (policy_at n.plan r.location) n.shelf 0 (goes_on r (next_of n r) ++ goes_on r other) (tree_of n r)
      (each_append (Successor below s n.plan n.shelf []) no_running (goes_on r (next_of n r)) (goes_on r other)
      (goes_on_sound below s n.plan n.shelf [] w.counts.shelf r j (next_of n r) (next_there below s n w r j) k.next)
      (goes_on_sound below s n.plan n.shelf [] w.counts.shelf r j other (other_there below s n w r j other v) k.other))
      (tree_sound below s n w r))

  pub go_sound : (location : Operand) (roles : ℕ) → verb_at n.plan r.command ≡ Some (verb.Go location roles) → (e : Effect) → Goes below n r location roles e
      → EffectSound below s n.plan (policy_at n.plan r.location) n.shelf e
  go_sound location roles v e q =
      let k = at_go below n.plan (running_standing n.plan r) r.command location roles j.typed.runs.typed v in
      let to = named r.slots location in
      let g = goal_there below n.plan n.shelf r j.typed.slots location k.policy k.there in
      subst (EffectSound below s n.plan (policy_at n.plan r.location) n.shelf) (sym q)
      (none_shelved below s n.plan (policy_at n.plan r.location) n.shelf 0 (goes_on (moved r to roles) (next_of n r)) (tree_of n r)
      (onward_sound below s n.plan n.shelf [] w.counts.shelf r j to roles (next_of n r) (omega (arith, g.0, w.counts.locations)) (verb_there below s n w r j (verb.Go location roles) v).1
      (subst (λ (policy : ℕ). SetBelow below (least_of n.plan policy) roles) (sym g.1) k.least)
      (next_there below s n w r j)
      (subst (λ (policy : ℕ). Typed below n.plan (record { policy = policy; roles = roles; slots = map (λ x. x.pattern) r.slots }) (next_of n r)) (sym g.1) k.next))
      (tree_sound below s n w r))

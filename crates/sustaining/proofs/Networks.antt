-- What a sound network has at a location.
use Rattle.std.proofs.Common.{◌≡◌, ℕ, Bool, [], length, get_or, Some, sym, subst, inl, inr, arith}
use Rattle.std.proofs.lemmas.Bool.{cases_lt}
use Rattle.std.proofs.lemmas.List.{get_or_past}
use Rattle.layout.specs.declared.memory.RunningRow.{RunningRow}
use Rattle.layout.specs.Network.{Network}
use Rattle.meaning.specs.declared.verbs.Verb.{Verb}
use Rattle.meaning.specs.declared.verbs.Verb.TheVariants as verb
use Rattle.pasting.specs.Words.{least_of}
use Rattle.typing.specs.Flow.{verb_at}
use Rattle.matching.specs.Matching.{policy_at}
use Rattle.standing.specs.declared.sizes.Sizes.{Sizes}
use Rattle.standing.specs.Words.{VerbStands, TreeStands}
use Rattle.breaches.specs.Words.{TreeAtObeys}
use Rattle.reduction.specs.Soundness.{JobSound, NetworkSound}
use Rattle.reduction.specs.Steps.{next_of}
use Rattle.reduction.specs.Values.{tree_of}
use Rattle.replacing.specs.Sound.{Sound}
use Rattle.replacing.proofs.Sound.{sound}
use Rattle.sustaining.proofs.Continuing.{Onward, next_onward, other_onward, verb_stands}

none_stands : (s : Sizes) → TreeStands s []
none_stands s = record { each = λ i h. absurd (omega arith); first = λ h. absurd (omega arith); down = λ i h. absurd (omega arith); under = λ i h. absurd (omega arith) }

module _ (below : ℕ → ℕ → Bool) (s : Sizes) (n : Network) (w : NetworkSound below s n) where
  -- where there is no location, there is no tree
  pub tree_stands : (l : ℕ) → TreeStands s (get_or n.trees l [])
  tree_stands l = elim (cases_lt l (length n.trees)) [
    | inl h ↦ w.trees l h
    | inr h ↦ subst (TreeStands s) (sym (get_or_past n.trees l [] h)) (none_stands s)
  ]

  pub tree_obeys : (l : ℕ) → TreeAtObeys below n.plan l (get_or n.trees l [])
  tree_obeys l = elim (cases_lt l (length n.trees)) [
    | inl h ↦ w.obeys.trees l h
    | inr h ↦
        subst (TreeAtObeys below n.plan l) (sym (get_or_past n.trees l [] h))
        (record { least = λ i h. absurd (omega arith); above = λ i j h. absurd (omega arith); scripts = λ i h. absurd (omega arith) })
  ]

  -- the tree where a job runs
  pub tree_sound : (r : RunningRow) → Sound below s (least_of n.plan (policy_at n.plan r.location)) n.plan.jobs (policy_at n.plan r.location) (tree_of n r)
  tree_sound r =
      sound below s (least_of n.plan (policy_at n.plan r.location)) n.plan.jobs (policy_at n.plan r.location) (tree_of n r) (tree_stands r.location) (tree_obeys r.location)

  -- what follows the job's command
  module _ (r : RunningRow) (j : JobSound below s n.plan n.shelf r) where
    pub next_there : Onward s (next_of n r)
    next_there = next_onward s n.plan w.plan.commands w.counts.commands r.command j.stands.command.0 j.stands.command.1

    pub other_there : (other : ℕ) → verb_at n.plan r.command ≡ Some (verb.Fork other) → Onward s other
    other_there other e = other_onward s n.plan w.plan.commands w.counts.commands r.command j.stands.command.0 j.stands.command.1 other e

    pub verb_there : (v : Verb) → verb_at n.plan r.command ≡ Some v → VerbStands s v
    verb_there v e = verb_stands s n.plan w.plan.commands w.counts.commands r.command j.stands.command.0 j.stands.command.1 v e

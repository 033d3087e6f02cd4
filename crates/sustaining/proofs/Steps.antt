-- Each verb of a sound job brings about what is sound.
use Rattle.std.proofs.Common.{◌≡◌, ℕ, Bool, Some}
use Rattle.layout.specs.declared.memory.RunningRow.{RunningRow}
use Rattle.layout.specs.Network.{Network}
use Rattle.meaning.specs.declared.verbs.Verb.{Verb}
use Rattle.meaning.specs.declared.verbs.Verb.TheVariants as verb
use Rattle.typing.specs.Flow.{verb_at}
use Rattle.matching.specs.Matching.{policy_at}
use Rattle.standing.specs.declared.sizes.Sizes.{Sizes}
use Rattle.reduction.specs.Effects.{Effect}
use Rattle.reduction.specs.Soundness.{JobSound, NetworkSound, EffectSound}
use Rattle.reduction.specs.Steps.{Reduces}
use Rattle.sustaining.proofs.Changing.{change_sound}
use Rattle.sustaining.proofs.Moves.{fork_sound, go_sound}
use Rattle.sustaining.proofs.Reading.{read_sound}
use Rattle.sustaining.proofs.Recolourings.{enable_sound, disable_sound}
use Rattle.sustaining.proofs.Scripts.{run_sound}

module _ (below : ℕ → ℕ → Bool) (s : Sizes) (n : Network) (w : NetworkSound below s n) (r : RunningRow) (j : JobSound below s n.plan n.shelf r) where
  pub step_sound : (v : Verb) → verb_at n.plan r.command ≡ Some v → (e : Effect) → Reduces below n r v e → EffectSound below s n.plan (policy_at n.plan r.location) n.shelf e
  step_sound (verb.Fork other) v e q = fork_sound below s n w r j other v e q
  step_sound (verb.Go location roles) v e q = go_sound below s n w r j location roles v e q
  step_sound (verb.Run path) v e q = run_sound below s n w r j path v e q
  step_sound (verb.Read path row) v e q = read_sound below s n w r j path row v e q
  step_sound (verb.Change path row content) v e q = change_sound below s n w r j path row content v e q
  step_sound (verb.Enable path role) v e q = enable_sound below s n w r j path role v e q
  step_sound (verb.Disable path role) v e q = disable_sound below s n w r j path role v e q

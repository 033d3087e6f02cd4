-- A sound job's command can be done.
use Rattle.std.proofs.Common.{◌≡◌, ℕ, Bool, List, Some, None, Option, IsSome, refl}
use Rattle.std.proofs.lemmas.Bool.{false≢true}
use Rattle.layout.specs.declared.memory.RunningRow.{RunningRow}
use Rattle.layout.specs.Network.{TreeLines, Plan}
use Rattle.meaning.specs.declared.verbs.Verb.{Verb}
use Rattle.commands.specs.declared.rule.CommandRule.TheVariants as rule
use Rattle.commands.specs.Rules.{SlotsAsk}
use Rattle.typing.specs.Flow.{verb_at}
use Rattle.typing.proofs.Inversions.{parts, meant}
use Rattle.breaches.specs.Words.{running_standing}
use Rattle.standing.specs.declared.sizes.Sizes.{Sizes}
use Rattle.reduction.specs.Soundness.{JobSound}

some_verb : (o : Option Verb) → IsSome o → (v : Verb) × (o ≡ Some v)
some_verb None w = absurd (false≢true w)
some_verb (Some v) w = (v, refl)

pub can_step : (below : ℕ → ℕ → Bool) (s : Sizes) (p : Plan) (shelf : List TreeLines) (r : RunningRow) → JobSound below s p shelf r
    → (v : Verb) × (verb_at p r.command ≡ Some v) × SlotsAsk p (running_standing p r) v
can_step below s p shelf r w =
    let v = some_verb (verb_at p r.command) (meant below p (running_standing p r) r.command w.typed.runs.typed w.stands.command.0) in
    (v.0, v.1, (parts below p w.typed.runs.typed v.0 v.1).asks rule.Slots)

-- A step brings about one thing only.
use Rattle.std.specs.Prelude.{◌≡◌, ℕ, Bool}
use Rattle.layout.specs.declared.memory.RunningRow.{RunningRow}
use Rattle.layout.specs.Network.{Network}
use Rattle.meaning.specs.declared.verbs.Verb.{Verb}
use Rattle.reduction.specs.Effects.{Effect}
use Rattle.reduction.specs.Steps.{Reduces}

abbrev pub OneEffect : Type 0
OneEffect = (below : ℕ → ℕ → Bool) (n : Network) (r : RunningRow) (v : Verb) (d e : Effect) → Reduces below n r v d → Reduces below n r v e → d ≡ e

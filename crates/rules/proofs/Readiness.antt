-- Shape gives what the typing of commands rests on.
use Rattle.std.proofs.Common.{◌≡◌, ℕ, ◌≤◌, min, length, get_or, Some, None, Option, IsSome, refl, ap, subst, inl, inr, arith}
use Rattle.layout.specs.declared.memory.Tables.{Tables}
use Rattle.layout.specs.Held.{in_use}
use Rattle.layout.specs.Network.{network, Holds}
use Rattle.layout.specs.Zeros.{command0, job0, no_running}
use Rattle.meaning.specs.declared.verbs.Verb.{Verb}
use Rattle.meaning.specs.Decoding.{verb_of}
use Rattle.standing.specs.Sizes.{sizes_of}
use Rattle.standing.specs.Tests.{other_of}
use Rattle.standing.specs.Words.{Means, VerbStands, Later}
use Rattle.shape.specs.declared.place.Stage.{Stage}
use Rattle.shape.specs.Shape.{Shaped}
use Rattle.typing.specs.Flow.{Onward}
use Rattle.breaches.specs.Words.{Ready}

means_some : (P : Verb → Type 0) (o : Option Verb) → Means o P → IsSome o
means_some P None w = absurd w
means_some P (Some v) w = refl

pub ready : (count top : ℕ) (t : Tables) (stage : Stage) → Shaped count top t stage → Holds t (network t) → Ready (network t)
ready count top t stage shape holds = record {
  flows = record {
    means = λ row h. means_some (VerbStands (sizes_of count top t)) (verb_of (get_or (in_use t.commands) row command0)) (shape.commands.own.each row h);
    next = λ row h. onward row (get_or (in_use t.commands) row command0).next (shape.commands.own.next_later row h);
    other = λ row to h e. onward row to (subst (Later (sizes_of count top t) row) (ap other_of e) (shape.commands.own.other_later row h));
  };
  jobs = λ k h. inside (get_or (in_use t.jobs) k job0).command (shape.jobs.own k h).command.1;
  running = λ k h. inside (get_or (in_use t.running) k no_running).command (shape.running.own k h).command.1;
}
  where
    long : t.commands.count ≡ length (in_use t.commands)
    long = ap (λ (u : Tables). u.commands.count) holds.whole

    inside : (n : ℕ) → n ≤ min t.commands.count 255 → n ≤ length (in_use t.commands)
    inside n h = omega (arith, long)

    onward : (row to : ℕ) → Later (sizes_of count top t) row to → Onward (in_use t.commands) row to
    onward row to (inl z) = inl z
    onward row to (inr w) = inr (w.0, inside to w.1)

-- What is kept after every history of calls.
use Rattle.std.proofs.Common.{ap, ◌∙◌, ℕ, Bool}
use Rattle.order.specs.Laws.{Lawful}
use Rattle.layout.specs.declared.memory.Tables.{Tables}
use Rattle.layout.specs.Network.{network, Sized}
use Rattle.standing.specs.Sizes.{sizes_of}
use Rattle.rules.specs.Admission.{Admissible}
use Rattle.reduction.specs.StepLaws.{OneEffect}
use Rattle.std.specs.Option.{option_map}
use Rattle.machine.specs.Calls.{record_of}
use Rattle.keeping.specs.Keeping.{HoldsSound, KeepingLaws}
use Rattle.sustaining.specs.StepLaws.{StepLaws}
use Rattle.guarantee.specs.Guarantee.{Kept, Guarantee}
use Rattle.guarantee.proofs.Calling.{history_keeps}
use Rattle.guarantee.proofs.Denying.{denials}

module _ (laws : KeepingLaws) (steps : StepLaws) (one : OneEffect) (count top : ℕ) (below : ℕ → ℕ → Bool) where
  kept : (t : Tables) → HoldsSound count top below t (network t) → Kept count top below t
  kept t w = record {
    sound = (laws.sound count top below t (network t) w).1;
    quiet = λ answer e. e ∙ ap (option_map record_of) (laws.audit count top below t (network t) w);
    access = λ position found after g i h touched.
        steps.opens below (sizes_of count top t) (network t) w.sound position g.granted.does.runs g.granted.verb g.granted.does.means i h touched;
    denials = λ position answer after s. denials laws steps one count top below t w position answer after s;
  }

  pub guaranteed : Lawful count top below → (t : Tables) → Sized t → Admissible count top below t → Guarantee count top below t
  guaranteed law t z a calls after h = kept after (history_keeps laws steps count top below t after calls (laws.admitted count top below law t z a) h)

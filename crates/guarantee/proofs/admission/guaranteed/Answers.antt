use Rattle.std.proofs.Common.{ℕ, Bool, Ok, Err, Result}
use Rattle.layout.specs.declared.memory.Tables.{Tables}
use Rattle.std.specs.Result.{IfOk}
use Rattle.rules.specs.declared.fault.Fault.{Fault}
use Rattle.rules.specs.declared.live.Live.{Live}
use Rattle.rules.specs.Admission.{Admissible, Decided}
use Rattle.tables.specs.declared.draft_state.Draft.{Draft}
use Rattle.keeping.proofs.AllLaws.{keeping_laws}
use Rattle.reduction.proofs.One.{one_effect}
use Rattle.sustaining.proofs.AllLaws.{step_laws}
use Rattle.guarantee.specs.Guarantee.{Guarantee}
use Rattle.guarantee.proofs.Histories.{guaranteed}
use Rattle.guarantee.proofs.admission.guaranteed.Goals as goal

if_admitted : (count top : ℕ) (below : ℕ → ℕ → Bool) (t : Tables) → (Admissible count top below t → Guarantee count top below t)
    → (r : Result (Live × ℕ) (Draft × Fault)) → Decided count top below t r → IfOk r (λ live. Guarantee count top below t)
if_admitted count top below t f (Ok live) a = f a
if_admitted count top below t f (Err refused) a = tt

pub returns : goal.returns
returns g c = record {
  answer = c.admit.ensures.answer;
  decided = c.admit.ensures.decided;
  guarantee =
      if_admitted g.O.Order.COUNT g.O.Order.TOP (g.O.Order.below c.args.order.now) c.args.tables.now
      (guaranteed keeping_laws step_laws one_effect g.O.Order.COUNT g.O.Order.TOP (g.O.Order.below c.args.order.now) (g.met.O.Order.lawful c.args.order.now) c.args.tables.now c.sized.ensures.long)
      c.admit.result c.admit.ensures.decided;
}

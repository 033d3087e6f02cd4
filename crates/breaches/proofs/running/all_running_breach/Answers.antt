use Rattle.std.proofs.Common.{ℕ, ◌<◌, ◌≤◌, List, length, get_or, IfSome, ap, ◌∙◌, subst, sym}
use Rattle.layout.specs.declared.memory.RunningRow.{RunningRow}
use Rattle.layout.specs.Network.{network}
use Rattle.layout.specs.Zeros.{no_running}
use Rattle.typing.specs.Flow.{Flows}
use Rattle.breaches.specs.declared.breach.RuleBreach.{RuleBreach}
use Rattle.breaches.specs.Broken.{RunningBroken}
use Rattle.breaches.specs.Told.{first_told, running_told}
use Rattle.breaches.specs.Words.{RunningTyped}
use Rattle.breaches.proofs.Rowwise.{each_got, got_each, some_got}
use Rattle.breaches.proofs.running.all_running_breach.Goals as goal

pub returns : goal.returns
returns g c =
    let below = g.O.Order.below c.args.order.now in
    let plan = (network c.args.tables.now).plan in
    let shelf = (network c.args.tables.now).shelf in
    let rows = c.in_use.ensures.rows in
    let Clear : ℕ → RunningRow → Type 0 = λ k j. Flows plan.commands → j.command ≤ length plan.commands → RunningTyped below plan shelf j in
    let Keeps : ℕ → RunningRow → Type 0 = λ k j. RunningTyped below plan shelf j in
    let Breaks : ℕ → RunningRow → RuleBreach → Type 0 = RunningBroken below plan shelf in record {
      answer = c.first_told.ensures.answer ∙ ap (first_told (running_told below plan shelf) 0) rows;
      clear = λ f h e k l.
          let m = subst (λ (xs : List RunningRow). k < length xs) (sym rows) l in
          subst (λ (xs : List RunningRow). RunningTyped below plan shelf (get_or xs k no_running)) rows
          (each_got Clear c.in_use.result.now no_running (c.first_told.ensures.clear e) k m f (subst (λ (xs : List RunningRow). (get_or xs k no_running).command ≤ length plan.commands) (sym rows) (h k l)));
      keeps = λ w. c.first_told.ensures.keeps (got_each Keeps c.in_use.result.now no_running (subst (λ (xs : List RunningRow). (k : ℕ) → k < length xs → RunningTyped below plan shelf (get_or xs k no_running)) (sym rows) w));
      breaks = subst (λ (xs : List RunningRow). IfSome c.first_told.result (λ b. (k : ℕ) × (k < length xs) × RunningBroken below plan shelf k (get_or xs k no_running) b)) rows
          (some_got Breaks c.in_use.result.now no_running c.first_told.result c.first_told.ensures.breaks);
    }

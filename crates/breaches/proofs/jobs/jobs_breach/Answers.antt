use Rattle.std.proofs.Common.{ℕ, ◌<◌, ◌≤◌, List, length, get_or, IfSome, ap, ◌∙◌, subst, sym}
use Rattle.rows.specs.declared.row.JobRow.{JobRow}
use Rattle.layout.specs.Network.{network}
use Rattle.layout.specs.Zeros.{job0}
use Rattle.typing.specs.Flow.{Flows}
use Rattle.breaches.specs.declared.breach.RuleBreach.{RuleBreach}
use Rattle.breaches.specs.Broken.{JobBroken}
use Rattle.breaches.specs.Told.{first_told, job_told}
use Rattle.breaches.specs.Words.{JobTyped}
use Rattle.breaches.proofs.Rowwise.{each_got, got_each, some_got}
use Rattle.breaches.proofs.jobs.jobs_breach.Goals as goal

pub returns : goal.returns
returns g c =
    let below = g.O.Order.below c.args.order.now in
    let plan = (network c.args.tables.now).plan in
    let rows = c.in_use.ensures.rows in
    let Clear : ℕ → JobRow → Type 0 = λ k j. Flows plan.commands → j.command ≤ length plan.commands → JobTyped below plan j in
    let Keeps : ℕ → JobRow → Type 0 = λ k j. JobTyped below plan j in
    let Breaks : ℕ → JobRow → RuleBreach → Type 0 = JobBroken below plan in record {
      answer = c.first_told.ensures.answer ∙ ap (first_told (job_told below plan) 0) rows;
      clear = λ f h e k l.
          let m = subst (λ (xs : List JobRow). k < length xs) (sym rows) l in
          subst (λ (xs : List JobRow). JobTyped below plan (get_or xs k job0)) rows
          (each_got Clear c.in_use.result.now job0 (c.first_told.ensures.clear e) k m f (subst (λ (xs : List JobRow). (get_or xs k job0).command ≤ length plan.commands) (sym rows) (h k l)));
      keeps = λ w. c.first_told.ensures.keeps (got_each Keeps c.in_use.result.now job0 (subst (λ (xs : List JobRow). (k : ℕ) → k < length xs → JobTyped below plan (get_or xs k job0)) (sym rows) w));
      breaks = subst (λ (xs : List JobRow). IfSome c.first_told.result (λ b. (k : ℕ) × (k < length xs) × JobBroken below plan k (get_or xs k job0) b)) rows
          (some_got Breaks c.in_use.result.now job0 c.first_told.result c.first_told.ensures.breaks);
    }

use Rattle.std.proofs.Common.{ℕ, Err, Result, refl, sym, ap, subst, ◌∙◌}
use Rattle.std.proofs.lemmas.Result.{err_from_is_err_and}
use Rattle.layout.specs.Network.{network}
use Rattle.reduction.specs.Effects.{aftermath}
use Rattle.stepping.specs.declared.step.Reduced.{Reduced}
use Rattle.machine.specs.Hosting.{by_shape, Settled, Stepped}
use Rattle.machine.specs.declared.denial.Denial.{Denial}
use Rattle.machine.proofs.Stepping.{there, stepped, denied}
use Rattle.machine.proofs.moving.step.Goals as goal

pub returns-in-Some : goal.returns-in-Some
returns-in-Some g c = record { done = (by_shape c.in-Some.place (sym c.shape.ensures.place ∙ c.in-Some.is) refl, refl) }

pub ready-requires-clause-shaped : goal.ready-requires-clause-shaped
ready-requires-clause-shaped g c = c.shape.ensures.stands c.in_default.is

pub returns-in_err-job : goal.returns-in_err-job
returns-in_err-job g c =
    let e = err_from_is_err_and c.from_residual.result c.from_residual.ensures.1 in
    record {
      done =
          subst (λ (r : Result ℕ Denial). Stepped g.O.Order.COUNT g.O.Order.TOP (g.O.Order.below c.args.order.now) c.args.tables.now c.args.position r c.args.tables.now) (sym (e.1 ∙ ap Err e.2))
          (denied g.O.Order.COUNT g.O.Order.TOP (g.O.Order.below c.args.order.now) c.args.tables.now c.args.position c.in_err-job.field-0.0 c.in_err-job.ensures.says
          (sym c.shape.ensures.place ∙ c.in_default.is));
    }

pub reduce-reduced-requires-clause-shaped : goal.reduce-reduced-requires-clause-shaped
reduce-reduced-requires-clause-shaped g c = c.shape.ensures.stands c.in_default.is

pub settle-requires : goal.settle-requires
settle-requires g c = record {
  there =
      there g.O.Order.COUNT g.O.Order.TOP (g.O.Order.below c.args.order.now) c.args.tables.now c.args.position (c.shape.ensures.stands c.in_default.is) c.in_ok-job.job
      (c.in_ok-job.ensures.says.1.runs, c.in_ok-job.ensures.says.0);
}

pub returns : goal.returns
returns g c =
    let n = network c.args.tables.now in
    let holds = c.shape.ensures.holds c.in_default.is in
    let made = c.reduce-reduced.ensures.says in
    let settled = c.settle.ensures.says n (aftermath n c.args.position made.0) holds (ap (λ (r : Reduced). r.scratch) made.2) in
    record {
      done =
          stepped g.O.Order.COUNT g.O.Order.TOP (g.O.Order.below c.args.order.now) c.args.tables.now c.args.position c.in_ok-job.job c.in_ok-job.verb c.in_ok-job.ensures.says
          (sym c.shape.ensures.place ∙ c.in_default.is) made.0 made.1 c.settle.result c.settle.new.tables
          (subst (λ (x : ℕ). Settled c.args.tables.now n c.in_ok-job.job.location x (aftermath n c.args.position made.0) c.settle.result c.settle.new.tables) (ap (λ (r : Reduced). r.found) made.2) settled);
    }

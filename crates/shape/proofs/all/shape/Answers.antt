use Rattle.std.proofs.Common.{ap, sym, ◌∙◌}
use Rattle.standing.specs.declared.sizes.Sizes.{Sizes}
use Rattle.standing.specs.Sizes.{sizes_of}
use Rattle.shape.specs.Place.{place_of}
use Rattle.shape.proofs.Packing.{shaped_holds}
use Rattle.shape.proofs.Telling.{shape_tells}
use Rattle.shape.proofs.all.shape.Goals as goal

pub returns : goal.returns
returns g c =
    let size = g.O.Order.COUNT in
    let peak = g.O.Order.TOP in
    let place = c.place_of.ensures.answer ∙ ap (λ (s : Sizes). place_of s c.args.t.now c.args.stage) c.sizes_of.ensures.answer in
    let tells = shape_tells size peak c.args.t.now c.args.stage in
    record {
      place = place;
      stands = λ e. tells.0 (sym place ∙ e);
      told = λ w. place ∙ tells.1 w;
      holds = λ e. shaped_holds (sizes_of size peak c.args.t.now) c.args.t.now c.args.stage c.sized.ensures.long (tells.0 (sym place ∙ e));
    }

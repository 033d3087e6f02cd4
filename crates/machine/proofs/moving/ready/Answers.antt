use Rattle.std.proofs.lemmas.Bool.{both_ways}
use Rattle.layout.specs.Network.{network}
use Rattle.machine.proofs.Readying.{means_here, not_fit}
use Rattle.machine.proofs.moving.ready.Goals as goal

pub verb_of-verb-requires : goal.verb_of-verb-requires
verb_of-verb-requires g c = record {
  means = means_here g.O.Order.COUNT g.O.Order.TOP c.args.tables.now c.requires.shaped c.requires.holds c.args.position c.in-Some.job c.in-Some.ensures.says;
}

pub returns-then-not-slots_fit : goal.returns-then-not-slots_fit
returns-then-not-slots_fit g c = record {
  says =
      not_fit (g.O.Order.below c.args.order.now) (network c.args.tables.now) c.args.position c.in-Some.job c.in-Some.ensures.says c.verb_of-verb.result c.verb_of-verb.ensures.answer
      (λ f. both_ways c.slots_fit.result c.if-not-slots_fit.true (c.slots_fit.ensures.says.1 f));
}

use Rattle.std.proofs.Common.{sym, ap, subst, ◌∙◌}
use Rattle.layout.specs.declared.memory.RunningRow.{RunningRow}
use Rattle.layout.specs.Network.{network}
use Rattle.typing.specs.Flow.{verb_at}
use Rattle.stepping.specs.Ground.{Ground}
use Rattle.stepping.proofs.Assembled.{as_reduced}
use Rattle.stepping.proofs.Grounded.{grounded, named_there}
use Rattle.stepping.proofs.step.Step.reduce.Goals as goal

pub bring_about-found-requires-clause-ground : goal.bring_about-found-requires-clause-ground
bring_about-found-requires-clause-ground g c =
    let n = network c.args.self.now.tables.now in
    subst (Ground n) (sym c.requires.job) (grounded g.O.Order.COUNT g.O.Order.TOP c.args.self.now.tables.now c.requires.shaped c.requires.holds c.args.self.now.place c.requires.there)

pub bring_about-found-requires-clause-named : goal.bring_about-found-requires-clause-named
bring_about-found-requires-clause-named g c =
    let n = network c.args.self.now.tables.now in
    named_there g.O.Order.COUNT g.O.Order.TOP c.args.self.now.tables.now c.requires.shaped c.requires.holds c.args.self.now.place c.requires.there g.met.O.Order.few c.args.verb
    (ap (λ (r : RunningRow). verb_at n.plan r.command) (sym c.requires.job) ∙ c.requires.verb)

pub bring_about-found-requires-clause-begun : goal.bring_about-found-requires-clause-begun
bring_about-found-requires-clause-begun g c = c.begin-scratch.ensures.answer (network c.args.self.now.tables.now) c.requires.holds

pub returns : goal.returns
returns g c = record {
  says = as_reduced (g.O.Order.below c.args.self.now.order.now) (network c.args.self.now.tables.now) c.args.self.now.job c.args.self.now.place
      c.args.verb c.bring_about-found.result c.bring_about-found.new.scratch c.bring_about-found.ensures.says;
}

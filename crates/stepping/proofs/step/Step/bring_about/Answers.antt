use Rattle.layout.specs.Network.{network}
use Rattle.meaning.specs.declared.verbs.Verb.TheVariants as verb
use Rattle.rooms.specs.Leaving.{begun}
use Rattle.stepping.proofs.Assembled.{forked, gone, by_verb}
use Rattle.stepping.proofs.step.Step.bring_about.Goals as goal

pub returns-in-Fork : goal.returns-in-Fork
returns-in-Fork g c =
    let n = network c.args.self.now.tables.now in
    let r = c.args.self.now.job in
    record {
      says = by_verb (g.O.Order.below c.args.self.now.order.now) n r c.args.self.now.place (verb.Fork c.in-Fork.other) c.args.verb 0 c.fork.new.scratch c.in-Fork.is
          (forked (g.O.Order.below c.args.self.now.order.now) n r c.args.self.now.place c.in-Fork.other c.fork.new.scratch (c.fork.ensures.after (begun n c.args.self.now.place r.location) c.requires.begun));
    }

pub returns-in-Go : goal.returns-in-Go
returns-in-Go g c =
    let n = network c.args.self.now.tables.now in
    let r = c.args.self.now.job in
    record {
      says = by_verb (g.O.Order.below c.args.self.now.order.now) n r c.args.self.now.place (verb.Go c.in-Go.location c.in-Go.roles) c.args.verb 0 c.go.new.scratch c.in-Go.is
          (gone (g.O.Order.below c.args.self.now.order.now) n r c.args.self.now.place c.in-Go.location c.in-Go.roles c.go.new.scratch (c.go.ensures.after (begun n c.args.self.now.place r.location) c.requires.begun));
    }

pub returns-in-Run : goal.returns-in-Run
returns-in-Run g c =
    let n = network c.args.self.now.tables.now in
    let r = c.args.self.now.job in
    record { says = by_verb (g.O.Order.below c.args.self.now.order.now) n r c.args.self.now.place (verb.Run c.in-Run.path) c.args.verb c.run.result c.run.new.scratch c.in-Run.is c.run.ensures.says }

pub returns-in-Read : goal.returns-in-Read
returns-in-Read g c =
    let n = network c.args.self.now.tables.now in
    let r = c.args.self.now.job in
    record { says = by_verb (g.O.Order.below c.args.self.now.order.now) n r c.args.self.now.place (verb.Read c.in-Read.path c.in-Read.pattern) c.args.verb c.read.result c.read.new.scratch c.in-Read.is c.read.ensures.says }

pub returns-in-Change : goal.returns-in-Change
returns-in-Change g c =
    let n = network c.args.self.now.tables.now in
    let r = c.args.self.now.job in
    record { says = by_verb (g.O.Order.below c.args.self.now.order.now) n r c.args.self.now.place (verb.Change c.in-Change.path c.in-Change.pattern c.in-Change.content) c.args.verb c.change.result c.change.new.scratch c.in-Change.is c.change.ensures.says }

pub returns-in-Enable : goal.returns-in-Enable
returns-in-Enable g c =
    let n = network c.args.self.now.tables.now in
    let r = c.args.self.now.job in
    record { says = by_verb (g.O.Order.below c.args.self.now.order.now) n r c.args.self.now.place (verb.Enable c.in-Enable.path c.in-Enable.role) c.args.verb c.enable.result c.enable.new.scratch c.in-Enable.is c.enable.ensures.says }

pub returns-in-Disable : goal.returns-in-Disable
returns-in-Disable g c =
    let n = network c.args.self.now.tables.now in
    let r = c.args.self.now.job in
    record { says = by_verb (g.O.Order.below c.args.self.now.order.now) n r c.args.self.now.place (verb.Disable c.in-Disable.path c.in-Disable.role) c.args.verb c.disable.result c.disable.new.scratch c.in-Disable.is c.disable.ensures.says }

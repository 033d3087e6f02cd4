use Rattle.std.proofs.Common.{arith}
use Rattle.layout.specs.Held.{in_use}
use Rattle.replacing.specs.Pasting.{given}
use Rattle.changes.specs.Pastes.{held}
use Rattle.changes.proofs.Filling.{template_low}
use Rattle.changes.proofs.Cutting.{changed_none, changed_turn, changed_all}
use Rattle.changes.proofs.change.Change.apply.Goals as goal

pub loop-row-init : goal.loop-row-init
loop-row-init c =
    let s = c.args.self.now in
    let give = given s.content (held s.slots.now) s.own (in_use s.templates.now) c.args.tree.now in
    changed_none c.args.flags.now give c.args.tree.now c.empty-out.result c.empty-out.ensures.answer

pub put_line-cut-requires-clause-low : goal.put_line-cut-requires-clause-low
put_line-cut-requires-clause-low c = template_low 500 (in_use c.args.self.now.templates.now) c.requires.low

pub loop-row-preserved : goal.loop-row-preserved
loop-row-preserved c =
    let s = c.args.self.now in
    let give = given s.content (held s.slots.now) s.own (in_use s.templates.now) c.args.tree.now in
    changed_turn c.args.flags.now give c.args.tree.now c.loop-row.row c.loop-row-test.true c.loop-row.cut c.loop-row.out c.loop-row.invariant c.put_line-cut.result
    c.put_line-cut.new.out c.put_line-cut.ensures.says

pub returns : goal.returns
returns c =
    let s = c.args.self.now in
    let give = given s.content (held s.slots.now) s.own (in_use s.templates.now) c.args.tree.now in
    record { says = changed_all c.args.flags.now give c.args.tree.now c.loop-row.row c.loop-row.cut c.loop-row.out (omega arith) c.loop-row.invariant }

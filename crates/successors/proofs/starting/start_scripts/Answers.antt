use Rattle.std.proofs.Common.{◌≡◌, ◌<◌, length, ◌∙◌, arith}
use Rattle.layout.specs.Network.{network}
use Rattle.successors.proofs.More.{none_started, one_started, not_started, all_started}
use Rattle.successors.proofs.starting.start_scripts.Goals as goal
use Rattle.successors.proofs.starting.start_scripts.Goals.{then-flags-row, else-flags-row}

pub loop-row-init : goal.loop-row-init
loop-row-init c = none_started (network c.args.tables.now).plan c.args.location c.args.tree.now c.args.flags.now c.args.scratch.now

pub loop-row-preserved : goal.loop-row-preserved
loop-row-preserved c =
    let p = (network c.args.tables.now).plan in
    let inside : c.loop-row.row < length c.args.flags.now = omega (arith, c.loop-row-test.true, c.requires.few, c.told-flags) in
    elim c.if-flags-row.branch [
      | then-flags-row w ↦ λ a e. w.scratch-is ∙ one_started p c.args.location c.args.tree.now c.args.flags.now c.args.scratch.now c.loop-row.row c.loop-row.scratch w.start_script.new.scratch
          inside w.if-flags-row.true c.loop-row.invariant w.start_script.ensures.after a e
      | else-flags-row w ↦ λ a e. w.scratch-is ∙ not_started p c.args.location c.args.tree.now c.args.flags.now c.args.scratch.now c.loop-row.row c.loop-row.scratch
          inside w.if-flags-row.false c.loop-row.invariant a e
    ]

pub returns : goal.returns
returns c =
    let end : c.loop-row.row ≡ length c.args.tree.now = omega (arith, c.loop-row.auto.row-end, c.loop-row-test.false) in
    record {
      after = all_started (network c.args.tables.now).plan c.args.location c.args.tree.now c.args.flags.now c.args.scratch.now c.requires.flags
          c.loop-row.row end c.loop-row.scratch c.loop-row.invariant;
    }

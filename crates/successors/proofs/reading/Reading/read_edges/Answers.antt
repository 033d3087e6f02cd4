use Rattle.std.proofs.Common.{◌≡◌, ◌<◌, length, ◌∙◌, arith}
use Rattle.successors.proofs.More.{none_read, one_read, not_read, all_read}
use Rattle.successors.proofs.reading.Reading.read_edges.Goals as goal
use Rattle.successors.proofs.reading.Reading.read_edges.Goals.{then-flags-row, else-flags-row}

pub loop-row-init : goal.loop-row-init
loop-row-init c =
    let r = c.args.self.now in
    record {
      read = none_read r.job r.next r.pattern r.filler c.args.tree.now c.args.flags.now c.args.first c.args.scratch.now;
      small = c.requires.first;
    }

pub loop-row-preserved : goal.loop-row-preserved
loop-row-preserved c =
    let r = c.args.self.now in
    let inside : c.loop-row.row < length c.args.flags.now = omega (arith, c.loop-row-test.true, c.requires.few, c.told-flags) in
    elim c.if-flags-row.branch [
      | then-flags-row w ↦
          let read = one_read r.job r.next r.pattern r.filler c.args.tree.now c.args.flags.now c.args.first c.args.scratch.now c.loop-row.row c.loop-row.number c.loop-row.scratch w.read_edge.new.scratch
          inside w.if-flags-row.true c.loop-row.invariant.read w.read_edge.ensures.after in
          record {
            read = record { scratch = λ a e. w.scratch-is ∙ read.scratch a e; numbered = w.number-is ∙ read.numbered };
            small = omega (arith, w.number-is, c.loop-row.invariant.small);
          }
      | else-flags-row w ↦
          let read = not_read r.job r.next r.pattern r.filler c.args.tree.now c.args.flags.now c.args.first c.args.scratch.now c.loop-row.row c.loop-row.number c.loop-row.scratch
          inside w.if-flags-row.false c.loop-row.invariant.read in
          record {
            read = record { scratch = λ a e. w.scratch-is ∙ read.scratch a e; numbered = w.number-is ∙ read.numbered };
            small = omega (arith, w.number-is, c.loop-row.invariant.small);
          }
    ]

pub returns : goal.returns
returns c =
    let r = c.args.self.now in
    let end : c.loop-row.row ≡ length c.args.tree.now = omega (arith, c.loop-row.auto.row-end, c.loop-row-test.false) in
    record {
      after = all_read r.job r.next r.pattern r.filler c.args.tree.now c.args.flags.now c.args.first c.args.scratch.now c.requires.flags
          c.loop-row.row end c.loop-row.number c.loop-row.scratch c.loop-row.invariant.read;
    }

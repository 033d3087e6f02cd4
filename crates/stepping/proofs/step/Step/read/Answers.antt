use Rattle.std.proofs.Common.{[], ◌==◌, cond, length, refl}
use Rattle.layout.specs.Network.{network}
use Rattle.edges.specs.Rows.{flagged_rows, flagged_count}
use Rattle.reduction.specs.Values.{tree_of}
use Rattle.reduction.specs.Effects.{copies, readers}
use Rattle.reduction.specs.Steps.{next_of}
use Rattle.rooms.specs.Leaving.{begun}
use Rattle.stepping.proofs.Assembled.{left_copies}
use Rattle.stepping.proofs.step.Step.read.Goals as goal

pub returns : goal.returns
returns g c =
    let r = c.args.self.now.job in
    let n = network c.args.self.now.tables.now in
    let flags = c.count.ensures.says.0 in
    let matches = c.matched-matches.result in
    let jobs = cond (next_of n r == 0) [] (readers r (next_of n r) c.pattern-pattern.result c.args.row (tree_of n r) (length n.shelf) (flagged_rows matches)) in
    let copied = cond (next_of n r == 0) [] (copies c.pattern-pattern.result (tree_of n r) (flagged_rows matches)) in
    record {
      says = (
        record { found = flagged_count flags; jobs = jobs; copies = copied; tree = tree_of n r },
        record {
          pattern = c.pattern-pattern.result;
          there = c.pattern-pattern.ensures.answer;
          flags = flags;
          found = c.count.ensures.says.1;
          matches = matches;
          matched = c.matched-matches.ensures.says;
          effect = refl;
        },
        record {
          count = c.count.ensures.says.2;
          left = left_copies n c.args.self.now.place r.location c.read_flagged.new.scratch jobs copied (c.read_flagged.ensures.after (begun n c.args.self.now.place r.location) c.requires.begun);
        },
      );
    }

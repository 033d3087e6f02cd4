use Rattle.std.proofs.Common.{[], ◌++◌, refl}
use Rattle.layout.specs.Network.{network}
use Rattle.edges.specs.Rows.{flagged_rows, flagged_count}
use Rattle.reduction.specs.Values.{tree_of}
use Rattle.reduction.specs.Effects.{goes_on, scripts}
use Rattle.reduction.specs.Steps.{next_of}
use Rattle.rooms.specs.Leaving.{begun}
use Rattle.stepping.proofs.Assembled.{left_two}
use Rattle.stepping.proofs.step.Step.run.Goals as goal

pub returns : goal.returns
returns g c =
    let r = c.args.self.now.job in
    let n = network c.args.self.now.tables.now in
    let flags = c.found-flags.result in
    let next = goes_on r (next_of n r) in
    let started = scripts n.plan r.location (tree_of n r) (flagged_rows flags) in
    record {
      says = (
        record { found = flagged_count flags; jobs = next ++ started; copies = []; tree = tree_of n r },
        record { flags = flags; found = c.found-flags.ensures.says; effect = refl },
        record {
          count = c.count_found.ensures.answer;
          left = left_two n c.args.self.now.place r.location c.run_flagged.new.scratch next started (c.run_flagged.ensures.after (begun n c.args.self.now.place r.location) c.requires.begun);
        },
      );
    }

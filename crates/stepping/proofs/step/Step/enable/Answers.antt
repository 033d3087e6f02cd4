use Rattle.std.proofs.Common.{[], refl}
use Rattle.layout.specs.Network.{network}
use Rattle.edges.specs.Rows.{flagged_count}
use Rattle.reduction.specs.Effects.{goes_on}
use Rattle.reduction.specs.Steps.{next_of}
use Rattle.rooms.specs.Leaving.{begun}
use Rattle.stepping.proofs.Assembled.{left_tree}
use Rattle.stepping.proofs.step.Step.enable.Goals as goal

pub returns : goal.returns
returns g c =
    let r = c.args.self.now.job in
    let n = network c.args.self.now.tables.now in
    let flags = c.count.ensures.says.0 in
    let after = c.enabled.ensures.says.0 in
    let next = goes_on r (next_of n r) in
    record {
      says = (
        record { found = flagged_count flags; jobs = next; copies = []; tree = after },
        record { flags = flags; found = c.count.ensures.says.1; after = after; enabled = c.enabled.ensures.says.1; effect = refl },
        record {
          count = c.count.ensures.says.2;
          left = left_tree n c.args.self.now.place r.location c.leave.new.scratch after next
              (c.leave.ensures.after (begun n c.args.self.now.place r.location) after c.requires.begun c.enabled.ensures.says.2);
        },
      );
    }

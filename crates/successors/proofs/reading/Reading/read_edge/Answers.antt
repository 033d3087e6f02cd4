use Rattle.std.proofs.Common.{[], ◌∷◌, ap, ◌∙◌}
use Rattle.rooms.specs.Rooms.{scratch_of}
use Rattle.reduction.specs.Effects.{copies, reader}
use Rattle.successors.specs.Successors.{with_jobs}
use Rattle.successors.proofs.More.{as_joined, job_and_copies}
use Rattle.successors.proofs.reading.Reading.read_edge.Goals as goal

pub returns : goal.returns
returns c =
    let r = c.args.self.now in
    let job = reader r.job r.next r.pattern r.filler c.args.tree.now c.args.number c.args.row in
    record {
      after = λ a e. job_and_copies c.copy.new.scratch a job (copies r.pattern c.args.tree.now (c.args.row ∷ []))
          (c.copy.ensures.after (with_jobs a (job ∷ []))
          (as_joined c.join.new.self a c.reader.result (c.join.ensures.after a e) ∙ ap (λ j. scratch_of (with_jobs a (j ∷ []))) c.reader.ensures.answer));
    }

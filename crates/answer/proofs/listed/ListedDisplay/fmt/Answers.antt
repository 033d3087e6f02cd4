use Rattle.std.proofs.Common.{rules}
use Rattle.std.proofs.Output.{has_written_append, has_written_of_eq}
use Rattle.answer.specs.Listing.{head_text}
use Rattle.answer.proofs.Fields.{one_more}
use Rattle.answer.proofs.listed.ListedDisplay.fmt.Goals as goal

pub loop-field-preserved : goal.loop-field-preserved
loop-field-preserved g c = λ p.
    let l = c.args.self.now in
    has_written_of_eq _ _ _ _ _ (one_more (head_text l.line l.place l.kind) l.fields.now c.loop-field.field-index c.loop-field-test.true)
    (has_written_append _ _ _ _ _ _ (c.loop-field.invariant p) (search rules))

use Rattle.std.proofs.Common.{ap, ◌∙◌}
use Rattle.sheet.specs.Fields.{values}
use Rattle.sheet.specs.Kinds.{widths}
use Rattle.listing.proofs.Steps.{one_more, all_done}
use Rattle.listing.proofs.lister.fields_of.Goals as goal

pub loop-width-preserved : goal.loop-width-preserved
loop-width-preserved c =
    one_more _ _ _ c.widths-widths.result.now c.loop-width.width-index c.loop-width.at c.stretch-bytes.result.now _ c.field_at-value.result
    c.loop-width-test.true c.field_at-value.ensures.answer c.in_ok-push.ensures.items c.loop-width.invariant

pub returns : goal.returns
returns c =
    let ws = c.widths-widths.ensures.answer ∙ ap widths c.kind.ensures.answer in
    record {
      answer =
          all_done _ _ c.widths-widths.result.now c.loop-width.width-index c.loop-width.at c.stretch-bytes.result.now c.loop-width-test.false c.loop-width.invariant
          ∙ ap (λ l. values l 0 c.stretch-bytes.result.now) ws
          ∙ ap (values (widths _) 0) c.stretch-bytes.ensures.answer;
    }

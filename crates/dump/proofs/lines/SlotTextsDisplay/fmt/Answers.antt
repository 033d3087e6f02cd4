use Rattle.std.proofs.Common.{refl}
use Rattle.std.proofs.Output.{has_written_append, has_written_of_eq}
use Rattle.layout.specs.Zeros.{slot0}
use Rattle.dump.proofs.Slots.{slots_more}
use Rattle.dump.proofs.lines.SlotTextsDisplay.fmt.Goals as goal

pub loop-number-preserved : goal.loop-number-preserved
loop-number-preserved g c = λ plain.
    let old = c.loop-number.invariant plain in
    has_written_of_eq _ _ _ _ _ (slots_more _ _ slot0 c.loop-number-test.true) (has_written_append _ _ _ _ _ _ old (c.in_ok-write.ensures.writes old.plain refl))

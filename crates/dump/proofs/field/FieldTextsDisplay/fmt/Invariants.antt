use Rattle.std.proofs.Common.{take}
use Rattle.std.specs.Fmt.{HasWritten, IsPlainFormatter}
use Rattle.dump.specs.Texts.{fields_text}
use Rattle.dump.proofs.field.FieldTextsDisplay.fmt.Given as goal

-- the fields so far are written
abbrev pub invariant-loop-field : goal.invariant-loop-field
invariant-loop-field g l = IsPlainFormatter l.initial.f → HasWritten g.W.Write.write_str_gives l.initial.f (fields_text (take l.field-index l.field-items)) l.f

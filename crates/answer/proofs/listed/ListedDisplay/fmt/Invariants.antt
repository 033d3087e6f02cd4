use Rattle.std.proofs.Common.{◌++◌, take}
use Rattle.std.specs.Fmt.{HasWritten, IsPlainFormatter}
use Rattle.answer.specs.Listing.{head_text, fields_text}
use Rattle.answer.proofs.listed.ListedDisplay.fmt.Given as goal

abbrev pub invariant-loop-field : goal.invariant-loop-field
invariant-loop-field g l =
    IsPlainFormatter l.fn.f
    → HasWritten g.W.Write.write_str_gives l.fn.f (head_text l.self.line l.self.place l.self.kind ++ fields_text (take l.field-index l.field-items)) l.f

use Rattle.std.proofs.Common.{take}
use Rattle.std.specs.Fmt.{HasWritten, IsPlainFormatter}
use Rattle.dump.specs.Dumping.{slots_text}
use Rattle.dump.proofs.lines.SlotTextsDisplay.fmt.Given as goal

-- the slots so far are written
abbrev pub invariant-loop-number : goal.invariant-loop-number
invariant-loop-number g l = IsPlainFormatter l.initial.f → HasWritten g.W.Write.write_str_gives l.initial.f (slots_text 0 (take l.number l.slot-items)) l.f

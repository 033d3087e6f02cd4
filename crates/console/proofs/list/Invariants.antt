use Rattle.std.proofs.Common.{◌-◌, length}
use Rattle.console.proofs.list.Given as goal

-- each line that is listed took a byte of the sheet at least
abbrev pub decreases-loop-text : goal.decreases-loop-text
decreases-loop-text l = length l.listing.reader.sheet.now - l.listing.line

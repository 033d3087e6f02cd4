use Rattle.std.proofs.Common.{◌≡◌, ◌≤◌, length, drop}
use Rattle.sheet.specs.Fields.{fields_end}
use Rattle.sheet.proofs.finding.skip_fields.Given as goal

abbrev pub invariant-loop-width : goal.invariant-loop-width
invariant-loop-width l =
    (l.at ≤ l.place)
    × (l.place ≤ length l.bytes)
    × (fields_end (drop l.width-index l.widths) l.place l.bytes ≡ fields_end l.widths l.at l.bytes)

use Rattle.std.proofs.Common.{◌≡◌, ◌-◌}
use Rattle.tables.proofs.Turns.{Sofar}
use Rattle.tables.proofs.lines.file_lines.Given as goal

abbrev pub invariant-loop-placed : goal.invariant-loop-placed
invariant-loop-placed l = record {
  same_reference : l.filing.tables.ghost_name ≡ l.initial.filing.tables.ghost_name;
  so_far : Sofar l.sheet l.reader.sheet.now l.line l.reader.place l.filing.before l.reader.frame l.filing.tables.now;
}

abbrev pub decreases-loop-placed : goal.decreases-loop-placed
decreases-loop-placed l = l.reader.frame.end - l.reader.place

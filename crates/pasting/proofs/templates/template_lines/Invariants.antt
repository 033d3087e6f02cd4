use Rattle.std.proofs.Common.{◌≡◌, ◌≤◌, ◌++◌, drop, length}
use Rattle.layout.specs.Held.{in_use}
use Rattle.pasting.specs.Templates.{template_lines}
use Rattle.pasting.proofs.templates.template_lines.Given as goal

abbrev pub invariant-loop-row : goal.invariant-loop-row
invariant-loop-row l = record {
  lines : in_use l.lines ++ template_lines (drop l.row-index l.row-items) l.template ≡ template_lines (in_use l.templates) l.template;
  room : l.lines.count ≤ l.row-index;
  long : length l.lines.rows ≡ 256;
}

use Rattle.std.proofs.Common.{◌+◌, ◌≤◌}
use Rattle.successors.proofs.More.{ReadTo}
use Rattle.successors.proofs.reading.Reading.read_edges.Given as goal

abbrev pub invariant-loop-row : goal.invariant-loop-row
invariant-loop-row l = record {
  read : ReadTo l.self.job l.self.next l.self.pattern l.self.filler l.tree l.flags l.first l.fn.scratch l.row l.number l.scratch;
  small : l.number ≤ 64 + l.row;
}

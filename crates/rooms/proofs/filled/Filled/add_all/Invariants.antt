use Rattle.std.proofs.Common.{◌≡◌, drop}
use Rattle.rooms.specs.Filled.{added_all}
use Rattle.rooms.proofs.filled.Filled.add_all.Given as goal

abbrev pub invariant-loop-row : goal.invariant-loop-row
invariant-loop-row g l = added_all g.row.N l.self (drop l.row-index l.rows) ≡ added_all g.row.N l.fn.self l.rows

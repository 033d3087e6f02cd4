use Rattle.std.proofs.Common.{◌≡◌, ◌++◌, take}
use Rattle.dump.specs.Dumping.{texts, numbered}
use Rattle.dump.proofs.dumping.Written.rows.Given as goal

-- the rows so far are written
abbrev pub invariant-loop-number : goal.invariant-loop-number
invariant-loop-number g l = texts l.self.lines ≡ texts l.initial.self.lines ++ numbered (g.P.Place.text l.place) 0 (take l.number l.rows)

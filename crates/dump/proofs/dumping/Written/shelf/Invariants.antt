use Rattle.std.proofs.Common.{◌≡◌, ◌++◌, drop}
use Rattle.layout.specs.Held.{in_use}
use Rattle.dump.specs.Dumping.{texts, shelf_lines}
use Rattle.dump.proofs.dumping.Written.shelf.Given as goal

-- what is written so far, and the trees to come, are the whole shelf
abbrev pub invariant-loop-tree : goal.invariant-loop-tree
invariant-loop-tree l = texts l.self.lines ++ shelf_lines l.tree (drop l.tree l.length-items) l.lines ≡ texts l.initial.self.lines ++ shelf_lines 0 (in_use l.shelf.trees) l.shelf.lines

use Rattle.std.proofs.Common.{◌≡◌, ◌-◌, [], drop, get_or}
use Rattle.layout.specs.Held.{in_use}
use Rattle.layout.specs.Network.{pieces}
use Rattle.matching.proofs.shelves.shelved.Given as goal

abbrev pub invariant-loop-before : goal.invariant-loop-before
invariant-loop-before l =
    get_or (pieces (drop l.before-index (in_use l.shelf.trees)) l.rest) (l.tree - l.before-index) [] ≡ get_or (pieces (in_use l.shelf.trees) l.shelf.lines) l.tree []

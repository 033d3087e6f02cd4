use Rattle.std.proofs.Common.{◌≡◌}
use Rattle.rights.specs.Bringing.{brought_to}
use Rattle.rights.proofs.bringing.brought_by.Given as goal

abbrev pub invariant-loop-right : goal.invariant-loop-right
invariant-loop-right l = l.all ≡ brought_to l.code l.right

use Rattle.std.proofs.Common.{◌≡◌, drop}
use Rattle.obeying.specs.TreeLaws.{lowered}
use Rattle.outcomes.specs.Outcomes.{added_all}
use Rattle.replacing.specs.Pasting.{filled}
use Rattle.changes.specs.Pastes.{held_at}
use Rattle.changes.proofs.putting.put_filled.Given as goal

abbrev pub invariant-loop-line : goal.invariant-loop-line
invariant-loop-line l =
    added_all l.out (lowered l.levels (filled (held_at l.slots) (drop l.line-index l.template)))
    ≡ added_all l.initial.out (lowered l.levels (filled (held_at l.slots) l.template))

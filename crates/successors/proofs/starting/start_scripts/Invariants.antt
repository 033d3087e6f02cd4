use Rattle.layout.specs.Network.{network}
use Rattle.successors.proofs.More.{Started}
use Rattle.successors.proofs.starting.start_scripts.Given as goal

abbrev pub invariant-loop-row : goal.invariant-loop-row
invariant-loop-row l = Started (network l.tables).plan l.location l.tree l.flags l.fn.scratch l.row l.scratch

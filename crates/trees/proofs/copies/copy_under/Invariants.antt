use Rattle.edges.proofs.CopiedLines.{CopiedTo}
use Rattle.trees.proofs.copies.copy_under.Given as goal

abbrev pub invariant-loop-line : goal.invariant-loop-line
invariant-loop-line l = CopiedTo l.depth l.line-items l.line-index l.copy

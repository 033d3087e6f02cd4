use Rattle.std.proofs.Common.{◌-◌, drop, length, vec_items}
use Rattle.words.specs.Cutting.{texts}
use Rattle.words.specs.Saying.{pairs_from}
use Rattle.words.proofs.Draws.{Sofar}
use Rattle.words.proofs.argument.Arguments.pairs.Given as goal

abbrev pub invariant-loop-self : goal.invariant-loop-self
invariant-loop-self l =
    Sofar (vec_items l.pairs) l.self.place (texts l.self.words.now) (pairs_from l.fn.self.place (drop l.fn.self.place (texts l.fn.self.words.now)))

abbrev pub decreases-loop-self : goal.decreases-loop-self
decreases-loop-self l = length l.self.words.now - l.self.place

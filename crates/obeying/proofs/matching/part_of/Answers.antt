use Rattle.std.proofs.Common.{refl, arith}
use Rattle.obeying.proofs.Parts.{Decides-part}
use Rattle.obeying.proofs.matching.part_of.Goals as goal

pub returns : goal.returns
returns c = record { answer = refl; says = Decides-part c.args.a c.args.b (omega arith) (omega arith) }

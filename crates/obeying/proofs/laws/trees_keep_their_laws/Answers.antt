use Rattle.obeying.specs.TreeLaws.{under, lowered}
use Rattle.obeying.proofs.Copies.{one_above, empty, copies, copied_under, copied_down, copied_back, lower_least}
use Rattle.obeying.specs.Rules.{line}
use Rattle.std.proofs.Common.{◌+◌}
use Rattle.obeying.proofs.laws.trees_keep_their_laws.Goals as goal

pub returns : goal.returns
returns c = record {
  laws = record {
    one_above = one_above;
    empty = λ below least jobs policy top all. empty top all;
    copies = λ below least jobs policy tree behind up down copy c w. copies tree behind up down copy c w;
    part = λ below least jobs policy tree i w. copies tree (i + 1) (line tree i).depth 0 (under tree i) (copied_under tree i) w;
    put_under = λ below least jobs policy tree levels w. copies tree 0 0 levels (lowered levels tree) (copied_down levels tree) w;
    put_back = λ below least jobs policy tree levels w. copies (lowered levels tree) 0 levels 0 tree (copied_back levels tree) w;
    lower_least = λ count top below law least lower jobs policy tree l w. lower_least law least lower jobs policy tree l w;
  };
}

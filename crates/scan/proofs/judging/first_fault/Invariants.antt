use Rattle.std.proofs.Common.{◌≡◌, drop}
use Rattle.scan.specs.Scan.{scan}
use Rattle.scan.proofs.judging.first_fault.Given as goal

abbrev pub invariant-loop-i : goal.invariant-loop-i
invariant-loop-i g l =
    scan (λ b i x. g.T.Judged.passes l.names b i x) g.T.Judged.after l.before l.i (drop l.i l.rows)
    ≡ scan (λ b i x. g.T.Judged.passes l.names b i x) g.T.Judged.after g.T.Judged.first 0 l.rows

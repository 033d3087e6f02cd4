use Rattle.std.proofs.Common.{◌≡◌, ℕ, ◌<◌, true, take}
use Rattle.std.specs.List.{list_all}
use Rattle.obeying.specs.Rules.{line}
use Rattle.pasting.specs.Words.{LineFits}
use Rattle.pasting.specs.Tests.{line_fits}
use Rattle.pasting.proofs.fitting.lines_fit.Given as goal

abbrev pub invariant-loop-line : goal.invariant-loop-line
invariant-loop-line l = record {
  answer : list_all (line_fits l.patterns l.slots) (take l.line-index l.tree) ≡ true;
  says : (k : ℕ) → k < l.line-index → LineFits l.patterns l.slots (line l.tree k);
}

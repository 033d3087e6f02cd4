-- The numbers of the rules.
use Rattle.std.specs.Prelude.{ℕ}
use Rattle.obeying.specs.Rules as trees
use Rattle.commands.specs.Rules as commands
use Rattle.breaches.specs.declared.breach.Rule.{Rule}
use Rattle.breaches.specs.declared.breach.Rule.TheVariants as rule

abbrev pub number_of : Rule → ℕ
number_of rule.Grant = 1
number_of (rule.Tree r) = trees.number_of r
number_of (rule.Command r) = commands.number_of r
number_of rule.Filled = 12

use Rattle.std.proofs.Common.{◌≡◌, ℕ, Bool, true, not, Some, None, Option, sym, refl, ◌∙◌, is_some}
use Rattle.standing.proofs.Trees.{tree-tells}
use Rattle.tree_cases.proofs.standing_lines.stands_among.Goals as goal

none_from : (o : Option ℕ) (b : Bool) → is_some o ≡ not b → b ≡ true → o ≡ None
none_from None b e q = refl
none_from (Some x) b e q = cc

pub returns : goal.returns
returns c = record { says = λ e. (tree-tells c.args.names.now c.args.tree.now).0 (sym c.first_fault.ensures.answer ∙ none_from c.first_fault.result c.is_none.result c.is_none.ensures e) }

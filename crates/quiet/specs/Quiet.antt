-- Of what obeys nothing is told. The calls say so of tables (and the other way too); here it is said of the definitions alone,
-- for every lawful order, so that laws of networks can rest on it.
use Rattle.std.specs.Prelude.{◌≡◌, ℕ, Bool, true, List, None}
use Rattle.order.specs.Laws.{Lawful}
use Rattle.order.specs.RoleSets.{SetBelow, set_below}
use Rattle.rows.specs.declared.row.JobRow.{JobRow}
use Rattle.layout.specs.Network.{TreeLines, Plan, Network}
use Rattle.obeying.specs.Rules.{TreeObeys, Matches}
use Rattle.obeying.specs.Breaches.{tree_breach, tree_matches}
use Rattle.commands.specs.declared.standing.Standing.{Standing}
use Rattle.typing.specs.Typing.{Typed}
use Rattle.typing.specs.Telling.{told}
use Rattle.breaches.specs.Told.{rules_told, all_running_told}
use Rattle.breaches.specs.Words.{Obeys, RunningObeys}

pub record Quiet : Type 0 where
  pub sets : (count top : ℕ) (below : ℕ → ℕ → Bool) → Lawful count top below → (a b : ℕ) → SetBelow below a b → set_below below a b ≡ true
  pub trees : (count top : ℕ) (below : ℕ → ℕ → Bool) → Lawful count top below → (least : ℕ) (jobs : List JobRow) (policy : ℕ) (tree : TreeLines)
      → TreeObeys below least jobs policy tree → tree_breach below least jobs policy tree ≡ None
  pub matches : (count top : ℕ) (below : ℕ → ℕ → Bool) → Lawful count top below → (least : ℕ) (jobs : List JobRow) (policy topmost all : ℕ) (tree : TreeLines)
      → Matches below least jobs policy topmost all tree → tree_matches below least jobs policy topmost all tree ≡ true
  pub commands : (count top : ℕ) (below : ℕ → ℕ → Bool) → Lawful count top below → (p : Plan) (s : Standing) (c : ℕ) → Typed below p s c → told below p s c ≡ None
  pub network : (count top : ℕ) (below : ℕ → ℕ → Bool) → Lawful count top below → (n : Network) → Obeys below top n → rules_told below top n ≡ None
  pub running : (count top : ℕ) (below : ℕ → ℕ → Bool) → Lawful count top below → (n : Network) → RunningObeys below n → all_running_told below n ≡ None

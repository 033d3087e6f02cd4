-- The worked cases of trees, as theorems on the definitions that the contracts use: one table, a field for each case.
use Rattle.std.specs.Prelude.{◌≡◌, ℕ, Bool, List, [], ◌∷◌}
use Rattle.order.specs.RoleSets.{with_role}
use Rattle.drawn.specs.Pairs.{only_top, joined}
use Rattle.rows.specs.declared.row.PathStepRow.{PathStepRow}
use Rattle.rows.specs.declared.row.TreeLine.{TreeLine}
use Rattle.layout.specs.Network.{TreeLines}
use Rattle.obeying.specs.Rules.{TreeObeys}
use Rattle.edges.specs.Paths.{Found}
use Rattle.edges.specs.Enabling.{Enabled}
use Rattle.edges.specs.Disabling.{Disabled}

-- the set of these roles
abbrev pub roles : List ℕ → ℕ
roles [] = 0
roles (r ∷ rs) = with_role (roles rs) r

-- the order drawn from the pair (1, 2) alone
unfoldable pub one_pair : ℕ → ℕ → Bool
one_pair = joined only_top 1 2

-- ---- tree M: edge 7 over edge 8 with 1900 and edge 9 with 12

abbrev pub branch : ℕ → ℕ → ℕ → TreeLine
branch depth label set = record { depth = depth; label = label; set = set; content = 0; first = 0; second = 0 }

abbrev pub number : ℕ → ℕ → ℕ → ℕ → TreeLine
number depth label set n = record { depth = depth; label = label; set = set; content = 1; first = n; second = 0 }

-- with the sets of edges 8 and 9
abbrev pub tree_with : ℕ → ℕ → TreeLines
tree_with eight nine = branch 1 7 (roles (0 ∷ 1 ∷ [])) ∷ number 2 8 eight 1900 ∷ number 2 9 nine 12 ∷ []

abbrev pub tree_m : TreeLines
tree_m = tree_with (roles (0 ∷ 2 ∷ [])) (roles (0 ∷ 1 ∷ []))

-- edge 6 over edge 7 over edge 8, with the sets of edges 7 and 8
abbrev pub chain_with : ℕ → ℕ → TreeLines
chain_with seven eight = branch 1 6 (roles (0 ∷ 1 ∷ [])) ∷ branch 2 7 seven ∷ branch 3 8 eight ∷ []

-- ---- paths

abbrev pub step : ℕ → ℕ → PathStepRow
step label set = record { path = 0; label = label; set = set }

-- the tree obeys a policy with this least set; it has no scripts
abbrev pub Obeys : ℕ → TreeLines → Type 0
Obeys least tree = TreeObeys one_pair least [] 0 tree

pub record TreeCases : Type 0 where
  -- M obeys rules 2 and 3 where the least set is {1}
  pub obeys : Obeys (roles (1 ∷ [])) tree_m
  -- {0} over {0,2} breaks rule 3, whatever the least set
  pub rule_3 : (least : ℕ) → Obeys least (branch 1 7 (roles (0 ∷ [])) ∷ branch 2 8 (roles (0 ∷ 2 ∷ [])) ∷ []) → ⊥
  -- 7{1}/8{2} finds edge 8, and nothing else
  pub finds_one : Found one_pair (step 7 (roles (1 ∷ [])) ∷ step 8 (roles (2 ∷ [])) ∷ []) tree_m 1
  pub finds_no_other : (i : ℕ) → Found one_pair (step 7 (roles (1 ∷ [])) ∷ step 8 (roles (2 ∷ [])) ∷ []) tree_m i → i ≡ 1
  -- 7{1}/8{1} finds nothing
  pub finds_none : (i : ℕ) → Found one_pair (step 7 (roles (1 ∷ [])) ∷ step 8 (roles (1 ∷ [])) ∷ []) tree_m i → ⊥
  -- enable 1 by 7{1}: edge 8 becomes {0,1,2}, edge 9 stays
  pub enables : (after : TreeLines) → Enabled one_pair (step 7 (roles (1 ∷ [])) ∷ []) 1 tree_m after
      → after ≡ tree_with (roles (0 ∷ 1 ∷ 2 ∷ [])) (roles (0 ∷ 1 ∷ []))
  -- disable 1 by 7{1}: edge 8 stays, edge 9 becomes {0}
  pub disables : (after : TreeLines) → Disabled one_pair (step 7 (roles (1 ∷ [])) ∷ []) 1 tree_m after
      → after ≡ tree_with (roles (0 ∷ 2 ∷ [])) (roles (0 ∷ []))
  -- disable 1 by 6{1}: edges 7 and 8 become {0}
  pub disables_down : (after : TreeLines) → Disabled one_pair (step 6 (roles (1 ∷ [])) ∷ []) 1 (chain_with (roles (0 ∷ 1 ∷ [])) (roles (0 ∷ 2 ∷ []))) after
      → after ≡ chain_with (roles (0 ∷ [])) (roles (0 ∷ []))

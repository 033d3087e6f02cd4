-- The worked cases, as theorems on the definitions that the contracts use: one table, a field for each case.
use Rattle.std.specs.Prelude.{◌≡◌, ℕ, Bool, true, false, List, [], ◌∷◌}
use Rattle.order.specs.RoleSets.{SetBelow, with_role}
use Rattle.drawn.specs.Draws.{Least}
use Rattle.rights.specs.Bringing.{rights_below}
use Rattle.rows.specs.declared.row.TreeLine.{TreeLine}
use Rattle.layout.specs.Network.{TreeLines}
use Rattle.obeying.specs.Rules.{TreeObeys}

-- the set of these roles
abbrev pub roles : List ℕ → ℕ
roles [] = 0
roles (r ∷ rs) = with_role (roles rs) r

-- the pairs (a, b) that are drawn: only (1, 2)
abbrev pub pairs : List (ℕ × ℕ)
pairs = (1, 2) ∷ []

-- what holds of every relation that draw may give for these pairs
abbrev pub WhenDrawn : ((ℕ → ℕ → Bool) → Type 0) → Type 0
WhenDrawn P = (below : ℕ → ℕ → Bool) → Least pairs below → P below

-- an edge with a tree below it, and one with a number
abbrev pub branch : ℕ → ℕ → ℕ → TreeLine
branch depth label set = record { depth = depth; label = label; set = set; content = 0; first = 0; second = 0 }

abbrev pub number : ℕ → ℕ → ℕ → ℕ → TreeLine
number depth label set n = record { depth = depth; label = label; set = set; content = 1; first = n; second = 0 }

-- tree M: edge 7 over edge 8 with 1900 and edge 9 with 12
abbrev pub tree_m : TreeLines
tree_m = branch 1 7 (roles (0 ∷ 1 ∷ [])) ∷ number 2 8 (roles (0 ∷ 2 ∷ [])) 1900 ∷ number 2 9 (roles (0 ∷ 1 ∷ [])) 12 ∷ []

pub record WorkedCases : Type 0 where
  -- {0,1} ≤ {2}: role 1 is at or below role 2
  pub pair_reaches_up : WhenDrawn (λ below. SetBelow below (roles (0 ∷ 1 ∷ [])) (roles (2 ∷ [])))
  -- not {0,2} ≤ {1}: the pair does not reach down
  pub pair_does_not_reach_down : WhenDrawn (λ below. SetBelow below (roles (0 ∷ 2 ∷ [])) (roles (1 ∷ [])) → ⊥)
  -- not {0,1} ≤ {1,3}: role 1 alone does not do for role 3
  pub every_role_is_asked : WhenDrawn (λ below. SetBelow below (roles (0 ∷ 1 ∷ [])) (roles (1 ∷ 3 ∷ [])) → ⊥)
  -- in the rights order 2 and 3 are each at or below the other
  pub right_1_brings_right_0 : (rights_below 2 3 ≡ true) × (rights_below 3 2 ≡ true)
  -- and 8 is not at or below 16
  pub right_3_is_not_under_right_4 : rights_below 8 16 ≡ false
  -- tree M obeys a policy whose least set is {1}; it has no scripts
  pub tree_m_obeys : WhenDrawn (λ below. TreeObeys below (roles (1 ∷ [])) [] 0 tree_m)
  -- {0} over {0,2} breaks rule 3, whatever the least set
  pub top_alone_over_2 : WhenDrawn (λ below. (least : ℕ) → TreeObeys below least [] 0 (branch 1 7 (roles (0 ∷ [])) ∷ branch 2 8 (roles (0 ∷ 2 ∷ [])) ∷ []) → ⊥)

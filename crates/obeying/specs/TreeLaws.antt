-- What the layers above may use of trees that obey, for every order of roles.
use Rattle.std.specs.Prelude.{◌≡◌, ℕ, ◌+◌, ◌-◌, ◌<◌, Bool, cond, List, [], ◌∷◌, length, drop, nat_lt}
use Rattle.order.specs.Laws.{Lawful}
use Rattle.order.specs.RoleSets.{SetBelow}
use Rattle.rows.specs.declared.row.TreeLine.{TreeLine}
use Rattle.rows.specs.declared.row.JobRow.{JobRow}
use Rattle.layout.specs.Network.{TreeLines}
use Rattle.obeying.specs.Rules.{line, Above, TreeObeys, Matches}

-- the copy is the stretch of the tree that begins behind so many lines, moved up by `up` levels or down by `down`. Labels and
-- second values may differ: no rule asks about them
pub record Copied (tree : TreeLines) (behind up down : ℕ) (copy : TreeLines) : Type 0 where
  pub inside : (k : ℕ) → k < length copy → behind + k < length tree
  pub depth : (k : ℕ) → k < length copy → (line copy k).depth + up ≡ (line tree (behind + k)).depth + down
  pub set : (k : ℕ) → k < length copy → (line copy k).set ≡ (line tree (behind + k)).set
  pub content : (k : ℕ) → k < length copy → (line copy k).content ≡ (line tree (behind + k)).content
  pub first : (k : ℕ) → k < length copy → (line copy k).first ≡ (line tree (behind + k)).first

abbrev pub at_depth : TreeLine → ℕ → TreeLine
at_depth x depth = record { depth = depth; label = x.label; set = x.set; content = x.content; first = x.first; second = x.second }

-- the lines up to the first that is not deeper than this, as a tree on its own
abbrev pub deeper_than : ℕ → TreeLines → TreeLines
deeper_than depth [] = []
deeper_than depth (x ∷ xs) = cond (nat_lt depth x.depth) (at_depth x (x.depth - depth) ∷ deeper_than depth xs) []

-- what lies under line i, as a tree on its own
abbrev pub under : TreeLines → ℕ → TreeLines
under tree i = deeper_than (line tree i).depth (drop (i + 1) tree)

-- so many levels further down, as a tree is put under an edge
abbrev pub lowered : ℕ → TreeLines → TreeLines
lowered levels [] = []
lowered levels (x ∷ xs) = at_depth x (x.depth + levels) ∷ lowered levels xs

pub record TreeLaws : Type 0 where
  -- there is at most one edge above
  pub one_above : (tree : TreeLines) (i j k : ℕ) → Above tree j i → Above tree k i → j ≡ k
  -- the empty tree matches every tree pattern
  pub empty : (below : ℕ → ℕ → Bool) (least : ℕ) (jobs : List JobRow) (policy top all : ℕ) → Matches below least jobs policy top all []
  -- obeying is kept when a stretch of the tree is copied
  pub copies : (below : ℕ → ℕ → Bool) (least : ℕ) (jobs : List JobRow) (policy : ℕ) (tree : TreeLines) (behind up down : ℕ) (copy : TreeLines)
      → Copied tree behind up down copy → TreeObeys below least jobs policy tree → TreeObeys below least jobs policy copy
  pub part : (below : ℕ → ℕ → Bool) (least : ℕ) (jobs : List JobRow) (policy : ℕ) (tree : TreeLines) (i : ℕ)
      → TreeObeys below least jobs policy tree → TreeObeys below least jobs policy (under tree i)
  pub put_under : (below : ℕ → ℕ → Bool) (least : ℕ) (jobs : List JobRow) (policy : ℕ) (tree : TreeLines) (levels : ℕ)
      → TreeObeys below least jobs policy tree → TreeObeys below least jobs policy (lowered levels tree)
  pub put_back : (below : ℕ → ℕ → Bool) (least : ℕ) (jobs : List JobRow) (policy : ℕ) (tree : TreeLines) (levels : ℕ)
      → TreeObeys below least jobs policy (lowered levels tree) → TreeObeys below least jobs policy tree
  -- a least set that is ≤ the policy's asks for less
  pub lower_least : (count top : ℕ) (below : ℕ → ℕ → Bool) → Lawful count top below → (least lower : ℕ) (jobs : List JobRow) (policy : ℕ) (tree : TreeLines)
      → SetBelow below lower least → TreeObeys below least jobs policy tree → TreeObeys below lower jobs policy tree

-- What grants and trees obey, in words. `below a b` reads "role a is at or below role b", and a set is ≤ another by SetBelow.
use Rattle.std.specs.Prelude.{◌≡◌, ℕ, ◌+◌, ◌<◌, Bool, true, List, length, get_or, Some, None, Option, ◌≢◌, slice_index_or}
use Rattle.order.specs.RoleSets.{Part, SetBelow}
use Rattle.rows.specs.declared.row.GrantRow.{GrantRow}
use Rattle.rows.specs.declared.row.TreeLine.{TreeLine}
use Rattle.rows.specs.declared.row.JobRow.{JobRow}
use Rattle.layout.specs.Network.{TreeLines}
use Rattle.layout.specs.Zeros.{line0, job0}
use Rattle.scan.specs.Scan.{Each}
use Rattle.obeying.specs.declared.trees.Rule.{Rule}
use Rattle.obeying.specs.declared.trees.Rule.TheVariants as rule
use Rattle.obeying.specs.declared.trees.Breach.{Breach}

-- ---- grants

-- 1 disables: the top role is not at or below the role that it takes away
abbrev pub GrantObeys : (ℕ → ℕ → Bool) → ℕ → GrantRow → Type 0
GrantObeys below top x = x.direction ≡ 1 → below top x.role ≢ true

-- the first row of which P does not hold
pub record FirstRow {X : Type 0} (P : X → Type 0) (zero : X) (rows : List X) (row : ℕ) : Type 0 where
  pub inside : row < length rows
  pub broken : P (slice_index_or rows row zero) → ⊥
  pub before : (i : ℕ) → i < row → P (slice_index_or rows i zero)

-- ---- trees

abbrev pub line : TreeLines → ℕ → TreeLine
line tree i = slice_index_or tree i line0

-- line j is the edge above line i: the nearest line before it whose depth is one less
pub record Above (tree : TreeLines) (j i : ℕ) : Type 0 where
  pub before : j < i
  pub outer : (line tree j).depth + 1 ≡ (line tree i).depth
  pub nearest : (k : ℕ) → j < k → k < i → (line tree k).depth + 1 ≢ (line tree i).depth

-- the job that a script names is there, and it is of the policy
abbrev pub ScriptObeys : List JobRow → ℕ → TreeLine → Type 0
ScriptObeys jobs policy x = x.content ≡ 2 → (x.first < length jobs) × ((get_or jobs x.first job0).policy ≡ policy)

-- a tree at a policy with the least set
pub record TreeObeys (below : ℕ → ℕ → Bool) (smallest : ℕ) (jobs : List JobRow) (policy : ℕ) (tree : TreeLines) : Type 0 where
  -- the policy's least set is ≤ the set of each edge
  pub least : (i : ℕ) → i < length tree → SetBelow below smallest (line tree i).set
  -- and so is that of the edge above
  pub above : (i j : ℕ) → i < length tree → Above tree j i → SetBelow below (line tree j).set (line tree i).set
  pub scripts : (i : ℕ) → i < length tree → ScriptObeys jobs policy (line tree i)

-- ---- the first breach

-- what each rule asks of line i
abbrev pub Asks : (ℕ → ℕ → Bool) → ℕ → List JobRow → ℕ → TreeLines → ℕ → Rule → Type 0
Asks below least jobs policy tree i rule.Least = SetBelow below least (line tree i).set
Asks below least jobs policy tree i rule.Above = (j : ℕ) → Above tree j i → SetBelow below (line tree j).set (line tree i).set
Asks below least jobs policy tree i rule.Script = ScriptObeys jobs policy (line tree i)

-- the rules have numbers; that of grants is 1
abbrev pub number_of : Rule → ℕ
number_of rule.Least = 2
number_of rule.Above = 3
number_of rule.Script = 4

-- the lowest rule that is broken, if one is
abbrev pub LowestBroken : (Rule → Type 0) → Option Rule → Type 0
LowestBroken Holds None = (r : Rule) → Holds r
LowestBroken Holds (Some broken) = (Holds broken → ⊥) × ((r : Rule) → number_of r < number_of broken → Holds r)

-- the first row that breaks a rule, and the lowest rule that it breaks
pub record FirstBroken (Holds : ℕ → Rule → Type 0) (rows : ℕ) (b : Breach) : Type 0 where
  pub inside : b.row < rows
  pub broken : Holds b.row b.rule → ⊥
  pub lowest : (r : Rule) → number_of r < number_of b.rule → Holds b.row r
  pub before : (i : ℕ) → i < b.row → (r : Rule) → Holds i r

-- ---- tree patterns

-- a line of depth 1 has roles of the pattern's first set only, and each line's set is ≤ the second
pub record LineMatches (below : ℕ → ℕ → Bool) (top all : ℕ) (x : TreeLine) : Type 0 where
  pub outermost : x.depth ≡ 1 → Part x.set top
  pub every : SetBelow below x.set all

-- a tree on its own matches a tree pattern; the least set is that of the pattern's policy
pub record Matches (below : ℕ → ℕ → Bool) (least : ℕ) (jobs : List JobRow) (policy top all : ℕ) (tree : TreeLines) : Type 0 where
  pub obeys : TreeObeys below least jobs policy tree
  pub lines : Each (LineMatches below top all) line0 tree

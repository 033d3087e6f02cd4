-- The first breach, as functions that compute.
use Rattle.std.specs.Prelude.{◌≡◌, ℕ, zero, suc, ◌+◌, ◌<◌, Bool, true, cond, not, ◌&&◌, ◌||◌, List, length, Some, None, Option, ◌==◌, bit_or, nat_lt, slice_index_or}
use Rattle.order.specs.RoleSets.{set_below}
use Rattle.rows.specs.declared.row.GrantRow.{GrantRow}
use Rattle.rows.specs.declared.row.TreeLine.{TreeLine}
use Rattle.rows.specs.declared.row.JobRow.{JobRow}
use Rattle.layout.specs.Network.{TreeLines}
use Rattle.layout.specs.Zeros.{job0}
use Rattle.scan.specs.Scan.{or_else, first_bad, clear}
use Rattle.obeying.specs.declared.trees.Rule.{Rule}
use Rattle.obeying.specs.declared.trees.Rule.TheVariants as rule
use Rattle.obeying.specs.declared.trees.Breach.{Breach}
use Rattle.obeying.specs.Rules.{line}

-- ---- grants

abbrev pub grant_passes : (ℕ → ℕ → Bool) → ℕ → GrantRow → Bool
grant_passes below top x = not (x.direction == 1) || not (below top x.role)

abbrev pub grant_breach : (ℕ → ℕ → Bool) → ℕ → List GrantRow → Option ℕ
grant_breach below top grants = first_bad (λ i x. grant_passes below top x) 0 grants

-- ---- trees

-- the last of the first n lines whose depth is one less than this
unfoldable pub last_outer : TreeLines → ℕ → ℕ → Option ℕ
last_outer tree depth zero = None
last_outer tree depth (suc n) = cond ((line tree n).depth + 1 == depth) (Some n) (last_outer tree depth n)

-- the edge above line i
abbrev pub edge_above : TreeLines → ℕ → Option ℕ
edge_above tree i = last_outer tree (line tree i).depth i

-- a table of the edges above line n, by the depth that line n may have
abbrev pub OuterRows : TreeLines → ℕ → List (Option ℕ) → Type 0
OuterRows tree n outers = (depth : ℕ) → depth < length outers → slice_index_or outers depth None ≡ last_outer tree depth n

-- the set of the line, if one is named, is ≤ the set
abbrev pub line_below : (ℕ → ℕ → Bool) → TreeLines → Option ℕ → ℕ → Bool
line_below below tree None set = true
line_below below tree (Some j) set = set_below below (line tree j).set set

abbrev pub script_passes : List JobRow → ℕ → TreeLine → Bool
script_passes jobs policy x = not (x.content == 2) || (nat_lt x.first (length jobs) && (slice_index_or jobs x.first job0).policy == policy)

-- the lowest rule that line i breaks
unfoldable pub line_breach : (ℕ → ℕ → Bool) → ℕ → List JobRow → ℕ → TreeLines → ℕ → Option Rule
line_breach below least jobs policy tree i =
    cond (set_below below least (line tree i).set)
    (cond (line_below below tree (edge_above tree i) (line tree i).set)
    (cond (script_passes jobs policy (line tree i)) None
    (Some rule.Script)) (Some rule.Above)) (Some rule.Least)

abbrev pub breach_at : ℕ → Option Rule → Option Breach
breach_at row None = None
breach_at row (Some rule) = Some (record { row = row; rule = rule })

-- the first of the first n rows that breaks a rule
unfoldable pub first_breach : (ℕ → Option Rule) → ℕ → Option Breach
first_breach broken zero = None
first_breach broken (suc n) = or_else (first_breach broken n) (breach_at n (broken n))

abbrev pub tree_breach : (ℕ → ℕ → Bool) → ℕ → List JobRow → ℕ → TreeLines → Option Breach
tree_breach below least jobs policy tree = first_breach (line_breach below least jobs policy tree) (length tree)

-- ---- tree patterns

-- each role of a is a role of b
abbrev pub part_of : ℕ → ℕ → Bool
part_of a b = bit_or a b == b

abbrev pub line_matches : (ℕ → ℕ → Bool) → ℕ → ℕ → TreeLine → Bool
line_matches below top all x = (not (x.depth == 1) || part_of x.set top) && set_below below x.set all

abbrev pub lines_match : (ℕ → ℕ → Bool) → ℕ → ℕ → TreeLines → Bool
lines_match below top all tree = clear (first_bad (λ i x. line_matches below top all x) 0 tree)

abbrev pub tree_matches : (ℕ → ℕ → Bool) → ℕ → List JobRow → ℕ → ℕ → ℕ → TreeLines → Bool
tree_matches below least jobs policy top all tree = clear (tree_breach below least jobs policy tree) && lines_match below top all tree

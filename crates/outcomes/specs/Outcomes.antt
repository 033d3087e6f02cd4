-- A tree as it comes out of a change, before any room is counted: it may have more lines, or deeper ones, than a tree may have.
use Rattle.std.specs.Prelude.{ℕ, ◌+◌, max, min, cond, [], ◌∷◌, ◌++◌, length, take, replicate, slice_set, nat_lt}
use Rattle.rows.specs.declared.row.TreeLine.{TreeLine}
use Rattle.layout.specs.Network.{TreeLines}
use Rattle.layout.specs.Zeros.{line0}
use Rattle.outcomes.specs.declared.outcome.Outcome.{Outcome}

-- the greatest depth of the lines, and of what came before
abbrev pub deepest : ℕ → TreeLines → ℕ
deepest before [] = before
deepest before (x ∷ xs) = deepest (max before x.depth) xs

-- what is told of these lines: how many they are, 129 where there are more, how deep the deepest is, and the first 128 of them
abbrev pub outcome_of : TreeLines → Outcome
outcome_of xs = record { count = min (length xs) 129; deepest = deepest 0 xs; lines = take 128 (xs ++ replicate 128 line0) }

-- one line more: it is written while there is room, and always counted
unfoldable pub added : Outcome → TreeLine → Outcome
added o x = record {
  count = min (o.count + 1) 129;
  deepest = max o.deepest x.depth;
  lines = cond (nat_lt o.count 128) (slice_set o.lines o.count x) o.lines;
}

abbrev pub added_all : Outcome → TreeLines → Outcome
added_all o [] = o
added_all o (x ∷ xs) = added_all (added o x) xs

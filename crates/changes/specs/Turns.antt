-- How a change goes over the lines of a tree, line by line.
use Rattle.std.specs.Prelude.{◌≡◌, ℕ, ◌<◌, ◌≤◌, Bool, true, [], ◌∷◌, Some, None, Option, length}
use Rattle.rows.specs.declared.row.TreeLine.{TreeLine}
use Rattle.layout.specs.Network.{TreeLines}
use Rattle.obeying.specs.Rules.{line}
use Rattle.outcomes.specs.declared.outcome.Outcome.{Outcome}
use Rattle.outcomes.specs.Outcomes.{added_all}
use Rattle.replacing.specs.Pasting.{Pasted, placed}

-- no line is deeper
abbrev pub Shallow : ℕ → TreeLines → Type 0
Shallow most tree = (i : ℕ) → i < length tree → (line tree i).depth ≤ most

-- the last edge that was replaced has this depth, and only deeper lines came after it
abbrev pub CutAt : Option ℕ → ℕ → Type 0
CutAt None depth = ⊥
CutAt (Some d) depth = d < depth

-- what one line adds, and whether later lines are cut
pub data Turn (flagged : Bool) (given : Pasted) (x : TreeLine) (cut : Option ℕ) (old new : Outcome) (after : Option ℕ) : Type 0 where
  cut : CutAt cut x.depth → new ≡ old → after ≡ cut → Turn flagged given x cut old new after
  replaced : (CutAt cut x.depth → ⊥) → flagged ≡ true → new ≡ added_all old (placed x given) → after ≡ Some x.depth → Turn flagged given x cut old new after
  kept : (CutAt cut x.depth → ⊥) → (flagged ≡ true → ⊥) → new ≡ added_all old (x ∷ []) → after ≡ None → Turn flagged given x cut old new after

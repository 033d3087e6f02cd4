-- What the layers above may use of paths, enabling and disabling, for every lawful order of roles.
use Rattle.std.specs.Prelude.{◌≡◌, ℕ, ◌+◌, ◌-◌, ◌^◌, ◌<◌, Bool, true, false, ◌⊎◌, List, length, ◌≢◌, slice_index_or}
use Rattle.order.specs.Laws.{Lawful}
use Rattle.order.specs.RoleSets.{In, SetBelow, Opens}
use Rattle.rows.specs.declared.row.PathStepRow.{PathStepRow}
use Rattle.rows.specs.declared.row.JobRow.{JobRow}
use Rattle.layout.specs.Network.{TreeLines, Plan}
use Rattle.meaning.specs.declared.patterns.Pattern.TheVariants as pattern
use Rattle.obeying.specs.Rules.{line, Above, TreeObeys, Matches}
use Rattle.obeying.specs.TreeLaws.{at_depth, under}
use Rattle.standing.specs.declared.sizes.Sizes.{Sizes}
use Rattle.standing.specs.Words.{TreeStands}
use Rattle.edges.specs.Edges.{Nested, Over, Recoloured}
use Rattle.edges.specs.Matching.{EdgeMatches}
use Rattle.edges.specs.Paths.{last_set, Found}
use Rattle.edges.specs.Enabling.{Enabled}
use Rattle.edges.specs.Disabling.{Disabled}
use Rattle.edges.specs.Rows.{flagged_rows, flagged_count}

-- edges over edges
pub record OverLaws : Type 0 where
  -- the lines of a tree that stands are nested
  pub standing : (s : Sizes) (tree : TreeLines) → TreeStands s tree → Nested tree
  -- an edge over line i is the one above it, or one over that
  pub parts : (tree : TreeLines) → Nested tree → (j i : ℕ) → i < length tree → Over tree j i → Above tree j i ⊎ ((k : ℕ) × Above tree k i × Over tree j k)
  pub above : (tree : TreeLines) → Nested tree → (j i : ℕ) → i < length tree → Above tree j i → Over tree j i
  pub further : (tree : TreeLines) (k j i : ℕ) → Over tree k j → Over tree j i → Over tree k i
  -- every line but those of depth 1 has an edge above it
  pub some_above : (tree : TreeLines) → Nested tree → (i : ℕ) → i < length tree → 1 < (line tree i).depth → (j : ℕ) × Above tree j i

-- an edge that is found, and every edge over it, is open to all roles that the path's last set is ≤ to
pub record Access : Type 0 where
  pub own : (count top : ℕ) (below : ℕ → ℕ → Bool) → Lawful count top below → (path : List PathStepRow) (tree : TreeLines) (i roles : ℕ)
      → Found below path tree i → SetBelow below (last_set path) roles → roles ≢ 0 → Opens below (line tree i).set roles
  pub over : (count top : ℕ) (below : ℕ → ℕ → Bool) → Lawful count top below → (least : ℕ) (jobs : List JobRow) (policy : ℕ) (path : List PathStepRow) (tree : TreeLines) (i roles : ℕ)
      → Nested tree → TreeObeys below least jobs policy tree → Found below path tree i → SetBelow below (last_set path) roles → roles ≢ 0
      → (j : ℕ) → Over tree j i → Opens below (line tree j).set roles

pub record EnablingLaws : Type 0 where
  -- labels, contents and depths stay
  pub recolours : (below : ℕ → ℕ → Bool) (path : List PathStepRow) (role : ℕ) (tree after : TreeLines) → Enabled below path role tree after → Recoloured tree after
  -- an edge that is not directly below one found stays as it is
  pub untouched : (below : ℕ → ℕ → Bool) (path : List PathStepRow) (role : ℕ) (tree after : TreeLines) → Enabled below path role tree after
      → (i : ℕ) → i < length tree → ((j : ℕ) → Above tree j i → Found below path tree j → ⊥) → line after i ≡ line tree i
  -- a tree that stands still stands
  pub stands : (below : ℕ → ℕ → Bool) (path : List PathStepRow) (role : ℕ) (s : Sizes) (tree after : TreeLines)
      → role < s.roles → Enabled below path role tree after → TreeStands s tree → TreeStands s after
  -- a tree that obeys still obeys, where the path's last set is ≤ {role}
  pub obeys : (count top : ℕ) (below : ℕ → ℕ → Bool) → Lawful count top below → (least : ℕ) (jobs : List JobRow) (policy : ℕ) (path : List PathStepRow) (role : ℕ)
      (tree after : TreeLines) → SetBelow below (last_set path) (2 ^ role) → Enabled below path role tree after
      → TreeObeys below least jobs policy tree → TreeObeys below least jobs policy after

pub record DisablingLaws : Type 0 where
  pub recolours : (below : ℕ → ℕ → Bool) (path : List PathStepRow) (role : ℕ) (tree after : TreeLines) → Disabled below path role tree after → Recoloured tree after
  -- an edge that is not under one found stays as it is
  pub untouched : (below : ℕ → ℕ → Bool) (path : List PathStepRow) (role : ℕ) (tree after : TreeLines) → Disabled below path role tree after
      → (i : ℕ) → i < length tree → ((f : ℕ) → Found below path tree f → Over tree f i → ⊥) → line after i ≡ line tree i
  -- a tree that stands still stands, where the top role is not at or below the disabled one
  pub stands : (s : Sizes) (below : ℕ → ℕ → Bool) → Lawful s.roles s.top below → (path : List PathStepRow) (role : ℕ) (tree after : TreeLines)
      → below s.top role ≢ true → Disabled below path role tree after → TreeStands s tree → TreeStands s after
  -- a tree that obeys still obeys
  pub obeys : (count top : ℕ) (below : ℕ → ℕ → Bool) → Lawful count top below → (least : ℕ) (jobs : List JobRow) (policy : ℕ) (path : List PathStepRow) (role : ℕ)
      (tree after : TreeLines) → Nested tree → Disabled below path role tree after → TreeObeys below least jobs policy tree → TreeObeys below least jobs policy after
  -- and no set grows
  pub shrinks : (below : ℕ → ℕ → Bool) (path : List PathStepRow) (role : ℕ) (tree after : TreeLines) → Disabled below path role tree after
      → (i x : ℕ) → i < length tree → (line tree i).set < 2 ^ 64 → In x (line after i).set → In x (line tree i).set

-- what a tree pattern matches is open to all roles that its second set is ≤ to
pub record MatchingLaws : Type 0 where
  -- each edge of a tree that matches
  pub whole : (count top : ℕ) (below : ℕ → ℕ → Bool) → Lawful count top below → (least : ℕ) (jobs : List JobRow) (policy first second : ℕ) (tree : TreeLines) (roles : ℕ)
      → Matches below least jobs policy first second tree → SetBelow below second roles → roles ≢ 0 → (k : ℕ) → k < length tree → Opens below (line tree k).set roles
  -- and so each edge under one whose tree matches
  pub beneath : (count top : ℕ) (below : ℕ → ℕ → Bool) → Lawful count top below → (p : Plan) (slot policy first second : ℕ) (tree : TreeLines) (i roles : ℕ)
      → EdgeMatches below p (pattern.Tree slot policy first second) tree i → SetBelow below second roles → roles ≢ 0
      → (k : ℕ) → k < length tree → Over tree i k → Opens below (line tree k).set roles
  -- what lies under an edge is what that edge is over
  pub lies : (tree : TreeLines) (i k : ℕ) → k < length tree → Over tree i k
      → (k - (i + 1) < length (under tree i)) × (line (under tree i) (k - (i + 1)) ≡ at_depth (line tree k) ((line tree k).depth - (line tree i).depth))

-- the rows that flags name
pub record RowLaws : Type 0 where
  -- they ascend
  pub ascend : (flags : List Bool) (j k : ℕ) → j < k → k < flagged_count flags → slice_index_or (flagged_rows flags) j 0 < slice_index_or (flagged_rows flags) k 0
  -- each is flagged
  pub flagged : (flags : List Bool) (k : ℕ) → k < flagged_count flags → slice_index_or flags (slice_index_or (flagged_rows flags) k 0) false ≡ true
  -- and each flagged row is among them
  pub among : (flags : List Bool) (row : ℕ) → slice_index_or flags row false ≡ true
      → (k : ℕ) × (k < flagged_count flags) × (slice_index_or (flagged_rows flags) k 0 ≡ row)
  -- flags that agree at every row name the same rows, however many flags they are
  pub agree : (a b : List Bool) → ((row : ℕ) → slice_index_or a row false ≡ slice_index_or b row false) → flagged_rows a ≡ flagged_rows b

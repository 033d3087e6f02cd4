-- A step of a running job, as a reduction: one rule for each verb. `below a b` reads "role a is at or below role b". What a step brings
-- about is told before any room is counted.
use Rattle.std.specs.Prelude.{◌≡◌, ℕ, Bool, cond, List, [], ◌++◌, length, Some, ◌==◌}
use Rattle.layout.specs.declared.memory.RunningRow.{RunningRow}
use Rattle.layout.specs.Network.{TreeLines, Network}
use Rattle.meaning.specs.declared.contents.Content.{Content}
use Rattle.meaning.specs.declared.patterns.Pattern.{Pattern}
use Rattle.meaning.specs.declared.verbs.Operand.{Operand}
use Rattle.meaning.specs.declared.verbs.Verb.{Verb}
use Rattle.meaning.specs.declared.verbs.Verb.TheVariants as verb
use Rattle.slots.specs.Slots.{pattern_at}
use Rattle.typing.specs.Flow.{command_at}
use Rattle.edges.specs.Paths.{Flagged}
use Rattle.edges.specs.Matching.{Selected}
use Rattle.edges.specs.Enabling.{Enabled}
use Rattle.edges.specs.Disabling.{Disabled}
use Rattle.edges.specs.Rows.{flagged_rows, flagged_count}
use Rattle.replacing.specs.Changing.{Changed}
use Rattle.replacing.specs.Holding.{slot_of}
use Rattle.replacing.specs.Pasting.{given}
use Rattle.reduction.specs.Values.{tree_of, named, path_of, held_in}
use Rattle.reduction.specs.Effects.{Effect, goes_on, scripts, copies, readers}

-- the next command of the one where the job stands, 0 where nothing follows
abbrev pub next_of : Network → RunningRow → ℕ
next_of n r = (command_at n.plan r.command).next

-- the job at this command in another place, with other roles
abbrev pub moved : RunningRow → ℕ → ℕ → RunningRow
moved r location roles = record { location = location; roles = roles; command = r.command; slots = r.slots }

module _ (below : ℕ → ℕ → Bool) (n : Network) (r : RunningRow) where
  -- next, then the other
  abbrev pub Forks : ℕ → Effect → Type 0
  Forks other e = e ≡ record { found = 0; jobs = goes_on r (next_of n r) ++ goes_on r other; copies = []; tree = tree_of n r }

  -- next at the destination, with the new roles
  abbrev pub Goes : Operand → ℕ → Effect → Type 0
  Goes location roles e = e ≡ record { found = 0; jobs = goes_on (moved r (named r.slots location) roles) (next_of n r); copies = []; tree = tree_of n r }

  -- next, then each script found
  pub record Runs (path : Operand) (e : Effect) : Type 0 where
    pub flags : List Bool
    pub found : Flagged below (path_of n.plan r path) (tree_of n r) flags
    pub effect : e ≡ record {
      found = flagged_count flags;
      jobs = goes_on r (next_of n r) ++ scripts n.plan r.location (tree_of n r) (flagged_rows flags);
      copies = [];
      tree = tree_of n r;
    }

  -- one copy of next for each match, its slots filled, and a matched tree is copied to the shelf; with next 0 nothing is copied
  pub record Reads (path : Operand) (row : ℕ) (e : Effect) : Type 0 where
    pub pattern : Pattern
    pub there : pattern_at n.plan.patterns row ≡ Some pattern
    pub flags : List Bool
    pub found : Flagged below (path_of n.plan r path) (tree_of n r) flags
    pub matches : List Bool
    pub matched : Selected below (path_of n.plan r path) n.plan pattern (tree_of n r) matches
    pub effect : e ≡ record {
      found = flagged_count flags;
      jobs = cond (next_of n r == 0) [] (readers r (next_of n r) pattern row (tree_of n r) (length n.shelf) (flagged_rows matches));
      copies = cond (next_of n r == 0) [] (copies pattern (tree_of n r) (flagged_rows matches));
      tree = tree_of n r;
    }

  -- the content of each matched edge is replaced; what lies on the edge is in the pattern's slot for that content only
  pub record Changes (path : Operand) (row : ℕ) (content : Content) (e : Effect) : Type 0 where
    pub pattern : Pattern
    pub there : pattern_at n.plan.patterns row ≡ Some pattern
    pub flags : List Bool
    pub found : Flagged below (path_of n.plan r path) (tree_of n r) flags
    pub matches : List Bool
    pub matched : Selected below (path_of n.plan r path) n.plan pattern (tree_of n r) matches
    pub after : TreeLines
    pub changed : Changed matches (given content (held_in n.plan n.shelf r.slots) (slot_of pattern) n.plan.templates (tree_of n r)) (tree_of n r) after
    pub effect : e ≡ record { found = flagged_count flags; jobs = goes_on r (next_of n r); copies = []; tree = after }

  -- the role is added to each edge directly below one found
  pub record Enables (path : Operand) (role : ℕ) (e : Effect) : Type 0 where
    pub flags : List Bool
    pub found : Flagged below (path_of n.plan r path) (tree_of n r) flags
    pub after : TreeLines
    pub enabled : Enabled below (path_of n.plan r path) role (tree_of n r) after
    pub effect : e ≡ record { found = flagged_count flags; jobs = goes_on r (next_of n r); copies = []; tree = after }

  -- the role, and what rests on it, is taken away below each edge found
  pub record Disables (path : Operand) (role : ℕ) (e : Effect) : Type 0 where
    pub flags : List Bool
    pub found : Flagged below (path_of n.plan r path) (tree_of n r) flags
    pub after : TreeLines
    pub disabled : Disabled below (path_of n.plan r path) role (tree_of n r) after
    pub effect : e ≡ record { found = flagged_count flags; jobs = goes_on r (next_of n r); copies = []; tree = after }

  -- what the verb of the job's command brings about
  abbrev pub Reduces : Verb → Effect → Type 0
  Reduces (verb.Fork other) e = Forks other e
  Reduces (verb.Go location roles) e = Goes location roles e
  Reduces (verb.Run path) e = Runs path e
  Reduces (verb.Read path row) e = Reads path row e
  Reduces (verb.Change path row content) e = Changes path row content e
  Reduces (verb.Enable path role) e = Enables path role e
  Reduces (verb.Disable path role) e = Disables path role e

-- Which edges a step touches: those that it finds, copies or cuts.
use Rattle.std.specs.Prelude.{◌≡◌, ℕ, Bool, ◌⊎◌, Some}
use Rattle.order.specs.RoleSets.{Opens}
use Rattle.layout.specs.declared.memory.RunningRow.{RunningRow}
use Rattle.layout.specs.Network.{Network}
use Rattle.meaning.specs.declared.patterns.Pattern.TheVariants as pattern
use Rattle.meaning.specs.declared.verbs.Operand.{Operand}
use Rattle.meaning.specs.declared.verbs.Verb.{Verb}
use Rattle.meaning.specs.declared.verbs.Verb.TheVariants as verb
use Rattle.obeying.specs.Rules.{line}
use Rattle.slots.specs.Slots.{pattern_at}
use Rattle.edges.specs.Edges.{Over}
use Rattle.edges.specs.Matching.{EdgeMatches}
use Rattle.edges.specs.Paths.{Found}
use Rattle.reduction.specs.Values.{tree_of, path_of}

module _ (below : ℕ → ℕ → Bool) (n : Network) (r : RunningRow) where
  -- the path finds the edge of row i
  abbrev pub Finds : Operand → ℕ → Type 0
  Finds path i = Found below (path_of n.plan r path) (tree_of n r) i

  -- the edge lies in a tree that a tree pattern matches: it is under an edge found, and copied or cut with it
  pub record Takes (path : Operand) (row : ℕ) (i : ℕ) : Type 0 where
    pub slot : ℕ
    pub policy : ℕ
    pub top : ℕ
    pub all : ℕ
    pub there : pattern_at n.plan.patterns row ≡ Some (pattern.Tree slot policy top all)
    pub edge : ℕ
    pub found : Finds path edge
    pub matched : EdgeMatches below n.plan (pattern.Tree slot policy top all) (tree_of n r) edge
    pub over : Over (tree_of n r) edge i

  -- the edge of row i of the location's tree is found, copied or cut by the verb
  abbrev pub Touches : Verb → ℕ → Type 0
  Touches (verb.Fork other) i = ⊥
  Touches (verb.Go location roles) i = ⊥
  Touches (verb.Run path) i = Finds path i
  Touches (verb.Read path row) i = Finds path i ⊎ Takes path row i
  Touches (verb.Change path row content) i = Finds path i ⊎ Takes path row i
  Touches (verb.Enable path role) i = Finds path i
  Touches (verb.Disable path role) i = Finds path i

  -- the edge is open to the job's roles, and so is every edge over it
  pub record OpenTo (i : ℕ) : Type 0 where
    pub own : Opens below (line (tree_of n r) i).set r.roles
    pub over : (j : ℕ) → Over (tree_of n r) j i → Opens below (line (tree_of n r) j).set r.roles

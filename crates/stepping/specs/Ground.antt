-- What a step rests on.
use Rattle.std.specs.Prelude.{ℕ, ◌<◌, ◌≤◌, [], length, slice_index_or, IsSome}
use Rattle.layout.specs.declared.memory.RunningRow.{RunningRow}
use Rattle.layout.specs.Network.{Plan, Network}
use Rattle.layout.specs.Zeros.{template0}
use Rattle.meaning.specs.declared.verbs.Verb.{Verb}
use Rattle.meaning.specs.declared.verbs.Verb.TheVariants as verb
use Rattle.scan.specs.Scan.{Each}
use Rattle.slots.specs.Slots.{pattern_at}
use Rattle.edges.specs.Edges.{Nested}
use Rattle.changes.specs.Turns.{Shallow}
use Rattle.reduction.specs.Values.{tree_of}

-- what shape says of the tables, as far as a step of the job needs it
pub record Ground (n : Network) (r : RunningRow) : Type 0 where
  pub location : r.location < 16
  pub nested : Nested (tree_of n r)
  pub few : length (tree_of n r) ≤ 128
  pub tree : Shallow 12 (tree_of n r)
  pub shelf : (k : ℕ) → Shallow 12 (slice_index_or n.shelf k [])
  pub shelved : length n.shelf ≤ 64
  pub templates : Each (λ row. row.line.depth ≤ 12) template0 n.plan.templates

-- there is such a pattern, and it means one
pub record PatternThere (p : Plan) (row : ℕ) : Type 0 where
  pub means : IsSome (pattern_at p.patterns row)
  pub few : row < 64

-- what the verb names is there
abbrev pub Named : Plan → Verb → Type 0
Named p (verb.Fork other) = Unit {0}
Named p (verb.Go location roles) = Unit {0}
Named p (verb.Run path) = Unit {0}
Named p (verb.Read path row) = PatternThere p row
Named p (verb.Change path row content) = PatternThere p row
Named p (verb.Enable path role) = role < 64
Named p (verb.Disable path role) = Unit {0}

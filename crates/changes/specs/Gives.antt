-- What a change gives each line.
use Rattle.std.specs.Prelude.{ℕ}
use Rattle.layout.specs.Held.{in_use}
use Rattle.layout.specs.Network.{TreeLines}
use Rattle.replacing.specs.Pasting.{Pasted, given}
use Rattle.changes.specs.declared.change.Change.{Change}
use Rattle.changes.specs.Pastes.{held}

-- the content of the change at line i, where what lies on that edge is in the slot `own`
abbrev pub gives : Change → TreeLines → ℕ → Pasted
gives c tree i = given c.content (held c.slots.now) c.own (in_use c.templates.now) tree i

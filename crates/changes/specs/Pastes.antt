-- What the code's pastes mean.
use Rattle.std.specs.Prelude.{ℕ, Some, None, Option, List, slice_get}
use Rattle.replacing.specs.Pasting.{Pasted, plain, holding}
use Rattle.changes.specs.declared.paste.Paste.{Paste}
use Rattle.changes.specs.declared.paste.Holding.{Holding}

abbrev pub pasted_of : Paste → Pasted
pasted_of p = record { content = p.content; first = p.first; second = p.second; under = p.under.now }

-- what lies there, if it does: else the empty tree
abbrev pub pasted_or : Option Paste → Pasted
pasted_or (Some p) = pasted_of p
pasted_or None = plain 0 0 0

-- what each slot holds
abbrev pub held : List Paste → ℕ → Pasted
held slots k = pasted_or (slice_get slots k)

-- what each slot holds at one edge
unfoldable pub held_at : Holding → ℕ → Pasted
held_at h k = holding (held h.slots.now) h.own (pasted_of h.lying) k

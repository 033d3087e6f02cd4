-- What a slot of a running job holds.
use Rattle.std.specs.Prelude.{ℕ, ◌-◌, cond, Some, None, Option, ◌==◌}
use Rattle.layout.specs.declared.memory.Slot.{Slot}

-- the row of the pattern that filled it, and the value; 0 stands for none, and any other number for the row below it
abbrev pub filling : Slot → Option (ℕ × ℕ)
filling x = cond (x.pattern == 0) None (Some (x.pattern - 1, x.value))

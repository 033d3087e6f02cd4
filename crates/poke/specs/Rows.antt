-- What the row of a poke stands for.
use Rattle.std.specs.Prelude.{◌≡◌, ℕ, ◌<◌}
use Rattle.poke.specs.declared.poking.Row.{Row}
use Rattle.poke.specs.declared.poking.Row.TheVariants.{Count, At}

-- The row 4294967295 stands for the number of rows in use, and any other for itself.
abbrev pub StandsFor : ℕ → Row → Type 0
StandsFor row Count = row ≡ 4294967295
StandsFor row (At n) = (n ≡ row) × (row < 4294967295)

-- What a step finds and leaves, before any room is tried.
use Rattle.std.specs.Prelude.{◌≡◌, ℕ}
use Rattle.layout.specs.Network.{Network}
use Rattle.rooms.specs.declared.scratch.Scratch.{Scratch}
use Rattle.rooms.specs.Rooms.{scratch_of}
use Rattle.reduction.specs.Effects.{Effect, aftermath}
use Rattle.stepping.specs.declared.step.Reduced.{Reduced}

-- so many edges are found, and this is left
pub record Leaves (n : Network) (place : ℕ) (e : Effect) (found : ℕ) (scratch : Scratch) : Type 0 where
  pub count : found ≡ e.found
  pub left : scratch ≡ scratch_of (aftermath n place e)

abbrev pub reduced : Network → ℕ → Effect → Reduced
reduced n place e = record { found = e.found; scratch = scratch_of (aftermath n place e) }

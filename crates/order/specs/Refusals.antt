-- What a refusal tells a host: its number, and the values that say where. Each fault type has a definition that gives
-- them case by case; docs/REFUSALS.md lists all of them.
use Rattle.std.specs.Prelude.{ℕ, List}

pub record Refusal : Type 0 where
  pub number : ℕ
  pub values : List ℕ

-- The two directions of a grant, by their numbers.
use Rattle.std.specs.Prelude.{◌≡◌, ℕ, cond, List, ◌++◌, Some, None, Ok, Err, Option, Result, ◌==◌, codes}
use Rattle.std.specs.Fmt.{decimal}
use Rattle.meaning.specs.declared.directions.Direction.{Direction}
use Rattle.meaning.specs.declared.directions.Direction.TheVariants.{Enable, Disable}
use Rattle.meaning.specs.declared.directions.UnknownDirection.{UnknownDirection}

-- the direction of a number, if it is one
abbrev pub direction_of : ℕ → Option Direction
direction_of n = cond (n == 0) (Some Enable) (cond (n == 1) (Some Disable) None)

-- the answer is the direction of the number, or the number itself where no direction has it
abbrev pub TellsDirection : ℕ → Result Direction UnknownDirection → Type 0
TellsDirection n (Ok direction) = direction_of n ≡ Some direction
TellsDirection n (Err unknown) = (direction_of n ≡ None) × (unknown.0 ≡ n)

-- a number that no direction has, in words
abbrev pub unknown_words : UnknownDirection → List ℕ
unknown_words unknown = codes "no direction has number " ++ decimal unknown.0

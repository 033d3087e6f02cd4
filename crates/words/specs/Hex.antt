-- The bytes that a word of hexadecimal digits spells. A word with another byte, or with an odd number of digits, spells none.
use Rattle.std.specs.Prelude.{ℕ, ◌+◌, ◌-◌, ◌*◌, cond, List, [], ◌∷◌, Some, None, Option}
use Rattle.std.specs.Int.{is_in_range}

-- What a digit counts: `0` to `9`, `A` to `F` and `a` to `f`.
abbrev pub hex_digit : ℕ → Option ℕ
hex_digit b =
    cond (is_in_range 48 57 b) (Some (b - 48))
    (cond (is_in_range 65 70 b) (Some (b - 65 + 10))
    (cond (is_in_range 97 102 b) (Some (b - 97 + 10)) None))

-- Two digits, if both are there: the first counts sixteen times.
abbrev pub sixteens : Option ℕ → Option ℕ → Option ℕ
sixteens None low = None
sixteens (Some high) None = None
sixteens (Some high) (Some low) = Some (high * 16 + low)

-- The byte that two digits spell.
abbrev pub hex_byte : ℕ → ℕ → Option ℕ
hex_byte high low = sixteens (hex_digit high) (hex_digit low)

-- A byte before others, if all are there.
abbrev pub before : Option ℕ → Option (List ℕ) → Option (List ℕ)
before None bytes = None
before (Some b) None = None
before (Some b) (Some bytes) = Some (b ∷ bytes)

-- The bytes that pairs of digits spell. A word is never empty, so it spells at least one.
abbrev pub hex_bytes : List ℕ → Option (List ℕ)
hex_bytes [] = Some []
hex_bytes (high ∷ []) = None
hex_bytes (high ∷ low ∷ digits) = before (hex_byte high low) (hex_bytes digits)

-- What a word spells: a number, a role's code, a set of roles. A word that spells none of its kind gives nothing.
use Rattle.std.specs.Prelude.{ℕ, ◌+◌, ◌-◌, ◌*◌, ◌^◌, Bool, cond, ◌&&◌, List, [], ◌∷◌, length, Some, None, Option, ◌==◌, bit_or, nat_le, slice_index}
use Rattle.std.specs.List.{between, slice_split}
use Rattle.std.specs.Str.{all_ascii_digits}
use Rattle.words.specs.Cutting.{is_comma}

-- Each digit counts ten times for each digit behind it.
abbrev pub worth : List ℕ → ℕ
worth [] = 0
worth (d ∷ ds) = (d - 48) * 10 ^ length ds + worth ds

-- The number that a word of decimal digits spells, at least one digit and nothing else.
unfoldable pub numeral : List ℕ → Option ℕ
numeral [] = None
numeral (d ∷ ds) = cond (all_ascii_digits (d ∷ ds)) (Some (worth (d ∷ ds))) None

-- The number, if it is not larger than `most`.
abbrev pub at_most : ℕ → Option ℕ → Option ℕ
at_most most None = None
at_most most (Some n) = cond (nat_le n most) (Some n) None

-- A number of 64 bits.
abbrev pub wide : List ℕ → Option ℕ
wide word = at_most 18446744073709551615 (numeral word)

-- A number of 32 bits: a role's code, or a number of a table.
abbrev pub narrow : List ℕ → Option ℕ
narrow word = at_most 4294967295 (numeral word)

-- A role that may stand in a set: one of 64.
abbrev pub role : List ℕ → Option ℕ
role word = at_most 63 (numeral word)

-- A set is a number whose bit r stands for role r.
abbrev pub set_of : Option ℕ → Option ℕ
set_of None = None
set_of (Some r) = Some (2 ^ r)

-- The set of one role that is spelled.
abbrev pub one_role : List ℕ → Option ℕ
one_role word = set_of (role word)

-- Two sets in one, if both are there.
abbrev pub joined : Option ℕ → Option ℕ → Option ℕ
joined None t = None
joined (Some s) None = None
joined (Some s) (Some t) = Some (bit_or s t)

-- The set of all the roles that are spelled, if each word spells one.
abbrev pub all_roles : List (List ℕ) → Option ℕ
all_roles [] = Some 0
all_roles (w ∷ ws) = joined (one_role w) (all_roles ws)

-- What stands between a set's braces: nothing at all, or roles with commas between them.
unfoldable pub roles_in : List ℕ → Option ℕ
roles_in [] = Some 0
roles_in (b ∷ bs) = all_roles (slice_split is_comma (b ∷ bs))

-- A word in braces.
abbrev pub in_braces : List ℕ → Bool
in_braces word = slice_index word 0 == 123 && slice_index word (length word - 1) == 125

-- A set of roles, as `{0,3}` or `{}`.
abbrev pub role_set : List ℕ → Option ℕ
role_set word = cond (in_braces word) (roles_in (between 1 (length word - 1) word)) None

-- Role sets: numbers whose bit r stands for role r. First in words, then as tests that compute; proofs/ shows that
-- each test decides its sentence for any two numbers of 64 bits.
use Rattle.std.specs.Prelude.{◌≡◌, ℕ, zero, suc, ◌/◌, ◌%◌, ◌^◌, ◌<◌, ◌≤◌, Bool, true, false, cond, not, ◌&&◌, ◌||◌, Some, None, Option, ◌==◌, ◌≢◌, bit_or, nat_lt}

-- the role is in the set
unfoldable pub has : ℕ → ℕ → Bool
has set role = (set / 2 ^ role % 2) == 1

abbrev pub In : ℕ → ℕ → Type 0
In role set = has set role ≡ true

-- each role of a is a role of b
abbrev pub Part : ℕ → ℕ → Type 0
Part a b = (role : ℕ) → In role a → In role b

-- some role of the set is at or below the role
abbrev pub SomeBelow : (ℕ → ℕ → Bool) → ℕ → ℕ → Type 0
SomeBelow below set role = (x : ℕ) × In x set × (below x role ≡ true)

-- a ≤ b: for every role of b some role of a is at or below it
abbrev pub SetBelow : (ℕ → ℕ → Bool) → ℕ → ℕ → Type 0
SetBelow below a b = (role : ℕ) → In role b → SomeBelow below a role

-- an edge with the set is open to the roles: there are some, and set ≤ roles
abbrev pub Opens : (ℕ → ℕ → Bool) → ℕ → ℕ → Type 0
Opens below set roles = (roles ≢ 0) × SetBelow below set roles

-- a set in use: not empty, and each of its roles is one of the first `count` codes
abbrev pub InUse : ℕ → ℕ → Type 0
InUse count set = (set ≡ 0 → ⊥) × ((role : ℕ) → In role set → role < count)

-- the lowest role of the set is taken out, and the rest stays
pub record Lowest (set role rest : ℕ) : Type 0 where
  pub member : In role set
  pub lowest : (x : ℕ) → In x set → role ≤ x
  pub others : (x : ℕ) → has rest x ≡ (has set x && not (role == x))

-- the roles of a set one by one, the lowest first: what comes next, and what is left then
abbrev pub NextRole : ℕ → Option ℕ → ℕ → Type 0
NextRole set None rest = (set ≡ 0) × (rest ≡ 0)
NextRole set (Some role) rest = Lowest set role rest

-- ---- the tests

-- the test passes at each number below n
unfoldable pub every : (ℕ → Bool) → ℕ → Bool
every p zero = true
every p (suc n) = p n && every p n

-- the test passes at some number below n
unfoldable pub some : (ℕ → Bool) → ℕ → Bool
some p zero = false
some p (suc n) = p n || some p n

unfoldable pub some_below : (ℕ → ℕ → Bool) → ℕ → ℕ → Bool
some_below below set role = some (λ x. has set x && below x role) 64

unfoldable pub set_below : (ℕ → ℕ → Bool) → ℕ → ℕ → Bool
set_below below a b = every (λ role. not (has b role) || some_below below a role) 64

abbrev pub opens_to : (ℕ → ℕ → Bool) → ℕ → ℕ → Bool
opens_to below set roles = not (roles == 0) && set_below below set roles

unfoldable pub in_use : ℕ → ℕ → Bool
in_use count set = not (set == 0) && every (λ role. not (has set role) || nat_lt role count) 64

-- the same for a set of any number of roles: a number of `count` bits that is not 0
unfoldable pub in_use_of : ℕ → ℕ → Bool
in_use_of count set = not (set == 0) && nat_lt set (2 ^ count)

-- ---- sets made from sets

-- the set and one role more
abbrev pub with_role : ℕ → ℕ → ℕ
with_role set role = bit_or set (2 ^ role)

-- those of the first n roles that are in the set and pass the test
unfoldable pub kept_to : (ℕ → Bool) → ℕ → ℕ → ℕ
kept_to p set zero = 0
kept_to p set (suc n) = cond (has set n && p n) (bit_or (kept_to p set n) (2 ^ n)) (kept_to p set n)

-- the roles of the set that pass the test
abbrev pub kept : (ℕ → Bool) → ℕ → ℕ
kept p set = kept_to p set 64

-- The rights order. A role is a set of six rights, right i being bit i of its code, and each right brings others.
use Rattle.std.specs.Prelude.{ℕ, zero, suc, ◌<◌, Bool, cond, ◌&&◌, List, [], ◌∷◌, Decides, ◌==◌, bit_and, bit_or, nat_lt, slice_index}
use Rattle.order.specs.RoleSets.{has, In}

-- row i is the set of rights that right i brings
abbrev pub table : List ℕ
table = 1 ∷ 3 ∷ 5 ∷ 11 ∷ 21 ∷ 33 ∷ []

-- some right of the code brings the right
abbrev pub Brings : ℕ → ℕ → Type 0
Brings code right = (i : ℕ) × (i < 6) × In i code × In right (slice_index table i)

-- a is at or below b: both are roles, and all that a's rights bring is among what b's bring
pub record AtOrBelow (a b : ℕ) : Type 0 where
  pub low : a < 64
  pub high : b < 64
  pub among : (right : ℕ) → Brings a right → Brings b right

-- ---- the test

-- what the first n rights bring, those of them that are in the code
unfoldable pub brought_to : ℕ → ℕ → ℕ
brought_to code zero = 0
brought_to code (suc n) = cond (has code n) (bit_or (brought_to code n) (slice_index table n)) (brought_to code n)

abbrev pub brought : ℕ → ℕ
brought code = brought_to code 6

unfoldable pub rights_below : ℕ → ℕ → Bool
rights_below a b = nat_lt a 64 && (nat_lt b 64 && bit_and (brought a) (brought b) == brought a)

-- the test decides the sentence
abbrev pub TestSaysAmong : Type 0
TestSaysAmong = (a b : ℕ) → Decides (rights_below a b) (AtOrBelow a b)

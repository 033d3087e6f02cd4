-- How a drawn order grows: from no pairs, and by one pair more. The inner functions' contracts cite these; what a draw
-- gives in the end is said in Draws alone.
use Rattle.std.specs.Prelude.{ℕ, Bool, cond, ◌&&◌, ◌||◌, List, ◌==◌, bit_or, nat_lt, slice_index}
use Rattle.order.specs.RoleSets.{has}

-- the order with no pairs: a role is at or below itself and the top
abbrev pub only_top : ℕ → ℕ → Bool
only_top a b = nat_lt a 32 && (nat_lt b 32 && (b == 0 || a == b))

-- the order with the pair (a, b) more: x reaches y as before, or through the pair
abbrev pub joined : (ℕ → ℕ → Bool) → ℕ → ℕ → ℕ → ℕ → Bool
joined below a b x y = below x y || (below x a && below b y)

-- row x, with row b taken in if row x has a
abbrev pub grown_row : List ℕ → ℕ → ℕ → ℕ → ℕ
grown_row rows a b x = cond (has (slice_index rows x) a) (bit_or (slice_index rows x) (slice_index rows b)) (slice_index rows x)

-- What an order of roles owes, said of its meaning alone: `below a b` reads "role a is at or below role b".
-- The roles are the codes below `count`, and `top` is one of them.
use Rattle.std.specs.Prelude.{◌≡◌, ℕ, ◌<◌, ◌≤◌, Bool, true}

abbrev pub Transitive : (ℕ → ℕ → Bool) → Type 0
Transitive below = (a b c : ℕ) → below a b ≡ true → below b c ≡ true → below a c ≡ true

pub record Lawful (count top : ℕ) (below : ℕ → ℕ → Bool) : Type 0 where
  pub few : count ≤ 64
  pub inside : top < count
  -- a code outside is at or below nothing, and nothing is at or below it
  pub within : (a b : ℕ) → below a b ≡ true → (a < count) × (b < count)
  pub reflexive : (a : ℕ) → a < count → below a a ≡ true
  pub transitive : Transitive below
  pub topmost : (a : ℕ) → a < count → below a top ≡ true

-- What a draw gives for its pairs: the least relation that has them and keeps the laws. Roles are the codes 0 to 31, and
-- the top role is 0.
use Rattle.std.specs.Prelude.{◌≡◌, ℕ, ◌<◌, Bool, true, List, length, get_or, slice_index_or}
use Rattle.order.specs.Laws.{Lawful, Transitive}

-- the relation has a at or below b for each pair (a, b)
abbrev pub HasPairs : List (ℕ × ℕ) → (ℕ → ℕ → Bool) → Type 0
HasPairs pairs below = (k : ℕ) → k < length pairs → below (get_or pairs k (0, 0)).0 (get_or pairs k (0, 0)).1 ≡ true

-- any relation, on roles or beyond, that has the pairs and the three laws on the roles
pub record Keeps (pairs : List (ℕ × ℕ)) (below : ℕ → ℕ → Bool) : Type 0 where
  pub has_pairs : HasPairs pairs below
  pub reflexive : (a : ℕ) → a < 32 → below a a ≡ true
  pub transitive : Transitive below
  pub topmost : (a : ℕ) → a < 32 → below a 0 ≡ true

-- both halves of least: it is an order that has the pairs, and it is contained in every relation that keeps them
pub record Least (pairs : List (ℕ × ℕ)) (below : ℕ → ℕ → Bool) : Type 0 where
  pub lawful : Lawful 32 0 below
  pub has_pairs : HasPairs pairs below
  pub contained : (other : ℕ → ℕ → Bool) → Keeps pairs other → (a b : ℕ) → below a b ≡ true → other a b ≡ true

-- both codes of the pair are roles
abbrev pub Known : ℕ × ℕ → Type 0
Known pair = (pair.0 < 32) × (pair.1 < 32)

abbrev pub AllKnown : List (ℕ × ℕ) → Type 0
AllKnown pairs = (k : ℕ) → k < length pairs → Known (slice_index_or pairs k (0, 0))

-- pair k is the first that has a code which is no role
pub record FirstUnknown (pairs : List (ℕ × ℕ)) (k : ℕ) : Type 0 where
  pub inside : k < length pairs
  pub unknown : Known (slice_index_or pairs k (0, 0)) → ⊥
  pub before : (j : ℕ) → j < k → Known (slice_index_or pairs j (0, 0))

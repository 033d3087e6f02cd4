-- The rows inside and outside of the 32 roles.
use Rattle.std.specs.Prelude.{◌≡◌, ℕ, ◌<◌, ◌≤◌, true, false, ◌&&◌, ◌⊎◌, List, nat_lt, slice_index}
use Rattle.std.proofs.Common.{inl, inr, lit<, lit≤}
use mathlib.Core.Bool.{Bool-set}
use mathlib.Core.Logic.{∥∥₁_elim}
use Rattle.std.proofs.lemmas.Bool.{and_parts, and_left, and_right, lt-ltb, le-ltb, ltb-true}
use Rattle.order.specs.Laws.{Lawful, Transitive}
use Rattle.order.specs.RoleSets.{has}
use Rattle.drawn.specs.Rows.{rows_below}

module _ (rows : List ℕ) where
  pub rows_within : (a b : ℕ) → rows_below rows a b ≡ true → (a < 32) × (b < 32)
  unfolding rows_below
  rows_within a b t =
      let p = and_parts (nat_lt a 32) (nat_lt b 32 && has (slice_index rows a) b) t in
      let q = and_parts (nat_lt b 32) (has (slice_index rows a) b) p.1 in
      (ltb-true a 32 p.0, ltb-true b 32 q.0)

  pub rows_has : (a b : ℕ) → a < 32 → b < 32 → rows_below rows a b ≡ has (slice_index rows a) b
  unfolding rows_below
  rows_has a b ha hb = rw (lt-ltb a 32 ha, lt-ltb b 32 hb)

  pub rows_out : (a b : ℕ) → (32 ≤ a) ⊎ (32 ≤ b) → rows_below rows a b ≡ false
  unfolding rows_below
  rows_out a b (inl h) = and_left _ _ (le-ltb a 32 h)
  rows_out a b (inr h) = and_right _ _ (and_left _ _ (le-ltb b 32 h))

  -- the three laws over the rows make a lawful order
  pub rows_lawful : ((a : ℕ) → a < 32 → rows_below rows a a ≡ true) → Transitive (rows_below rows)
      → ((a : ℕ) → a < 32 → rows_below rows a 0 ≡ true) → Lawful 32 0 (rows_below rows)
  rows_lawful reflexive transitive topmost = record {
    few = lit≤ tt;
    inside = lit< tt;
    within = rows_within;
    reflexive = reflexive;
    transitive = transitive;
    topmost = topmost;
  }

  -- the law that a drawn order keeps as a fact with no content of its own
  pub rows_transitive : ∥ Transitive (rows_below rows) ∥₁ → Transitive (rows_below rows)
  rows_transitive kept a b c p q = ∥∥₁_elim kept (Bool-set _ _) (λ t. t a b c p q)

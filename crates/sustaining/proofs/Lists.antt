-- What holds of each row of a list put together.
use Rattle.std.proofs.Common.{zero, suc, List, [], ◌∷◌, ◌++◌, arith}
use Rattle.scan.specs.Scan.{Each}

module _ {X : Type 0} (P : X → Type 0) (z : X) where
  pub each_none : Each P z []
  each_none i h = absurd (omega arith)

  pub each_more : (x : X) (xs : List X) → P x → Each P z xs → Each P z (x ∷ xs)
  each_more x xs w ws zero h = w
  each_more x xs w ws (suc i) h = ws i (omega arith)

  pub each_append : (xs ys : List X) → Each P z xs → Each P z ys → Each P z (xs ++ ys)
  each_append [] ys ws us = us
  each_append (x ∷ xs) ys ws us = each_more x (xs ++ ys) (ws 0 (omega arith)) (each_append xs ys (λ i h. ws (suc i) (omega arith)) us)

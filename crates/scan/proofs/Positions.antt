-- The first row that does not pass a test is where std's `position` finds that the test fails.
use Rattle.std.proofs.Common.{◌≡◌, ℕ, ◌+◌, Bool, true, false, cond, not, List, [], ◌∷◌, Some, Option, refl, sym, ap, ◌∙◌, position, arith}
use Rattle.std.specs.List.{position_from}
use Rattle.std.specs.Option.{option_map}
use Rattle.std.proofs.lemmas.Iterator.Adapters.{position_from-zero}
use Rattle.scan.specs.Scan.{or_else, told, first_bad}

told_or : (b : Bool) (i : ℕ) (r s : Option ℕ) → r ≡ s → or_else (told b i) r ≡ cond (not b) (Some i) s
told_or true i r s e = e
told_or false i r s e = refl

bad_from : {X : Type 0} (ok : X → Bool) (i : ℕ) (xs : List X) → first_bad (λ i x. ok x) i xs ≡ position_from (λ x. not (ok x)) i xs
bad_from ok i [] = refl
bad_from ok i (x ∷ xs) = told_or (ok x) i _ _ (bad_from ok (i + 1) xs)

later_or : (b : Bool) (i j : ℕ) (r s : Option ℕ) → r ≡ option_map (λ k. i + k) s → cond b (Some (i + j)) r ≡ option_map (λ k. i + k) (cond b (Some j) s)
later_or true i j r s e = refl
later_or false i j r s e = e

later_from : {X : Type 0} (t : X → Bool) (i j : ℕ) (xs : List X) → position_from t (i + j) xs ≡ option_map (λ k. i + k) (position_from t j xs)
later_from t i j [] = refl
later_from t i j (x ∷ xs) = later_or (t x) i j _ _ (ap (λ (n : ℕ). position_from t n xs) (one_more i j) ∙ later_from t i (j + 1) xs)
  where
    one_more : (i j : ℕ) → i + j + 1 ≡ i + (j + 1)
    one_more i j = omega arith

-- rows numbered from i on
pub position_bad : {X : Type 0} (ok : X → Bool) (i : ℕ) (xs : List X) → option_map (λ k. i + k) (position (λ x. not (ok x)) xs) ≡ first_bad (λ i x. ok x) i xs
position_bad ok i xs =
    ap (option_map (λ k. i + k)) (position_from-zero (λ x. not (ok x)) xs)
    ∙ sym (bad_from ok i xs ∙ (ap (λ (n : ℕ). position_from (λ x. not (ok x)) n xs) (plain i) ∙ later_from (λ x. not (ok x)) i 0 xs))
  where
    plain : (i : ℕ) → i ≡ i + 0
    plain i = omega arith

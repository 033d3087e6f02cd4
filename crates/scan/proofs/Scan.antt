use Rattle.std.proofs.Common.{◌≡◌, ℕ, zero, suc, ◌+◌, ◌<◌, ◌≤◌, Bool, true, false, List, [], ◌∷◌, length, get_or, take, drop, Some, None, Option, refl, ap, ◌∙◌, subst, arith}
use Rattle.std.proofs.lemmas.List.{drop_more, drop_all}
use Rattle.scan.specs.Scan.{or_else, first_of, told, scan, first_bad, carried}

-- ---- a loop's steps
module _ {S X : Type 0} (f : S → ℕ → X → Option ℕ) (next : S → X → S) where
  pub first-here : (s : S) (xs : List X) (i : ℕ) (z : X) (r : ℕ) → i < length xs → f s i (get_or xs i z) ≡ Some r → first_of f next s i (drop i xs) ≡ Some r
  first-here s xs i z r h e = ap (first_of f next s i) (drop_more xs i z h) ∙ ap (λ (o : Option ℕ). or_else o (first_of f next (next s (get_or xs i z)) (i + 1) (drop (i + 1) xs))) e

  pub first_next : (s : S) (xs : List X) (i : ℕ) (z : X) → i < length xs → f s i (get_or xs i z) ≡ None → first_of f next s i (drop i xs) ≡ first_of f next (next s (get_or xs i z)) (i + 1) (drop (i + 1) xs)
  first_next s xs i z h e = ap (first_of f next s i) (drop_more xs i z h) ∙ ap (λ (o : Option ℕ). or_else o (first_of f next (next s (get_or xs i z)) (i + 1) (drop (i + 1) xs))) e

  pub first_done : (s : S) (xs : List X) (i : ℕ) → length xs ≤ i → first_of f next s i (drop i xs) ≡ None
  first_done s xs i h = ap (first_of f next s i) (drop_all i xs h)

  -- ---- what None says
  none_parts : (a b : Option ℕ) → or_else a b ≡ None → (a ≡ None) × (b ≡ None)
  none_parts (Some x) b e = let z : ◌≡◌ {A = ℕ} 0 1 = cc in absurd (omega arith)
  none_parts None b e = (refl, e)

  pub none_each : (s : S) (i : ℕ) (xs : List X) (z : X) → first_of f next s i xs ≡ None → (k : ℕ) → k < length xs → f (carried next s (take k xs)) (i + k) (get_or xs k z) ≡ None
  none_each s i [] z e k h = absurd (omega arith)
  none_each s i (x ∷ xs) z e zero h =
      subst (λ (n : ℕ). f s n x ≡ None) (omega arith) (none_parts (f s i x) (first_of f next (next s x) (i + 1) xs) e).0
  none_each s i (x ∷ xs) z e (suc k) h =
      subst (λ (n : ℕ). f (carried next (next s x) (take k xs)) n (get_or xs k z) ≡ None) (omega arith)
      (none_each (next s x) (i + 1) xs z (none_parts (f s i x) (first_of f next (next s x) (i + 1) xs) e).1 k (omega arith))

  pub each_none : (s : S) (i : ℕ) (xs : List X) (z : X) → ((k : ℕ) → k < length xs → f (carried next s (take k xs)) (i + k) (get_or xs k z) ≡ None) → first_of f next s i xs ≡ None
  each_none s i [] z h = refl
  each_none s i (x ∷ xs) z h =
      ap (λ (o : Option ℕ). or_else o (first_of f next (next s x) (i + 1) xs)) (subst (λ (n : ℕ). f s n x ≡ None) (omega arith) (h 0 (omega arith)))
      ∙ each_none (next s x) (i + 1) xs z (λ k l. subst (λ (n : ℕ). f (carried next (next s x) (take k xs)) n (get_or xs k z) ≡ None) (omega arith) (h (suc k) (omega arith)))

told-true : (b : Bool) (i : ℕ) → told b i ≡ None → b ≡ true
told-true true i e = refl
told-true false i e = let z : ◌≡◌ {A = ℕ} 0 1 = cc in absurd (omega arith)

true_told : (b : Bool) (i : ℕ) → b ≡ true → told b i ≡ None
true_told b i e = ap (λ (t : Bool). told t i) e

false_told : (b : Bool) (i : ℕ) → b ≡ false → told b i ≡ Some i
false_told b i e = ap (λ (t : Bool). told t i) e

module _ {S X : Type 0} (ok : S → ℕ → X → Bool) (next : S → X → S) where
  pub scan-here : (s : S) (xs : List X) (i : ℕ) (z : X) → i < length xs → ok s i (get_or xs i z) ≡ false → scan ok next s i (drop i xs) ≡ Some i
  scan-here s xs i z h e = first-here (λ s i x. told (ok s i x) i) next s xs i z i h (false_told _ i e)

  pub scan-next : (s : S) (xs : List X) (i : ℕ) (z : X) → i < length xs → ok s i (get_or xs i z) ≡ true → scan ok next s i (drop i xs) ≡ scan ok next (next s (get_or xs i z)) (i + 1) (drop (i + 1) xs)
  scan-next s xs i z h e = first_next (λ s i x. told (ok s i x) i) next s xs i z h (true_told _ i e)

  pub scan-done : (s : S) (xs : List X) (i : ℕ) → length xs ≤ i → scan ok next s i (drop i xs) ≡ None
  scan-done s xs i h = first_done (λ s i x. told (ok s i x) i) next s xs i h

  pub scan-each : (s : S) (i : ℕ) (xs : List X) (z : X) → scan ok next s i xs ≡ None → (k : ℕ) → k < length xs → ok (carried next s (take k xs)) (i + k) (get_or xs k z) ≡ true
  scan-each s i xs z e k h = told-true _ (i + k) (none_each (λ s i x. told (ok s i x) i) next s i xs z e k h)

  pub each_scan : (s : S) (i : ℕ) (xs : List X) (z : X) → ((k : ℕ) → k < length xs → ok (carried next s (take k xs)) (i + k) (get_or xs k z) ≡ true) → scan ok next s i xs ≡ None
  each_scan s i xs z h = each_none (λ s i x. told (ok s i x) i) next s i xs z (λ k l. true_told _ (i + k) (h k l))

module _ {X : Type 0} (ok : ℕ → X → Bool) where
  pub bad_here : (xs : List X) (i : ℕ) (z : X) → i < length xs → ok i (get_or xs i z) ≡ false → first_bad ok i (drop i xs) ≡ Some i
  bad_here xs i z h e = scan-here (λ (s : Unit {0}) i x. ok i x) (λ s x. s) tt xs i z h e

  pub bad_next : (xs : List X) (i : ℕ) (z : X) → i < length xs → ok i (get_or xs i z) ≡ true → first_bad ok i (drop i xs) ≡ first_bad ok (i + 1) (drop (i + 1) xs)
  bad_next xs i z h e = scan-next (λ (s : Unit {0}) i x. ok i x) (λ s x. s) tt xs i z h e

  pub bad_done : (xs : List X) (i : ℕ) → length xs ≤ i → first_bad ok i (drop i xs) ≡ None
  bad_done xs i h = scan-done (λ (s : Unit {0}) i x. ok i x) (λ s x. s) tt xs i h

  -- no row is told exactly when each passes
  pub bad_each : (i : ℕ) (xs : List X) (z : X) → first_bad ok i xs ≡ None → (k : ℕ) → k < length xs → ok (i + k) (get_or xs k z) ≡ true
  bad_each i xs z e k h = scan-each (λ (s : Unit {0}) i x. ok i x) (λ s x. s) tt i xs z e k h

  pub each_bad : (i : ℕ) (xs : List X) (z : X) → ((k : ℕ) → k < length xs → ok (i + k) (get_or xs k z) ≡ true) → first_bad ok i xs ≡ None
  each_bad i xs z h = each_scan (λ (s : Unit {0}) i x. ok i x) (λ s x. s) tt i xs z h

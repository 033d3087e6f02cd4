-- A first row in words is the one that the test's scan tells.
use Rattle.std.proofs.Common.{◌≡◌, ℕ, zero, suc, ◌<◌, ◌≤◌, Bool, List, length, get_or, drop, Some, None, IfSome, Decides, Option, sym, refl, ◌∙◌, subst, add-one, rules, arith}
use Rattle.std.proofs.lemmas.Bool.{false_from_ne_true}
use Rattle.rows.specs.declared.row.GrantRow.{GrantRow}
use Rattle.layout.specs.Zeros.{grant0}
use Rattle.scan.specs.Scan.{first_bad, Each}
use Rattle.scan.proofs.Scan.{bad_here, bad_next, each_bad}
use Rattle.obeying.specs.Rules.{GrantObeys, FirstRow}
use Rattle.obeying.specs.Breaches.{grant_passes, grant_breach}

pub Decides-grant : (below : ℕ → ℕ → Bool) (top : ℕ) (x : GrantRow) → Decides (grant_passes below top x) (GrantObeys below top x)
Decides-grant below top x = search rules

module _ {X : Type 0} (passes : X → Bool) (P : X → Type 0) (z : X) (decides : (x : X) → Decides (passes x) (P x)) (xs : List X) where
  reach : (k : ℕ) → k ≤ length xs → ((j : ℕ) → j < k → P (get_or xs j z)) → first_bad (λ i x. passes x) 0 xs ≡ first_bad (λ i x. passes x) k (drop k xs)
  reach zero h w = refl
  reach (suc k) h w =
      reach k (omega arith) (λ j l. w j (omega arith))
      ∙ subst (λ (n : ℕ). first_bad (λ i x. passes x) k (drop k xs) ≡ first_bad (λ i x. passes x) n (drop n xs)) (add-one k)
      (bad_next (λ i x. passes x) xs k z (omega arith) ((decides (get_or xs k z)).1 (w k (omega arith))))

  pub first_bad-from : (r : Option ℕ) → (r ≡ None → Each P z xs) → IfSome r (FirstRow P z xs) → r ≡ first_bad (λ i x. passes x) 0 xs
  first_bad-from None w f = sym (each_bad (λ i x. passes x) 0 xs z (λ k h. (decides (get_or xs k z)).1 (w refl k h)))
  first_bad-from (Some i) w f =
      sym (reach i (omega (arith, f.inside)) f.before ∙ bad_here (λ i x. passes x) xs i z f.inside (false_from_ne_true _ (λ t. f.broken ((decides (get_or xs i z)).0 t))))

pub grants_first : (below : ℕ → ℕ → Bool) (top : ℕ) (grants : List GrantRow) (r : Option ℕ) → (r ≡ None → Each (GrantObeys below top) grant0 grants)
    → IfSome r (FirstRow (GrantObeys below top) grant0 grants) → r ≡ grant_breach below top grants
grants_first below top grants r = first_bad-from (grant_passes below top) (GrantObeys below top) grant0 (Decides-grant below top) grants r

-- Sets that stand in ≤ pass the test.
use Rattle.std.proofs.Common.{◌≡◌, ℕ, Bool, true, not, ◌&&◌, ◌||◌, ⊎_elim, arith}
use Rattle.std.proofs.lemmas.Bool.{and_from, or_left, or_right, cases_Bool, not_from_false}
use Rattle.order.specs.Laws.{Lawful}
use Rattle.order.specs.RoleSets.{has, In, SomeBelow, SetBelow, some_below, set_below}
use Rattle.order.proofs.Tests.{Decides-every, Decides-some}

module _ {count top : ℕ} {below : ℕ → ℕ → Bool} (law : Lawful count top below) where
  pub some_passes : (a r : ℕ) → SomeBelow below a r → some_below below a r ≡ true
  unfolding some_below
  some_passes a r w =
      (Decides-some (λ x. has a x && below x r) 64).1
      (w.0, omega (arith, law.few, (law.within w.0 r w.2).0), and_from (has a w.0) (below w.0 r) w.1 w.2)

  pub set_passes : (a b : ℕ) → SetBelow below a b → set_below below a b ≡ true
  unfolding set_below
  set_passes a b w =
      (Decides-every (λ role. not (has b role) || some_below below a role) 64).1
      (λ role _. ⊎_elim (λ (t : In role b). or_right (not (has b role)) (some_below below a role) (some_passes a role (w role t)))
      (λ f. or_left (not (has b role)) (some_below below a role) (not_from_false (has b role) f)) (cases_Bool (has b role)))

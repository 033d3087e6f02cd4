-- The order with no pairs.
use Rattle.std.proofs.Common.{◌≡◌, ℕ, ◌^◌, ◌<◌, Bool, true, ◌&&◌, ◌||◌, eqb, ltb, List, get_or, sym, ap, ◌∙◌, subst, inl, inr, ⊎_elim, arith}
use lib.Bits.{bit_or}
use Rattle.std.proofs.lemmas.Bool.{cases_lt, and_parts, or_cases, and_left, and_right, le-ltb, lt-ltb, ltb-true, eqb-true}
use Rattle.std.proofs.lemmas.Bool.Decides.{nat_tests}
use Rattle.order.specs.Laws.{Transitive}
use Rattle.order.specs.RoleSets.{has}
use Rattle.order.proofs.Bits.{has-or, has_one}
use Rattle.drawn.specs.Rows.{rows_below}
use Rattle.drawn.specs.Pairs.{only_top}
use Rattle.drawn.specs.Bounds.{rows_has, rows_out}
use Rattle.drawn.proofs.Joins.{Contained, trans_as}

pub only_refl : (a : ℕ) → a < 32 → only_top a a ≡ true
only_refl a h = grind (arith, nat_tests)

pub only_trans : Transitive only_top
only_trans a b c p q = grind (arith, nat_tests)

pub only_topmost : (a : ℕ) → a < 32 → only_top a 0 ≡ true
only_topmost a h = grind (arith, nat_tests)

only_contained : (pairs : List (ℕ × ℕ)) → Contained pairs only_top
only_contained pairs S keeps a b t =
    let p = and_parts (ltb a 32) (ltb b 32 && (eqb b 0 || eqb a b)) t in
    let q = and_parts (ltb b 32) (eqb b 0 || eqb a b) p.1 in
    let h : a < 32 = ltb-true a 32 p.0 in
    ⊎_elim
    (λ e. subst (λ (z : ℕ). S a z ≡ true) (sym (eqb-true b 0 e)) (keeps.topmost a h))
    (λ e. subst (λ (z : ℕ). S a z ≡ true) (eqb-true a b e) (keeps.reflexive a h))
    (or_cases (eqb b 0) (eqb a b) q.1)

-- rows with the two bits of each role
module _ (rows : List ℕ) (e : (a : ℕ) → a < 32 → get_or rows a 0 ≡ bit_or 1 (2 ^ a)) where
  swap_zero : (b : ℕ) → eqb 0 b ≡ eqb b 0
  swap_zero b = grind (arith, nat_tests)

  pub fresh_is : (a b : ℕ) → rows_below rows a b ≡ only_top a b
  fresh_is a b =
      elim (cases_lt a 32) [
        | inr h ↦ rows_out rows a b (inl h) ∙ sym (and_left _ _ (le-ltb a 32 h))
        | inl ha ↦ elim (cases_lt b 32) [
          | inr h ↦ rows_out rows a b (inr h) ∙ sym (and_right _ _ (and_left _ _ (le-ltb b 32 h)))
          | inl hb ↦
              rows_has rows a b ha hb ∙ ap (λ (n : ℕ). has n b) (e a ha) ∙ has-or 1 (2 ^ a) b
              ∙ rw (has_one 0 b, has_one a b, lt-ltb a 32 ha, lt-ltb b 32 hb, swap_zero b)
        ]
      ]

  pub fresh_refl : (a : ℕ) → a < 32 → rows_below rows a a ≡ true
  fresh_refl a h = fresh_is a a ∙ only_refl a h

  pub fresh_trans : Transitive (rows_below rows)
  fresh_trans = trans_as (rows_below rows) only_top fresh_is only_trans

  pub fresh_topmost : (a : ℕ) → a < 32 → rows_below rows a 0 ≡ true
  fresh_topmost a h = fresh_is a 0 ∙ only_topmost a h

pub only_top-contained : (pairs : List (ℕ × ℕ)) (R : ℕ → ℕ → Bool) → ((a b : ℕ) → R a b ≡ only_top a b) → Contained pairs R
only_top-contained pairs R same S keeps a b t = only_contained pairs S keeps a b (sym (same a b) ∙ t)

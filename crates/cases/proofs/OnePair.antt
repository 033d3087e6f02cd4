-- The order drawn from the pair (1, 2) alone, and the worked cases.
use Rattle.std.proofs.Common.{◌≡◌, ℕ, zero, suc, ◌<◌, Bool, true, false, eqb, ◌⊎◌, List, [], ◌∷◌, length, sym, refl, ◌∙◌, subst, inl, inr, ⊎_elim, arith, lit<}
use Rattle.std.proofs.lemmas.Bool.{both_ways, eqb-true, or_cases}
use Rattle.order.specs.RoleSets.{has, In, SomeBelow, SetBelow}
use Rattle.order.proofs.Bits.{has-none, has-insert}
use Rattle.drawn.specs.Draws.{Least, Keeps}
use Rattle.drawn.specs.Pairs.{only_top, joined}
use Rattle.drawn.proofs.Fresh.{only_refl, only_trans, only_topmost}
use Rattle.drawn.proofs.Joins.{join_keeps, join_trans}
use Rattle.rights.specs.Bringing.{brought_to, rights_below}
use Rattle.obeying.specs.Rules.{line, Above, ScriptObeys, TreeObeys}
use Rattle.cases.specs.Worked.{roles, pairs, branch, tree_m, WorkedCases}

-- a role of a set that is written out is one of those written
in_roles : (r : ℕ) (rs : List ℕ) (x : ℕ) → In x (roles (r ∷ rs)) → (r ≡ x) ⊎ In x (roles rs)
in_roles r rs x t =
    ⊎_elim inr (λ e. inl (eqb-true r x e)) (or_cases (has (roles rs) x) (eqb r x) (sym (has-insert (roles rs) r x) ∙ t))

in_none : (x : ℕ) → In x (roles []) → ⊥
in_none x t = both_ways (has 0 x) (has-none x) t

-- what holds of each of two roles holds of every role of their set
of_two : (P : ℕ → Type 0) (r s : ℕ) → P r → P s → (x : ℕ) → In x (roles (r ∷ s ∷ [])) → P x
of_two P r s p q x t =
    ⊎_elim
    (λ e. subst P e p)
    (λ rest. ⊎_elim (λ e. subst P e q) (λ none. absurd (in_none x none)) (in_roles s [] x rest))
    (in_roles r (s ∷ []) x t)

-- what is at or below what through the one pair
one_pair : ℕ → ℕ → Bool
one_pair = joined only_top 1 2

keeps_one_pair : Keeps pairs one_pair
unfolding one_pair
keeps_one_pair = record {
  has_pairs = each;
  reflexive = λ a h. join_keeps only_top 1 2 a a (only_refl a h);
  transitive = join_trans only_top 1 2 only_trans;
  topmost = λ a h. join_keeps only_top 1 2 a 0 (only_topmost a h);
}
  where
    each : (k : ℕ) → k < length pairs → joined only_top 1 2 (lib.ListN.get_or pairs k (0, 0)).0 (lib.ListN.get_or pairs k (0, 0)).1 ≡ true
    each zero h = refl
    each (suc k) h = absurd (omega arith)

-- neither of two roles is at or below the third, so their set has none that is
none_of_two : (below : ℕ → ℕ → Bool) → Least pairs below → (r s y : ℕ) → one_pair r y ≡ false → one_pair s y ≡ false
    → SomeBelow below (roles (r ∷ s ∷ [])) y → ⊥
none_of_two below least r s y p q w =
    both_ways (one_pair w.0 y)
    (of_two (λ x. one_pair x y ≡ false) r s p q w.0 w.1)
    (least.contained one_pair keeps_one_pair w.0 y w.2)

-- ---- tree M

module _ (below : ℕ → ℕ → Bool) (least : Least pairs below) where
  by_1 : (y : ℕ) → In y (roles (0 ∷ 1 ∷ [])) → SomeBelow below (roles (1 ∷ [])) y
  unfolding has
  by_1 = of_two (λ y. SomeBelow below (roles (1 ∷ [])) y) 0 1 (1, refl, least.lawful.topmost 1 (lit< tt)) (1, refl, least.lawful.reflexive 1 (lit< tt))

  by_1_up : (y : ℕ) → In y (roles (0 ∷ 2 ∷ [])) → SomeBelow below (roles (1 ∷ [])) y
  unfolding has
  by_1_up = of_two (λ y. SomeBelow below (roles (1 ∷ [])) y) 0 2 (1, refl, least.lawful.topmost 1 (lit< tt)) (1, refl, least.has_pairs 0 (lit< tt))

  by_both : (y : ℕ) → In y (roles (0 ∷ 1 ∷ [])) → SomeBelow below (roles (0 ∷ 1 ∷ [])) y
  unfolding has
  by_both = of_two (λ y. SomeBelow below (roles (0 ∷ 1 ∷ [])) y) 0 1 (1, refl, least.lawful.topmost 1 (lit< tt)) (1, refl, least.lawful.reflexive 1 (lit< tt))

  by_both_up : (y : ℕ) → In y (roles (0 ∷ 2 ∷ [])) → SomeBelow below (roles (0 ∷ 1 ∷ [])) y
  unfolding has
  by_both_up = of_two (λ y. SomeBelow below (roles (0 ∷ 1 ∷ [])) y) 0 2 (1, refl, least.lawful.topmost 1 (lit< tt)) (1, refl, least.has_pairs 0 (lit< tt))

  m_obeys : TreeObeys below (roles (1 ∷ [])) [] 0 tree_m
  m_obeys = record { least = each; above = under; scripts = none }
    where
      each : (i : ℕ) → i < 3 → SetBelow below (roles (1 ∷ [])) (line tree_m i).set
      each zero h = by_1
      each (suc zero) h = by_1_up
      each (suc (suc zero)) h = by_1
      each (suc (suc (suc i))) h = absurd (omega arith)

      under : (i j : ℕ) → i < 3 → Above tree_m j i → SetBelow below (line tree_m j).set (line tree_m i).set
      under zero j h a = absurd (omega (arith, a.before))
      under (suc zero) zero h a = by_both_up
      under (suc zero) (suc j) h a = absurd (omega (arith, a.before))
      under (suc (suc zero)) zero h a = by_both
      under (suc (suc zero)) (suc zero) h a = absurd (omega (arith, a.outer))
      under (suc (suc zero)) (suc (suc j)) h a = absurd (omega (arith, a.before))
      under (suc (suc (suc i))) j h a = absurd (omega arith)

      none : (i : ℕ) → i < 3 → ScriptObeys [] 0 (line tree_m i)
      none zero h e = absurd (omega arith)
      none (suc zero) h e = absurd (omega arith)
      none (suc (suc zero)) h e = absurd (omega arith)
      none (suc (suc (suc i))) h e = absurd (omega arith)

  alone_under : (smallest : ℕ) → TreeObeys below smallest [] 0 (branch 1 7 (roles (0 ∷ [])) ∷ branch 2 8 (roles (0 ∷ 2 ∷ [])) ∷ []) → ⊥
  unfolding one_pair has
  alone_under smallest w =
      let some : SomeBelow below (roles (0 ∷ [])) 2 = w.above 1 0 (lit< tt) (record { before = lit< tt; outer = refl; nearest = λ k p q. absurd (omega arith) }) 2 refl in
      ⊎_elim
      (λ e. both_ways (one_pair 0 2) refl (subst (λ x. one_pair x 2 ≡ true) (sym e) (least.contained one_pair keeps_one_pair some.0 2 some.2)))
      (λ none. absurd (in_none some.0 none))
      (in_roles 0 [] some.0 some.1)

pub worked_cases : WorkedCases
unfolding one_pair has brought_to rights_below
worked_cases = record {
  pair_reaches_up = λ below least y t.
      ⊎_elim
      (λ e. subst (λ (z : ℕ). SomeBelow below (roles (0 ∷ 1 ∷ [])) z) e (1, refl, least.has_pairs 0 (lit< tt)))
      (λ none. absurd (in_none y none))
      (in_roles 2 [] y t);
  pair_does_not_reach_down = λ below least s. none_of_two below least 0 2 1 refl refl (s 1 refl);
  every_role_is_asked = λ below least s. none_of_two below least 0 1 3 refl refl (s 3 refl);
  right_1_brings_right_0 = (refl, refl);
  right_3_is_not_under_right_4 = refl;
  tree_m_obeys = m_obeys;
  top_alone_over_2 = alone_under;
}

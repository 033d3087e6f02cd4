-- The worked cases of trees.
use Rattle.std.proofs.Common.{◌≡◌, ℕ, zero, suc, ◌^◌, ◌<◌, ◌≤◌, Bool, true, false, ltb, [], ◌∷◌, length, sym, refl, ap, ◌∙◌, subst, arith, lit<, lit≤}
use Rattle.std.proofs.lemmas.Bool.{both_ways, ltb-true}
use Rattle.order.specs.RoleSets.{SetBelow, has, every, some, some_below, set_below, kept_to, kept}
use Rattle.order.proofs.Tests.{Decides-set_below}
use Rattle.rows.specs.declared.row.TreeLine.{TreeLine}
use Rattle.layout.specs.Network.{TreeLines}
use Rattle.obeying.specs.Rules.{line, Above, ScriptObeys}
use Rattle.edges.specs.Edges.{Over, with_set}
use Rattle.edges.specs.Paths.{Complies, Found}
use Rattle.edges.specs.Enabling.{EnabledLine, Enabled}
use Rattle.edges.specs.Enabling as enabling
use Rattle.edges.specs.Disabling.{stays, DisabledLine, Disabled}
use Rattle.edges.specs.Disabling as disabling
use Rattle.tree_cases.specs.Worked.{one_pair, branch, number, tree_with, tree_m, chain_with, step, Obeys, TreeCases}

-- ---- which sets are ≤ which

small : (n : ℕ) → Bool
small n = ltb n 64

within : (n : ℕ) → small n ≡ true → n < 2 ^ 64
unfolding small
within n e = omega (arith, ltb-true n 64 e)

below_by : (a b : ℕ) → small a ≡ true → small b ≡ true → set_below one_pair a b ≡ true → SetBelow one_pair a b
below_by a b f g e = (Decides-set_below one_pair a b (within a f) (within b g)).0 e

not_by : (a b : ℕ) → small a ≡ true → small b ≡ true → set_below one_pair a b ≡ false → SetBelow one_pair a b → ⊥
not_by a b f g e w = both_ways (set_below one_pair a b) e ((Decides-set_below one_pair a b (within a f) (within b g)).1 w)

module _ where
  yes_2_3 : SetBelow one_pair 2 3
  unfolding small set_below every some some_below has one_pair
  yes_2_3 = below_by 2 3 refl refl refl

  yes_2_5 : SetBelow one_pair 2 5
  unfolding small set_below every some some_below has one_pair
  yes_2_5 = below_by 2 5 refl refl refl

  yes_3_2 : SetBelow one_pair 3 2
  unfolding small set_below every some some_below has one_pair
  yes_3_2 = below_by 3 2 refl refl refl

  yes_3_3 : SetBelow one_pair 3 3
  unfolding small set_below every some some_below has one_pair
  yes_3_3 = below_by 3 3 refl refl refl

  yes_3_5 : SetBelow one_pair 3 5
  unfolding small set_below every some some_below has one_pair
  yes_3_5 = below_by 3 5 refl refl refl

  yes_5_4 : SetBelow one_pair 5 4
  unfolding small set_below every some some_below has one_pair
  yes_5_4 = below_by 5 4 refl refl refl

  no_5_2 : SetBelow one_pair 5 2 → ⊥
  unfolding small set_below every some some_below has one_pair
  no_5_2 = not_by 5 2 refl refl refl

  no_1_5 : SetBelow one_pair 1 5 → ⊥
  unfolding small set_below every some some_below has one_pair
  no_1_5 = not_by 1 5 refl refl refl

-- ---- a list of three lines, line by line

three : (xs : TreeLines) (a b c : TreeLine) → length xs ≡ 3 → line xs 0 ≡ a → line xs 1 ≡ b → line xs 2 ≡ c → xs ≡ a ∷ b ∷ c ∷ []
three [] a b c n p q r = absurd (omega arith)
three (x ∷ []) a b c n p q r = absurd (omega arith)
three (x ∷ y ∷ []) a b c n p q r = absurd (omega arith)
three (x ∷ y ∷ z ∷ []) a b c n p q r = λ i. p i ∷ q i ∷ r i ∷ []
three (x ∷ y ∷ z ∷ w ∷ ws) a b c n p q r = absurd (omega arith)

-- ---- tree M

obeys : Obeys 2 tree_m
obeys = record { least = least; above = above; scripts = scripts }
  where
    least : (i : ℕ) → i < 3 → SetBelow one_pair 2 (line tree_m i).set
    least zero h = yes_2_3
    least (suc zero) h = yes_2_5
    least (suc (suc zero)) h = yes_2_3
    least (suc (suc (suc i))) h = absurd (omega arith)

    above : (i j : ℕ) → i < 3 → Above tree_m j i → SetBelow one_pair (line tree_m j).set (line tree_m i).set
    above zero j h a = absurd (omega (arith, a.before))
    above (suc zero) zero h a = yes_3_5
    above (suc zero) (suc j) h a = absurd (omega (arith, a.before))
    above (suc (suc zero)) zero h a = yes_3_3
    above (suc (suc zero)) (suc zero) h a = absurd (omega (arith, a.outer))
    above (suc (suc zero)) (suc (suc j)) h a = absurd (omega (arith, a.before))
    above (suc (suc (suc i))) j h a = absurd (omega arith)

    scripts : (i : ℕ) → i < 3 → ScriptObeys [] 0 (line tree_m i)
    scripts zero h e = absurd (omega arith)
    scripts (suc zero) h e = absurd (omega arith)
    scripts (suc (suc zero)) h e = absurd (omega arith)
    scripts (suc (suc (suc i))) h e = absurd (omega arith)

abbrev broken : TreeLines
broken = branch 1 7 1 ∷ branch 2 8 5 ∷ []

rule_3 : (least : ℕ) → Obeys least broken → ⊥
rule_3 least w = no_1_5 (w.above 1 0 (lit< tt) (record { before = lit< tt; outer = refl; nearest = λ k p q. absurd (omega arith) }))

-- ---- finding

over_first : (t : TreeLines) (j : ℕ) → Over t j 1 → j ≡ 0
over_first t j v = omega (arith, v.before)

seven : Complies one_pair (step 7 2 ∷ []) (branch 1 7 3)
seven = record { low = lit≤ tt; within = lit≤ tt; label = refl; set = yes_3_2 }

found_seven : (eight nine : ℕ) → Found one_pair (step 7 2 ∷ []) (tree_with eight nine) 0
found_seven eight nine = record { inside = lit< tt; depth = refl; own = seven; over = λ j v. absurd (omega (arith, v.before)) }

finds_one : Found one_pair (step 7 2 ∷ step 8 4 ∷ []) tree_m 1
finds_one = record {
  inside = lit< tt;
  depth = refl;
  own = record { low = lit≤ tt; within = lit≤ tt; label = refl; set = yes_5_4 };
  over = λ j v. subst (λ (n : ℕ). Complies one_pair (step 7 2 ∷ step 8 4 ∷ []) (line tree_m n)) (sym (over_first tree_m j v))
      (record { low = lit≤ tt; within = lit≤ tt; label = refl; set = yes_3_2 });
}

-- what is found at depth 2 has the label 8
eight_only : (set : ℕ) (i : ℕ) → Found one_pair (step 7 2 ∷ step 8 set ∷ []) tree_m i → i ≡ 1
eight_only set zero f = absurd (omega (arith, f.depth))
eight_only set (suc zero) f = refl
eight_only set (suc (suc zero)) f = absurd (omega (arith, f.own.label))
eight_only set (suc (suc (suc i))) f = absurd (omega (arith, f.inside))

finds_none : (i : ℕ) → Found one_pair (step 7 2 ∷ step 8 2 ∷ []) tree_m i → ⊥
finds_none i f = no_5_2 (subst (λ (n : ℕ). Complies one_pair (step 7 2 ∷ step 8 2 ∷ []) (line tree_m n)) (eight_only 2 i f) f.own).set

-- ---- enabling and disabling below edge 7

above_one : Above tree_m 0 1
above_one = record { before = lit< tt; outer = refl; nearest = λ k p q. absurd (omega arith) }

enables : (after : TreeLines) → Enabled one_pair (step 7 2 ∷ []) 1 tree_m after → after ≡ tree_with 7 3
enables after w = three after (branch 1 7 3) (number 2 8 7 1900) (number 2 9 3 12) w.long (first (w.each 0 (lit< tt))) (second (w.each 1 (lit< tt))) (third (w.each 2 (lit< tt)))
  where
    first : EnabledLine one_pair (step 7 2 ∷ []) 1 tree_m 0 (line after 0) → line after 0 ≡ branch 1 7 3
    first (enabling.directly j a f e) = absurd (omega (arith, a.before))
    first (enabling.elsewhere n e) = e

    second : EnabledLine one_pair (step 7 2 ∷ []) 1 tree_m 1 (line after 1) → line after 1 ≡ number 2 8 7 1900
    second (enabling.directly j a f e) = e
    second (enabling.elsewhere n e) = absurd (n 0 above_one (found_seven 5 3))

    third : EnabledLine one_pair (step 7 2 ∷ []) 1 tree_m 2 (line after 2) → line after 2 ≡ number 2 9 3 12
    third (enabling.directly j a f e) = e
    third (enabling.elsewhere n e) = e

over_seven_1 : Over tree_m 0 1
over_seven_1 = record { before = lit< tt; deeper = deep }
  where
    deep : (k : ℕ) → 0 < k → k ≤ 1 → 1 < (line tree_m k).depth
    deep zero p q = absurd (omega arith)
    deep (suc zero) p q = lit< tt
    deep (suc (suc k)) p q = absurd (omega arith)

over_seven_2 : Over tree_m 0 2
over_seven_2 = record { before = lit< tt; deeper = deep }
  where
    deep : (k : ℕ) → 0 < k → k ≤ 2 → 1 < (line tree_m k).depth
    deep zero p q = absurd (omega arith)
    deep (suc zero) p q = lit< tt
    deep (suc (suc zero)) p q = lit< tt
    deep (suc (suc (suc k))) p q = absurd (omega arith)

kept_5 : kept (stays one_pair 1 3) 5 ≡ 5
unfolding kept_to some some_below has one_pair
kept_5 = refl

kept_3 : kept (stays one_pair 1 3) 3 ≡ 1
unfolding kept_to some some_below has one_pair
kept_3 = refl

kept_1 : kept (stays one_pair 1 1) 5 ≡ 1
unfolding kept_to some some_below has one_pair
kept_1 = refl

disables : (after : TreeLines) → Disabled one_pair (step 7 2 ∷ []) 1 tree_m after → after ≡ tree_with 5 1
disables after w = three after (branch 1 7 3) (number 2 8 5 1900) (number 2 9 1 12) w.long top (second (w.each 1 (lit< tt))) (third (w.each 2 (lit< tt)))
  where
    first : DisabledLine one_pair (step 7 2 ∷ []) 1 tree_m after 0 → line after 0 ≡ branch 1 7 3
    first (disabling.under f j g v a e) = absurd (omega (arith, a.before))
    first (disabling.elsewhere n e) = e

    top : line after 0 ≡ branch 1 7 3
    top = first (w.each 0 (lit< tt))

    -- the set that is left on the edge above
    left : (i j set set' : ℕ) (x : TreeLine) → Above tree_m j i → j ≡ 0 → kept (stays one_pair 1 3) set ≡ set' → x ≡ with_set (line tree_m i) (kept (stays one_pair 1 (line after j).set) set)
        → x ≡ with_set (line tree_m i) set'
    left i j set set' x a z k e =
        e ∙ ap (λ (n : ℕ). with_set (line tree_m i) n)
        (ap (λ (y : TreeLine). kept (stays one_pair 1 y.set) set) (ap (line after) z ∙ top) ∙ k)

    second : DisabledLine one_pair (step 7 2 ∷ []) 1 tree_m after 1 → line after 1 ≡ number 2 8 5 1900
    second (disabling.under f j g v a e) = left 1 j 5 5 (line after 1) a (omega (arith, a.before)) kept_5 e
    second (disabling.elsewhere n e) = absurd (n 0 (found_seven 5 3) over_seven_1)

    above_nine : (j : ℕ) → Above tree_m j 2 → j ≡ 0
    above_nine zero a = refl
    above_nine (suc zero) a = absurd (omega (arith, a.outer))
    above_nine (suc (suc j)) a = absurd (omega (arith, a.before))

    third : DisabledLine one_pair (step 7 2 ∷ []) 1 tree_m after 2 → line after 2 ≡ number 2 9 1 12
    third (disabling.under f j g v a e) = left 2 j 3 1 (line after 2) a (above_nine j a) kept_3 e
    third (disabling.elsewhere n e) = absurd (n 0 (found_seven 5 3) over_seven_2)

-- ---- disabling all the way down

abbrev chain : TreeLines
chain = chain_with 3 5

found_six : Found one_pair (step 6 2 ∷ []) chain 0
found_six = record { inside = lit< tt; depth = refl; own = record { low = lit≤ tt; within = lit≤ tt; label = refl; set = yes_3_2 }; over = λ j v. absurd (omega (arith, v.before)) }

over_six : (i : ℕ) → 0 < i → i < 3 → Over chain 0 i
over_six i some few = record { before = some; deeper = λ k p q. deep k p (omega arith) }
  where
    deep : (k : ℕ) → 0 < k → k < 3 → 1 < (line chain k).depth
    deep zero p q = absurd (omega arith)
    deep (suc zero) p q = lit< tt
    deep (suc (suc zero)) p q = lit< tt
    deep (suc (suc (suc k))) p q = absurd (omega arith)

disables_down : (after : TreeLines) → Disabled one_pair (step 6 2 ∷ []) 1 chain after → after ≡ chain_with 1 1
disables_down after w = three after (branch 1 6 3) (branch 2 7 1) (branch 3 8 1) w.long top middle (third (w.each 2 (lit< tt)))
  where
    first : DisabledLine one_pair (step 6 2 ∷ []) 1 chain after 0 → line after 0 ≡ branch 1 6 3
    first (disabling.under f j g v a e) = absurd (omega (arith, a.before))
    first (disabling.elsewhere n e) = e

    top : line after 0 ≡ branch 1 6 3
    top = first (w.each 0 (lit< tt))

    second : DisabledLine one_pair (step 6 2 ∷ []) 1 chain after 1 → line after 1 ≡ branch 2 7 1
    second (disabling.under f j g v a e) =
        let z : j ≡ 0 = omega (arith, a.before) in
        e ∙ ap (λ (n : ℕ). branch 2 7 n) (ap (λ (y : TreeLine). kept (stays one_pair 1 y.set) 3) (ap (line after) z ∙ top) ∙ kept_3)
    second (disabling.elsewhere n e) = absurd (n 0 found_six (over_six 1 (lit< tt) (lit< tt)))

    middle : line after 1 ≡ branch 2 7 1
    middle = second (w.each 1 (lit< tt))

    above_eight : (j : ℕ) → Above chain j 2 → j ≡ 1
    above_eight zero a = absurd (omega (arith, a.outer))
    above_eight (suc zero) a = refl
    above_eight (suc (suc j)) a = absurd (omega (arith, a.before))

    third : DisabledLine one_pair (step 6 2 ∷ []) 1 chain after 2 → line after 2 ≡ branch 3 8 1
    third (disabling.under f j g v a e) =
        e ∙ ap (λ (n : ℕ). branch 3 8 n) (ap (λ (y : TreeLine). kept (stays one_pair 1 y.set) 5) (ap (line after) (above_eight j a) ∙ middle) ∙ kept_1)
    third (disabling.elsewhere n e) = absurd (n 0 found_six (over_six 2 (lit< tt) (lit< tt)))

pub tree_cases : TreeCases
tree_cases = record {
  obeys = obeys;
  rule_3 = rule_3;
  finds_one = finds_one;
  finds_no_other = eight_only 4;
  finds_none = finds_none;
  enables = enables;
  disables = disables;
  disables_down = disables_down;
}

-- The edge above the next line, by its depth.
use Rattle.std.proofs.Common.{◌≡◌, ℕ, zero, suc, ◌+◌, ◌<◌, ◌≤◌, ◌≢◌, Bool, true, false, cond, List, length, get_or, Some, None, MatchOption, Option, ◌==◌, sym, refl, ap, ◌∙◌, subst, inl, inr, arith, add-one}
use Rattle.std.proofs.lemmas.Bool.{eqb-true, eq-eqb, both_ways, cases_eq, false_from_ne_true}
use Rattle.std.proofs.lemmas.List.{get_or-replicate, get_or-set_same, get_or-set_other, length-set, length-replicate}
use Rattle.std.proofs.Math.ListN.{set, replicate}
use Rattle.layout.specs.Network.{TreeLines}
use Rattle.obeying.specs.Rules.{line, Above}
use Rattle.obeying.specs.Breaches.{last_outer, edge_above, OuterRows}

module _ (tree : TreeLines) (depth : ℕ) where
  -- the last of the first n lines whose depth is one less, in words
  Outer : ℕ → Option ℕ → Type 0
  Outer n None = (k : ℕ) → k < n → (line tree k).depth + 1 ≢ depth
  Outer n (Some j) = (j < n) × ((line tree j).depth + 1 ≡ depth) × ((k : ℕ) → j < k → k < n → (line tree k).depth + 1 ≢ depth)

  outer_next : (n : ℕ) (b : Bool) → ((line tree n).depth + 1 == depth) ≡ b → (o : Option ℕ) → Outer n o → Outer (suc n) (cond b (Some n) o)
  unfolding Outer
  outer_next n true e o w = (omega arith, eqb-true ((line tree n).depth + 1) depth e, λ k l m. absurd (omega arith))
  outer_next n false e None w = λ k l q. elim (cases_eq k n) [
    | inl s ↦ both_ways _ e (eq-eqb _ _ (subst (λ (m : ℕ). (line tree m).depth + 1 ≡ depth) s q))
    | inr s ↦ w k (omega arith) q
  ]
  outer_next n false e (Some j) w = (
    omega (arith, w.0),
    w.1,
    λ k l m q. elim (cases_eq k n) [
      | inl s ↦ both_ways _ e (eq-eqb _ _ (subst (λ (m : ℕ). (line tree m).depth + 1 ≡ depth) s q))
      | inr s ↦ w.2 k l (omega arith) q
    ],
  )

  outer : (n : ℕ) → Outer n (last_outer tree depth n)
  unfolding Outer last_outer
  outer zero = λ k h. absurd (omega arith)
  outer (suc n) = outer_next n ((line tree n).depth + 1 == depth) refl (last_outer tree depth n) (outer n)

pub edge_above_says : (tree : TreeLines) (row : ℕ) (r : Option ℕ) → r ≡ edge_above tree row → MatchOption r ((j : ℕ) → Above tree j row → ⊥) (λ (j : ℕ). Above tree j row)
unfolding Outer
edge_above_says tree row r e = words r (subst (Outer tree (line tree row).depth row) (sym e) (outer tree (line tree row).depth row))
  where
    words : (o : Option ℕ) → Outer tree (line tree row).depth row o → MatchOption o ((j : ℕ) → Above tree j row → ⊥) (λ (j : ℕ). Above tree j row)
    words None w = λ j a. w j a.before a.outer
    words (Some j) w = record { before = w.0; outer = w.1; nearest = w.2 }

-- ---- the table

module _ (tree : TreeLines) where
  outer_here : (depth n : ℕ) → (line tree n).depth + 1 ≡ depth → last_outer tree depth (n + 1) ≡ Some n
  unfolding last_outer
  outer_here depth n e = ap (last_outer tree depth) (add-one n) ∙ ap (λ (b : Bool). cond b (Some n) (last_outer tree depth n)) (eq-eqb _ _ e)

  outer_before : (depth n : ℕ) → (line tree n).depth + 1 ≢ depth → last_outer tree depth (n + 1) ≡ last_outer tree depth n
  unfolding last_outer
  outer_before depth n ne =
      ap (last_outer tree depth) (add-one n)
      ∙ ap (λ (b : Bool). cond b (Some n) (last_outer tree depth n)) (false_from_ne_true _ (λ t. ne (eqb-true ((line tree n).depth + 1) depth t)))

  pub outers_none : (most : ℕ) → OuterRows tree 0 (replicate most None)
  unfolding last_outer
  outers_none most depth h = get_or-replicate most depth None None (omega (arith, length-replicate {A = Option ℕ}))

  pub outers_noted : (n : ℕ) (outers : List (Option ℕ)) → OuterRows tree n outers → (line tree n).depth + 1 < length outers
      → OuterRows tree (n + 1) (set outers ((line tree n).depth + 1) (Some n))
  outers_noted n outers w h depth l = elim (cases_eq ((line tree n).depth + 1) depth) [
    | inl e ↦
        subst (λ (d : ℕ). get_or (set outers ((line tree n).depth + 1) (Some n)) d None ≡ Some n) e (get_or-set_same outers ((line tree n).depth + 1) (Some n) None h)
        ∙ sym (outer_here depth n e)
    | inr ne ↦
        get_or-set_other outers ((line tree n).depth + 1) depth (Some n) None (λ q. ne (sym q))
        ∙ w depth (omega (arith, length-set {A = Option ℕ}))
        ∙ sym (outer_before depth n ne)
  ]

  -- a line that is deeper than the table goes changes nothing
  pub outers_kept : (n : ℕ) (outers : List (Option ℕ)) → OuterRows tree n outers → length outers ≤ (line tree n).depth + 1 → OuterRows tree (n + 1) outers
  outers_kept n outers w h depth l = w depth l ∙ sym (outer_before depth n (λ q. absurd (omega (arith, q))))

-- What the slots hold once a pattern that matches an edge has filled its own.
use Rattle.std.proofs.Common.{◌≡◌, ℕ, ◌+◌, ◌-◌, ◌<◌, Bool, eqb, ◌⊎◌, List, length, Some, None, Option, sym, refl, ap, ◌∙◌, subst, inl, inr, arith}
use Rattle.std.specs.Prelude.{slice_index}
use Rattle.std.proofs.lemmas.Bool.{cases_eq, cond-true, cond-false, eq-eqb, ne_eqb}
use Rattle.std.proofs.lemmas.List.{get_or-set_same, get_or-set_other, length-set}
use Rattle.std.proofs.Math.ListN.{set}
use Rattle.layout.specs.Network.{Plan}
use Rattle.meaning.specs.declared.patterns.Pattern.{Pattern}
use Rattle.meaning.specs.declared.patterns.Pattern.TheVariants as pattern
use Rattle.meaning.specs.Decoding.{then_some}
use Rattle.slots.specs.declared.part.Part.{Part}
use Rattle.slots.specs.declared.part.Part.TheVariants as part
use Rattle.slots.specs.Slots.{pattern_at, part_in, part_by, part_at, filled_by}
use Rattle.pasting.specs.Words.{IsRoute}
use Rattle.standing.specs.declared.sizes.Sizes.{Sizes}
use Rattle.replacing.specs.Pasting.{Pasted, holding}
use Rattle.replacing.specs.Holding.{HoldsPart, Holds, slot_of, InSlots}

-- only whether a path comes next counts
next_any : (below : ℕ → ℕ → Bool) (s : Sizes) (p : Plan) (o next next' : Option Part) (x : Pasted) → (IsRoute next' → IsRoute next) → HoldsPart below s p o next x → HoldsPart below s p o next' x
next_any below s p None next next' x f h = h
next_any below s p (Some part.Number) next next' x f h = h
next_any below s p (Some (part.Script policy)) next next' x f h = h
next_any below s p (Some (part.Place policy)) next next' x f h = λ r. h (f r)
next_any below s p (Some (part.Route last)) next next' x f h = h
next_any below s p (Some (part.Tree policy top all)) next next' x f h = h

module _ (below : ℕ → ℕ → Bool) (s : Sizes) (p : Plan) (row : ℕ) (m : Pattern) (is : pattern_at p.patterns row ≡ Some m) where
  -- a slot that the pattern has filled
  part_new : (slots : List ℕ) (k : ℕ) → slice_index slots k ≡ row + 1 → part_at p.patterns slots k ≡ part_in m k
  part_new slots k e =
      let back : row + 1 - 1 ≡ row = omega arith in
      ap (λ (n : ℕ). part_by p.patterns n k) e
      ∙ (cond-false (eqb (row + 1) 0) None (then_some (pattern_at p.patterns (row + 1 - 1)) (λ q. part_in q k)) (ne_eqb (row + 1) 0 (λ z. omega arith))
      ∙ (ap (λ (n : ℕ). then_some (pattern_at p.patterns n) (λ q. part_in q k)) back ∙ ap (λ (o : Option Pattern). then_some o (λ q. part_in q k)) is))

  part_old : (slots slots' : List ℕ) (k : ℕ) → slice_index slots' k ≡ slice_index slots k → part_at p.patterns slots' k ≡ part_at p.patterns slots k
  part_old slots slots' k e = ap (λ (n : ℕ). part_by p.patterns n k) e

  module _ (own : ℕ) (slots slots' : List ℕ) (at_own : slice_index slots' own ≡ row + 1)
      (elsewhere : (k : ℕ) → (k ≡ own → ⊥) → (part_at p.patterns slots' k ≡ part_at p.patterns slots k) ⊎ ((k ≡ own + 1) × (last : ℕ) × (part_at p.patterns slots' k ≡ Some (part.Route last))))
      (no_route : IsRoute (part_in m own) → ⊥) (hold : ℕ → Pasted) (x : Pasted) (holds : Holds below s p slots hold)
      (here : (next : Option Part) → HoldsPart below s p (part_in m own) next x) where
    next_same : (k : ℕ) → (k ≡ own → ⊥) → IsRoute (part_at p.patterns slots' (k + 1)) → IsRoute (part_at p.patterns slots (k + 1))
    next_same k n r = elim (cases_eq (k + 1) own) [
      | inl e ↦ absurd (no_route (subst (λ (o : Option Part). IsRoute o) (ap (λ (j : ℕ). part_at p.patterns slots' j) e ∙ part_new slots' own at_own) r))
      | inr d ↦ elim (elsewhere (k + 1) d) [
        | inl q ↦ subst (λ (o : Option Part). IsRoute o) q r
        | inr q ↦ absurd (n (omega (arith, q.0)))
      ]
    ]

    holds_after : Holds below s p slots' (holding hold own x)
    holds_after k = elim (cases_eq k own) [
      | inl e ↦
          subst (λ (o : Option Part). HoldsPart below s p o (part_at p.patterns slots' (k + 1)) (holding hold own x k))
          (sym (ap (λ (j : ℕ). part_at p.patterns slots' j) e ∙ part_new slots' own at_own))
          (subst (λ (y : Pasted). HoldsPart below s p (part_in m own) (part_at p.patterns slots' (k + 1)) y) (sym (cond-true (eqb k own) x (hold k) (eq-eqb k own e))) (here (part_at p.patterns slots' (k + 1))))
      | inr n ↦
          subst (λ (y : Pasted). HoldsPart below s p (part_at p.patterns slots' k) (part_at p.patterns slots' (k + 1)) y) (sym (cond-false (eqb k own) x (hold k) (ne_eqb k own n)))
          (elim (elsewhere k n) [
            | inl q ↦
                subst (λ (o : Option Part). HoldsPart below s p o (part_at p.patterns slots' (k + 1)) (hold k)) (sym q)
                (next_any below s p (part_at p.patterns slots k) (part_at p.patterns slots (k + 1)) (part_at p.patterns slots' (k + 1)) (hold k) (next_same k n) (holds k))
            | inr q ↦ subst (λ (o : Option Part). HoldsPart below s p o (part_at p.patterns slots' (k + 1)) (hold k)) (sym q.2) tt
          ])
    ]

  -- one slot is filled
  one_slot : (own : ℕ) (slots : List ℕ) → own < length slots → (IsRoute (part_in m own) → ⊥) → (hold : ℕ → Pasted) (x : Pasted) → Holds below s p slots hold
      → ((next : Option Part) → HoldsPart below s p (part_in m own) next x) → Holds below s p (set slots own (row + 1)) (holding hold own x)
  one_slot own slots room no_route hold x holds here =
      holds_after own slots (set slots own (row + 1)) (get_or-set_same slots own (row + 1) 0 room)
      (λ k n. inl (part_old slots (set slots own (row + 1)) k (get_or-set_other slots own k (row + 1) 0 n))) no_route hold x holds here

  -- two are
  two_slots : (own last : ℕ) (slots : List ℕ) → own + 1 < length slots → part_in m (own + 1) ≡ Some (part.Route last) → (IsRoute (part_in m own) → ⊥) → (hold : ℕ → Pasted) (x : Pasted)
      → Holds below s p slots hold → ((next : Option Part) → HoldsPart below s p (part_in m own) next x)
      → Holds below s p (set (set slots own (row + 1)) (own + 1) (row + 1)) (holding hold own x)
  two_slots own last slots room route no_route hold x holds here =
      let first = set slots own (row + 1) in
      let both = set first (own + 1) (row + 1) in
      holds_after own slots both
      (get_or-set_other first (own + 1) own (row + 1) 0 (λ z. omega arith) ∙ get_or-set_same slots own (row + 1) 0 (omega arith))
      (λ k n. elim (cases_eq k (own + 1)) [
        | inl e ↦ inr (e, last, ap (λ (j : ℕ). part_at p.patterns both j) e ∙ (part_new both (own + 1) (get_or-set_same first (own + 1) (row + 1) 0 (omega (arith, length-set slots own (row + 1)))) ∙ route))
        | inr d ↦ inl (part_old slots both k (get_or-set_other first (own + 1) k (row + 1) 0 d ∙ get_or-set_other slots own k (row + 1) 0 n))
      ])
      no_route hold x holds here

pub holds_filled : (below : ℕ → ℕ → Bool) (s : Sizes) (p : Plan) (row : ℕ) (m : Pattern) → pattern_at p.patterns row ≡ Some m → (slots : List ℕ) → length slots ≡ 6 → InSlots m
    → (hold : ℕ → Pasted) (x : Pasted) → Holds below s p slots hold → ((next : Option Part) → HoldsPart below s p (part_in m (slot_of m)) next x)
    → Holds below s p (filled_by (Some m) (row + 1) slots) (holding hold (slot_of m) x)
holds_filled below s p row (pattern.Number slot) is slots six room hold x holds here =
    one_slot below s p row (pattern.Number slot) is slot slots (omega arith) (λ r. subst (λ (o : Option Part). IsRoute o) (cond-true (eqb slot slot) (Some part.Number) None (eq-eqb slot slot refl)) r) hold x holds here
holds_filled below s p row (pattern.Script slot policy) is slots six room hold x holds here =
    one_slot below s p row (pattern.Script slot policy) is slot slots (omega arith)
    (λ r. subst (λ (o : Option Part). IsRoute o) (cond-true (eqb slot slot) (Some (part.Script policy)) None (eq-eqb slot slot refl)) r) hold x holds here
holds_filled below s p row (pattern.Pointer slot policy last) is slots six room hold x holds here =
    two_slots below s p row (pattern.Pointer slot policy last) is slot last slots (omega arith)
    (cond-false (eqb (slot + 1) slot) _ _ (ne_eqb (slot + 1) slot (λ z. omega arith)) ∙ cond-true (eqb (slot + 1) (slot + 1)) _ None (eq-eqb (slot + 1) (slot + 1) refl))
    (λ r. subst (λ (o : Option Part). IsRoute o) (cond-true (eqb slot slot) (Some (part.Place policy)) _ (eq-eqb slot slot refl)) r) hold x holds here
holds_filled below s p row (pattern.Tree slot policy top all) is slots six room hold x holds here =
    one_slot below s p row (pattern.Tree slot policy top all) is slot slots (omega arith)
    (λ r. subst (λ (o : Option Part). IsRoute o) (cond-true (eqb slot slot) (Some (part.Tree policy top all)) None (eq-eqb slot slot refl)) r) hold x holds here

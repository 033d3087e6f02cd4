-- What the slots of a sound job hold is what their patterns say.
use Rattle.std.proofs.Common.{ℕ, ◌+◌, ◌-◌, ◌<◌, Bool, true, false, eqb, [], map, length, get_or, Some, None, Option, sym, refl, ap, subst, inl, inr, arith}
use Rattle.std.proofs.lemmas.Bool.{cases_lt, cond-true, cond-false, eq-eqb, ne_eqb}
use Rattle.std.proofs.lemmas.List.{get_or_past}
use Rattle.layout.specs.declared.memory.Slot.{Slot}
use Rattle.layout.specs.declared.memory.RunningRow.{RunningRow}
use Rattle.layout.specs.Network.{Plan, Network}
use Rattle.layout.specs.Zeros.{slot0}
use Rattle.meaning.specs.declared.patterns.Pattern.{Pattern}
use Rattle.meaning.specs.declared.patterns.Pattern.TheVariants as pattern
use Rattle.meaning.specs.Decoding.{when, then_some}
use Rattle.slots.specs.declared.part.Part.{Part}
use Rattle.slots.specs.declared.part.Part.TheVariants as part
use Rattle.slots.specs.Slots.{pattern_at, part_in, part_by, part_at}
use Rattle.pasting.specs.Words.{least_of, IsRoute}
use Rattle.matching.specs.Matching.{ValueMatches}
use Rattle.standing.specs.declared.sizes.Sizes.{Sizes}
use Rattle.standing.specs.Words.{Means, PartStands, SlotStands}
use Rattle.standing.specs.Words.SlotStands.{none, filled}
use Rattle.replacing.specs.Holding.{HoldsPart, Holds}
use Rattle.replacing.proofs.Sound.{sound}
use Rattle.reduction.specs.Soundness.{JobSound, NetworkSound}
use Rattle.reduction.specs.Values.{slot_at, part_of, held_as, held_in}
use Rattle.sustaining.proofs.Operands.{part_marked, value_at}

-- ---- a path that lies in a slot is there

no_route : (b : Bool) (x : Part) → (IsRoute (Some x) → ⊥) → IsRoute (when b x) → ⊥
no_route true x f r = f r
no_route false x f r = r

route_of : (s : Sizes) (o : Option Pattern) (k value : ℕ) → Means o (λ m. PartStands s m k value) → IsRoute (then_some o (λ m. part_in m k)) → value < s.paths
route_of s None k value w r = absurd w
route_of s (Some (pattern.Number own)) k value w r = absurd (no_route (eqb k own) part.Number (λ i. i) r)
route_of s (Some (pattern.Script own policy)) k value w r = absurd (no_route (eqb k own) (part.Script policy) (λ i. i) r)
route_of s (Some (pattern.Pointer own policy last)) k value (inl w) r =
    absurd (subst (λ (o : Option Part). IsRoute o) (cond-true (eqb k own) (Some (part.Place policy)) (when (eqb k (own + 1)) (part.Route last)) (eq-eqb k own w.0)) r)
route_of s (Some (pattern.Pointer own policy last)) k value (inr w) r = w.1
route_of s (Some (pattern.Tree own policy top all)) k value w r = absurd (no_route (eqb k own) (part.Tree policy top all) (λ i. i) r)

route_inside : (s : Sizes) (p : Plan) (k : ℕ) (x : Slot) → SlotStands s p.patterns k x → IsRoute (part_by p.patterns x.pattern k) → x.value < s.paths
route_inside s p k x (none e f) r = absurd (subst (λ (o : Option Part). IsRoute o) (ap (λ (n : ℕ). part_by p.patterns n k) e) r)
route_inside s p k x (filled h l m) r =
    route_of s (pattern_at p.patterns (x.pattern - 1)) k x.value m
    (subst (λ (o : Option Part). IsRoute o) (cond-false (eqb x.pattern 0) None (then_some (pattern_at p.patterns (x.pattern - 1)) (λ q. part_in q k)) (ne_eqb x.pattern 0 (λ z. omega arith))) r)

-- ---- what lies in the slots

module _ (below : ℕ → ℕ → Bool) (s : Sizes) (n : Network) (w : NetworkSound below s n) where
  held_part : (o next : Option Part) (value following : ℕ) → ValueMatches below n.plan n.shelf o value → (IsRoute next → following < s.paths)
      → HoldsPart below s n.plan o next (held_as n.shelf o value following)
  held_part None next value following v f = tt
  held_part (Some part.Number) next value following v f = (value, refl)
  held_part (Some (part.Script policy)) next value following v f = (value, refl, v)
  held_part (Some (part.Place policy)) next value following v f = λ r. (following, value, refl, f r, omega (arith, v.0, w.counts.locations))
  held_part (Some (part.Route last)) next value following v f = tt
  held_part (Some (part.Tree policy top all)) next value following v f =
      (get_or n.shelf value [], refl, sound below s (least_of n.plan policy) n.plan.jobs policy (get_or n.shelf value []) (w.shelf value v.0) v.1.obeys, v.1)

  module _ (r : RunningRow) (j : JobSound below s n.plan n.shelf r) where
    -- every slot stands, those that are not there too
    slot_stands : (k : ℕ) → SlotStands s n.plan.patterns k (slot_at r.slots k)
    slot_stands k = elim (cases_lt k (length r.slots)) [
      | inl h ↦ j.stands.slots k h
      | inr h ↦ subst (SlotStands s n.plan.patterns k) (sym (get_or_past r.slots k slot0 h)) (none refl refl)
    ]

    pub slots_hold : Holds below s n.plan (map (λ x. x.pattern) r.slots) (held_in n.plan n.shelf r.slots)
    slots_hold k =
        subst (λ (o : Option Part). HoldsPart below s n.plan o (part_at n.plan.patterns (map (λ x. x.pattern) r.slots) (k + 1)) (held_in n.plan n.shelf r.slots k)) (sym (part_marked n.plan r.slots k))
        (subst (λ (o : Option Part). HoldsPart below s n.plan (part_of n.plan r.slots k) o (held_in n.plan n.shelf r.slots k)) (sym (part_marked n.plan r.slots (k + 1)))
        (held_part (part_of n.plan r.slots k) (part_of n.plan r.slots (k + 1)) (slot_at r.slots k).value (slot_at r.slots (k + 1)).value (value_at below n.plan n.shelf r.slots j.typed.slots k)
        (route_inside s n.plan (k + 1) (slot_at r.slots (k + 1)) (slot_stands (k + 1)))))

-- Slots after a pattern has filled its own from an edge that it matches.
use Rattle.std.proofs.Common.{◌≡◌, ℕ, ◌+◌, ◌-◌, ◌<◌, Bool, eqb, List, [], map, length, slice_index_or, set, Some, None, Option, sym, refl, ap, ◌∙◌, subst, inl, inr, arith}
use Rattle.std.proofs.lemmas.Bool.{cases_eq, cond-true, cond-false, eq-eqb, ne_eqb}
use Rattle.std.proofs.lemmas.Bool.Decides.{nat_tests}
use Rattle.std.proofs.lemmas.List.{get_or-set_same, get_or-set_other, length-set, map-set}
use Rattle.rows.specs.declared.row.TreeLine.{TreeLine}
use Rattle.layout.specs.declared.memory.Slot.{Slot}
use Rattle.layout.specs.Network.{TreeLines, Plan}
use Rattle.layout.specs.Zeros.{slot0}
use Rattle.meaning.specs.declared.kinds.ContentKind.TheVariants as kind
use Rattle.meaning.specs.declared.patterns.Pattern.{Pattern}
use Rattle.meaning.specs.declared.patterns.Pattern.TheVariants as pattern
use Rattle.meaning.specs.Decoding.{content_of, then_some}
use Rattle.meaning.specs.Kinds.{kind_of}
use Rattle.obeying.specs.Rules.{line, Matches}
use Rattle.obeying.specs.TreeLaws.{under}
use Rattle.slots.specs.declared.part.Part.{Part}
use Rattle.slots.specs.declared.part.Part.TheVariants as part
use Rattle.slots.specs.Slots.{pattern_at, part_in, part_by, filled_by}
use Rattle.pasting.specs.Words.{least_of}
use Rattle.matching.specs.Matching.{ValueMatches, SlotMatches}
use Rattle.standing.specs.declared.sizes.Sizes.{Sizes}
use Rattle.standing.specs.declared.lines.Home.TheVariants as home
use Rattle.standing.specs.Words.{Means, Belongs, ContentStands, LineStands, PartStands, SlotStands}
use Rattle.standing.specs.Words.SlotStands.{filled}
use Rattle.edges.specs.Matching.{EdgeMatches}
use Rattle.replacing.specs.Holding.{InSlots}
use Rattle.reduction.specs.Filling.{filled_with, filled_slots}
use Rattle.reduction.specs.Values.{slot_at}

-- what typing sees of the slots is filled alike
pub marks_filled : (m : Pattern) (row : ℕ) (x : TreeLine) (number : ℕ) (slots : List Slot)
    → map (λ x. x.pattern) (filled_slots m row x number slots) ≡ filled_by (Some m) (row + 1) (map (λ x. x.pattern) slots)
marks_filled (pattern.Number slot) row x number slots = map-set (λ x. x.pattern) slots slot (filled_with row x.first)
marks_filled (pattern.Script slot policy) row x number slots = map-set (λ x. x.pattern) slots slot (filled_with row x.first)
marks_filled (pattern.Pointer slot policy last) row x number slots =
    map-set (λ x. x.pattern) (set slots slot (filled_with row x.second)) (slot + 1) (filled_with row x.first)
    ∙ ap (λ (ns : List ℕ). set ns (slot + 1) (row + 1)) (map-set (λ x. x.pattern) slots slot (filled_with row x.second))
marks_filled (pattern.Tree slot policy top all) row x number slots = map-set (λ x. x.pattern) slots slot (filled_with row number)

pub filled_long : (m : Pattern) (row : ℕ) (x : TreeLine) (number : ℕ) (slots : List Slot) → length (filled_slots m row x number slots) ≡ length slots
filled_long (pattern.Number slot) row x number slots = length-set slots slot (filled_with row x.first)
filled_long (pattern.Script slot policy) row x number slots = length-set slots slot (filled_with row x.first)
filled_long (pattern.Pointer slot policy last) row x number slots =
    length-set (set slots slot (filled_with row x.second)) (slot + 1) (filled_with row x.first) ∙ length-set slots slot (filled_with row x.second)
filled_long (pattern.Tree slot policy top all) row x number slots = length-set slots slot (filled_with row number)

-- what holds of each slot
abbrev pub EachSlot : (ℕ → Slot → Type 0) → List Slot → Type 0
EachSlot P slots = (k : ℕ) → k < length slots → P k (slot_at slots k)

slot_set : (P : ℕ → Slot → Type 0) (slots : List Slot) (own : ℕ) (x : Slot) → own < length slots → P own x → EachSlot P slots → EachSlot P (set slots own x)
slot_set P slots own x room new old k h = elim (cases_eq k own) [
  | inl e ↦ subst (λ (m : ℕ). P m (slot_at (set slots own x) m)) (sym e) (subst (P own) (sym (get_or-set_same slots own x slot0 room)) new)
  | inr d ↦ subst (P k) (sym (get_or-set_other slots own k x slot0 d)) (old k (omega (arith, length-set slots own x)))
]

pointer_kind : (k : ℕ) → kind_of k ≡ Some kind.Pointer → k ≡ 3
pointer_kind k e = grind (arith, nat_tests)

-- the tree under the line is on the shelf by this number, where the pattern is a tree's
abbrev pub Shelved : Pattern → List TreeLines → TreeLines → ℕ → ℕ → Type 0
Shelved (pattern.Number slot) shelf tree i number = Unit {0}
Shelved (pattern.Script slot policy) shelf tree i number = Unit {0}
Shelved (pattern.Pointer slot policy last) shelf tree i number = Unit {0}
Shelved (pattern.Tree slot policy top all) shelf tree i number = (number < length shelf) × (slice_index_or shelf number [] ≡ under tree i)

-- the path of a pointer is there
pub path_inside : (s : Sizes) (x : TreeLine) → LineStands home.Tree s x → x.content ≡ 3 → x.first < s.paths
path_inside s x w e = (subst (λ (k : ℕ). Means (content_of k x.first x.second) (λ c. Belongs home.Tree c × ContentStands s c)) e w.content).1.0

module _ (below : ℕ → ℕ → Bool) (s : Sizes) (p : Plan) (shelf : List TreeLines) where
  -- a slot that stands, and holds what its part asks
  abbrev pub SlotSound : ℕ → Slot → Type 0
  SlotSound k x = SlotStands s p.patterns k x × SlotMatches below p shelf k x

  module _ (row : ℕ) (m : Pattern) (is : pattern_at p.patterns row ≡ Some m) (inside : row < s.patterns) where
    back : row + 1 - 1 ≡ row
    back = omega arith

    part_new : (k : ℕ) → part_by p.patterns (row + 1) k ≡ part_in m k
    part_new k =
        cond-false (eqb (row + 1) 0) None (then_some (pattern_at p.patterns (row + 1 - 1)) (λ q. part_in q k)) (ne_eqb (row + 1) 0 (λ z. omega arith))
        ∙ (ap (λ (i : ℕ). then_some (pattern_at p.patterns i) (λ q. part_in q k)) back ∙ ap (λ (o : Option Pattern). then_some o (λ q. part_in q k)) is)

    -- a slot that the pattern has filled
    new_slot : (k value : ℕ) (o : Option Part) → part_in m k ≡ o → PartStands s m k value → ValueMatches below p shelf o value → SlotSound k (filled_with row value)
    new_slot k value o e stands matches = (
      filled (omega arith) (omega arith) (subst (λ (o : Option Pattern). Means o (λ q. PartStands s q k value)) (sym (ap (pattern_at p.patterns) back ∙ is)) stands),
      subst (λ (o : Option Part). ValueMatches below p shelf o value) (sym (part_new k ∙ e)) matches,
    )

  module _ (row : ℕ) (inside : row < s.patterns) (jobs : s.jobs ≡ length p.jobs) (locations : s.locations ≡ length p.locations) (trees : s.shelf ≡ length shelf)
      (tree : TreeLines) (i : ℕ) (route : (line tree i).content ≡ 3 → (line tree i).first < s.paths) (number : ℕ) (slots : List Slot) (six : length slots ≡ 6) (sound : EachSlot SlotSound slots) where
    abbrev x : TreeLine
    x = line tree i

    pub filled_sound : (m : Pattern) → pattern_at p.patterns row ≡ Some m → InSlots m → EdgeMatches below p m tree i → Shelved m shelf tree i number
        → EachSlot SlotSound (filled_slots m row x number slots)
    filled_sound (pattern.Number slot) is room e shelved =
        slot_set SlotSound slots slot (filled_with row x.first) (omega arith)
        (new_slot row (pattern.Number slot) is inside slot x.first (Some part.Number) (cond-true (eqb slot slot) (Some part.Number) None (eq-eqb slot slot refl)) refl tt) sound
    filled_sound (pattern.Script slot policy) is room e shelved =
        slot_set SlotSound slots slot (filled_with row x.first) (omega arith)
        (new_slot row (pattern.Script slot policy) is inside slot x.first (Some (part.Script policy))
        (cond-true (eqb slot slot) (Some (part.Script policy)) None (eq-eqb slot slot refl)) (refl, omega (arith, e.1.0)) e.1)
        sound
    filled_sound (pattern.Pointer slot policy last) is room e shelved =
        slot_set SlotSound (set slots slot (filled_with row x.second)) (slot + 1) (filled_with row x.first) (omega (arith, length-set slots slot (filled_with row x.second)))
        (new_slot row (pattern.Pointer slot policy last) is inside (slot + 1) x.first (Some (part.Route last))
        (cond-false (eqb (slot + 1) slot) _ _ (ne_eqb (slot + 1) slot (λ z. omega arith)) ∙ cond-true (eqb (slot + 1) (slot + 1)) _ None (eq-eqb (slot + 1) (slot + 1) refl))
        (inr (refl, route (pointer_kind x.content e.0))) e.1.1)
        (slot_set SlotSound slots slot (filled_with row x.second) (omega arith)
        (new_slot row (pattern.Pointer slot policy last) is inside slot x.second (Some (part.Place policy))
        (cond-true (eqb slot slot) (Some (part.Place policy)) _ (eq-eqb slot slot refl)) (inl (refl, omega (arith, e.1.0.0))) e.1.0)
        sound)
    filled_sound (pattern.Tree slot policy top all) is room e shelved =
        slot_set SlotSound slots slot (filled_with row number) (omega arith)
        (new_slot row (pattern.Tree slot policy top all) is inside slot number (Some (part.Tree policy top all))
        (cond-true (eqb slot slot) (Some (part.Tree policy top all)) None (eq-eqb slot slot refl)) (refl, omega (arith, shelved.0))
        (shelved.0, subst (Matches below (least_of p policy) p.jobs policy top all) (sym shelved.1) e.1))
        sound

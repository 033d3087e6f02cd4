-- What the operands of a sound job name is there.
use Rattle.std.proofs.Common.{◌≡◌, ℕ, zero, suc, ◌-◌, ◌<◌, Bool, true, false, cond, eqb, ◌⊎◌, List, [], ◌∷◌, map, length, get_or, Some, None, Option, option_map, sym, refl, ap, ◌∙◌, subst, inl, inr, arith}
use Rattle.std.proofs.lemmas.Bool.{cases_lt}
use Rattle.std.proofs.lemmas.List.{get_or_past}
use Rattle.std.proofs.lemmas.Option.{same_Some, slice_get_cases, get_or_from_slice_get}
use Rattle.rows.specs.declared.row.LocationRow.{LocationRow}
use Rattle.rows.specs.declared.row.PathStepRow.{PathStepRow}
use Rattle.layout.specs.declared.memory.Slot.{Slot}
use Rattle.layout.specs.declared.memory.RunningRow.{RunningRow}
use Rattle.layout.specs.Network.{TreeLines, Plan}
use Rattle.layout.specs.Zeros.{step0, location0, slot0}
use Rattle.meaning.specs.declared.verbs.Operand.{Operand}
use Rattle.meaning.specs.declared.verbs.Operand.TheVariants as operand
use Rattle.scan.specs.Scan.{carried}
use Rattle.slots.specs.declared.part.Part.{Part}
use Rattle.slots.specs.declared.part.Part.TheVariants as part
use Rattle.slots.specs.Slots.{part_by, part_at}
use Rattle.slots.specs.Operands.{last_set, place_policy, route_set}
use Rattle.commands.specs.Rules.{goal_of, last_of}
use Rattle.matching.specs.Matching.{policy_at, ValueMatches, SlotsMatch}
use Rattle.breaches.specs.Words.{running_standing}
use Rattle.edges.specs.Paths as paths
use Rattle.reduction.specs.Values.{slot_at, named, path_steps, path_of, part_of}

-- ---- the steps of a path

-- the last step's set is what a pass over all steps finds last
abbrev Ends : List PathStepRow → ℕ → Type 0
Ends ys last = (0 < length ys) × (paths.last_set ys ≡ last)

abbrev newer : ℕ → Option ℕ → PathStepRow → Option ℕ
newer path last x = cond (eqb x.path path) (Some x.set) last

one_more : (x : PathStepRow) (ys : List PathStepRow) (last : ℕ) → (ys ≡ []) × (x.set ≡ last) ⊎ Ends ys last → Ends (x ∷ ys) last
one_more x ys last (inl w) = (omega arith, ap (λ (zs : List PathStepRow). paths.last_set (x ∷ zs)) w.0 ∙ w.1)
one_more x [] last (inr w) = absurd (omega (arith, w.0))
one_more x (y ∷ ys) last (inr w) =
    let long : suc (suc (length ys)) - 1 ≡ suc (length ys) = omega arith in
    let short : suc (length ys) - 1 ≡ length ys = omega arith in
    (omega arith, ap (λ (k : ℕ). (get_or (x ∷ y ∷ ys) k step0).set) long ∙ (sym (ap (λ (k : ℕ). (get_or (y ∷ ys) k step0).set) short) ∙ w.1))

ends_so_far : (xs : List PathStepRow) (path : ℕ) (so_far : Option ℕ) (last : ℕ) → carried (newer path) so_far xs ≡ Some last
    → (path_steps xs path ≡ []) × (so_far ≡ Some last) ⊎ Ends (path_steps xs path) last
ends_so_far [] path so_far last e = inl (refl, e)
ends_so_far (x ∷ xs) path so_far last e = go (eqb x.path path) (λ o f. ends_so_far xs path o last f) e
  where
    go : (b : Bool) → ((o : Option ℕ) → carried (newer path) o xs ≡ Some last → (path_steps xs path ≡ []) × (o ≡ Some last) ⊎ Ends (path_steps xs path) last)
        → carried (newer path) (cond b (Some x.set) so_far) xs ≡ Some last
        → (cond b (x ∷ path_steps xs path) (path_steps xs path) ≡ []) × (so_far ≡ Some last) ⊎ Ends (cond b (x ∷ path_steps xs path) (path_steps xs path)) last
    go true rest e = elim (rest (Some x.set) e) [
      | inl w ↦ inr (one_more x (path_steps xs path) last (inl (w.0, same_Some x.set last w.1)))
      | inr w ↦ inr (one_more x (path_steps xs path) last (inr w))
    ]
    go false rest e = rest so_far e

no_last : (last : ℕ) → None ≡ Some last → ⊥
no_last last e = cc

pub path_ends : (steps : List PathStepRow) (path last : ℕ) → last_set steps path ≡ Some last → (0 < length (path_steps steps path)) × (paths.last_set (path_steps steps path) ≡ last)
path_ends steps path last e = elim (ends_so_far steps path None last e) [ inl w ↦ absurd (no_last last w.1) | inr w ↦ w ]

-- ---- slots

pub mark_at : (slots : List Slot) (k : ℕ) → get_or (map (λ x. x.pattern) slots) k 0 ≡ (slot_at slots k).pattern
mark_at [] k = refl
mark_at (x ∷ xs) zero = refl
mark_at (x ∷ xs) (suc k) = mark_at xs k

-- the part that a slot holds, by its number alone
pub part_marked : (p : Plan) (slots : List Slot) (k : ℕ) → part_at p.patterns (map (λ x. x.pattern) slots) k ≡ part_of p slots k
part_marked p slots k = ap (λ (n : ℕ). part_by p.patterns n k) (mark_at slots k)

-- every slot matches, those that are not there too
pub value_at : (below : ℕ → ℕ → Bool) (p : Plan) (shelf : List TreeLines) (slots : List Slot) → SlotsMatch below p shelf slots
    → (k : ℕ) → ValueMatches below p shelf (part_of p slots k) (slot_at slots k).value
value_at below p shelf slots w k = elim (cases_lt k (length slots)) [
  | inl h ↦ w k h
  | inr h ↦ subst (λ (x : Slot). ValueMatches below p shelf (part_by p.patterns x.pattern k) x.value) (sym (get_or_past slots k slot0 h)) tt
]

-- a path in a slot
route_there : (below : ℕ → ℕ → Bool) (p : Plan) (shelf : List TreeLines) (o : Option Part) (value last : ℕ) → route_set o ≡ Some last → ValueMatches below p shelf o value
    → last_set p.steps value ≡ Some last
route_there below p shelf None value last e w = absurd (no_last last e)
route_there below p shelf (Some part.Number) value last e w = absurd (no_last last e)
route_there below p shelf (Some (part.Script policy)) value last e w = absurd (no_last last e)
route_there below p shelf (Some (part.Place policy)) value last e w = absurd (no_last last e)
route_there below p shelf (Some (part.Route set)) value last e w = w ∙ e
route_there below p shelf (Some (part.Tree policy top all)) value last e w = absurd (no_last last e)

-- a location in a slot
abbrev IsPlace : Plan → ℕ → ℕ → Type 0
IsPlace p policy location = (location < length p.locations) × (policy_at p location ≡ policy)

place_there : (below : ℕ → ℕ → Bool) (p : Plan) (shelf : List TreeLines) (o : Option Part) (value policy : ℕ) → place_policy o ≡ Some policy → ValueMatches below p shelf o value
    → IsPlace p policy value
place_there below p shelf None value policy e w = absurd (no_last policy e)
place_there below p shelf (Some part.Number) value policy e w = absurd (no_last policy e)
place_there below p shelf (Some (part.Script own)) value policy e w = absurd (no_last policy e)
place_there below p shelf (Some (part.Place own)) value policy e w = (w.0, w.1 ∙ same_Some own policy e)
place_there below p shelf (Some (part.Route last)) value policy e w = absurd (no_last policy e)
place_there below p shelf (Some (part.Tree own top all)) value policy e w = absurd (no_last policy e)

-- ---- operands

module _ (below : ℕ → ℕ → Bool) (p : Plan) (shelf : List TreeLines) (r : RunningRow) (w : SlotsMatch below p shelf r.slots) where
  -- the path that an operand names has steps, and its last set is the one that typing tells
  pub path_there : (path : Operand) (last : ℕ) → last_of p (running_standing p r) path ≡ Some last
      → (0 < length (path_of p r path)) × (paths.last_set (path_of p r path) ≡ last)
  path_there (operand.Row row) last e = path_ends p.steps row last e
  path_there (operand.Slot slot) last e =
      path_ends p.steps (slot_at r.slots slot).value last
      (route_there below p shelf (part_of p r.slots slot) (slot_at r.slots slot).value last (sym (ap route_set (part_marked p r.slots slot)) ∙ e) (value_at below p shelf r.slots w slot))

  -- the location that an operand names is there, and has the policy that typing tells
  pub goal_there : (location : Operand) (policy : ℕ) → goal_of p (running_standing p r) location ≡ Some policy
      → (named r.slots location < length p.locations) × (policy_at p (named r.slots location) ≡ policy)
  goal_there (operand.Row row) policy e = elim (slice_get_cases p.locations row).1 [
    | inl h ↦ (
      h.1,
      ap (λ (x : LocationRow). x.policy) (get_or_from_slice_get p.locations row h.0 location0 h.2)
          ∙ same_Some h.0.policy policy (sym (ap (λ (o : Option LocationRow). option_map (λ x. x.policy) o) h.2) ∙ e),
    )
    | inr h ↦ absurd (no_last policy (sym (ap (λ (o : Option LocationRow). option_map (λ x. x.policy) o) h.1) ∙ e))
  ]
  goal_there (operand.Slot slot) policy e =
      place_there below p shelf (part_of p r.slots slot) (slot_at r.slots slot).value policy (sym (ap place_policy (part_marked p r.slots slot)) ∙ e) (value_at below p shelf r.slots w slot)

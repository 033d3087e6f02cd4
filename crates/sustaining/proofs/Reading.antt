-- Reads: each copy of the job holds what its edge had, and the trees that it copies stand.
use Rattle.std.proofs.Common.{◌≡◌, ℕ, suc, ◌+◌, ◌<◌, ◌≤◌, Bool, true, false, cond, eqb, List, [], ◌∷◌, ◌++◌, map, length, get_or, Some, Option, sym, refl, ◌∙◌, subst, inl, inr, arith}
use Rattle.std.proofs.lemmas.Bool.{eqb-false}
use Rattle.std.proofs.lemmas.List.{length-append}
use Rattle.layout.specs.declared.memory.Slot.{Slot}
use Rattle.layout.specs.declared.memory.RunningRow.{RunningRow}
use Rattle.layout.specs.Network.{TreeLines, Network}
use Rattle.layout.specs.Zeros.{no_running, slot0}
use Rattle.meaning.specs.declared.patterns.Pattern.{Pattern}
use Rattle.meaning.specs.declared.verbs.Operand.{Operand}
use Rattle.meaning.specs.declared.verbs.Verb.TheVariants as verb
use Rattle.obeying.specs.Rules.{line}
use Rattle.scan.specs.Scan.{Each}
use Rattle.slots.specs.Slots.{pattern_at, filled_by}
use Rattle.typing.specs.Typing.{Typed}
use Rattle.typing.specs.Flow.{verb_at}
use Rattle.typing.proofs.Inversions.{at_read}
use Rattle.matching.specs.Matching.{policy_at}
use Rattle.matching.proofs.Growing.{slots_grow}
use Rattle.breaches.specs.Words.{running_standing}
use Rattle.standing.specs.declared.sizes.Sizes.{Sizes}
use Rattle.edges.specs.Matching.{EdgeMatches}
use Rattle.edges.specs.Rows.{flagged_rows, flagged_count}
use Rattle.reduction.specs.Effects.{Effect, copies, reader, readers}
use Rattle.reduction.specs.Filling.{filled_slots}
use Rattle.reduction.specs.Soundness.{JobSound, NetworkSound, EffectSound, with_shelf}
use Rattle.reduction.specs.Steps.{next_of, Reads}
use Rattle.reduction.specs.Values.{tree_of, path_of}
use Rattle.sustaining.proofs.Copies.{copy_shelved, copies_stand, copies_short}
use Rattle.sustaining.proofs.Filling.{EachSlot, SlotSound, Shelved, filled_sound, filled_long, marks_filled, path_inside}
use Rattle.sustaining.proofs.Growing.{slot_grows}
use Rattle.sustaining.proofs.Lists.{each_none, each_more}
use Rattle.sustaining.proofs.Networks.{tree_stands, tree_sound, next_there, verb_there}
use Rattle.sustaining.proofs.Patterns.{pattern_in_slots}
use Rattle.sustaining.proofs.Rows.{rows_matched}
use Rattle.sustaining.proofs.Successors.{Successor, none_shelved}

module _ (below : ℕ → ℕ → Bool) (s : Sizes) (n : Network) (w : NetworkSound below s n) (r : RunningRow) (j : JobSound below s n.plan n.shelf r) where
  module _ (more : List TreeLines) where
    abbrev later : Sizes
    later = with_shelf s (length (n.shelf ++ more))

    -- the slots before the read
    slots_before : EachSlot (SlotSound below later n.plan (n.shelf ++ more)) r.slots
    slots_before k h = (
      slot_grows s (length (n.shelf ++ more)) (omega (arith, length-append n.shelf more, w.counts.shelf)) n.plan.patterns k (get_or r.slots k slot0) (j.stands.slots k h),
      slots_grow below n.plan n.shelf more r.slots j.typed.slots k h,
    )

    module _ (row : ℕ) (m : Pattern) (is : pattern_at n.plan.patterns row ≡ Some m) (inside : row < s.patterns) (next : ℕ) (some : 0 < next) (few : next ≤ s.commands)
        (typed : Typed below n.plan (record { policy = policy_at n.plan r.location; roles = r.roles; slots = filled_by (Some m) (row + 1) (map (λ x. x.pattern) r.slots) }) next) where
      reader_sound : (i number : ℕ) → i < length (tree_of n r) → EdgeMatches below n.plan m (tree_of n r) i → Shelved m (n.shelf ++ more) (tree_of n r) i number
          → Successor below s n.plan n.shelf more (reader r next m row (tree_of n r) number i)
      reader_sound i number h e shelved =
          let slots : List Slot = filled_slots m row (line (tree_of n r) i) number r.slots in
          let good : EachSlot (SlotSound below later n.plan (n.shelf ++ more)) slots =
          filled_sound below later n.plan (n.shelf ++ more) row inside w.counts.jobs w.counts.locations refl (tree_of n r) i (path_inside s (line (tree_of n r) i) ((tree_stands below s n w r.location).each i h)) number r.slots j.six
          slots_before m is (pattern_in_slots s n.plan w.plan w.counts.patterns row m inside is) e shelved in
          record {
            six = filled_long m row (line (tree_of n r) i) number r.slots ∙ j.six;
            stands = record { location = j.stands.location; roles = j.stands.roles; command = (some, few); slots = λ k l. (good k l).0 };
            typed = record {
              runs = record {
                least = j.typed.runs.least;
                typed = subst (λ (marks : List ℕ). Typed below n.plan (record { policy = policy_at n.plan r.location; roles = r.roles; slots = marks }) next)
                    (sym (marks_filled m row (line (tree_of n r) i) number r.slots)) typed;
              };
              slots = λ k l. (good k l).1;
            };
          }

      readers_sound : (rows : List ℕ) (number : ℕ)
          → ((k : ℕ) → k < length rows → (get_or rows k 0 < length (tree_of n r)) × EdgeMatches below n.plan m (tree_of n r) (get_or rows k 0) × Shelved m (n.shelf ++ more) (tree_of n r) (get_or rows k 0) (number + k))
          → Each (Successor below s n.plan n.shelf more) no_running (readers r next m row (tree_of n r) number rows)
      readers_sound [] number f = each_none (Successor below s n.plan n.shelf more) no_running
      readers_sound (i ∷ rows) number f =
          let here = f 0 (omega arith) in
          let same : number + 0 ≡ number = omega arith in
          each_more (Successor below s n.plan n.shelf more) no_running (reader r next m row (tree_of n r) number i) (readers r next m row (tree_of n r) (number + 1) rows)
          (reader_sound i number here.0 here.1 (subst (Shelved m (n.shelf ++ more) (tree_of n r) i) same here.2))
          (readers_sound rows (number + 1) (λ k h.
          let there = f (suc k) (omega arith) in
          let moved : number + suc k ≡ number + 1 + k = omega arith in
          (there.0, there.1, subst (Shelved m (n.shelf ++ more) (tree_of n r) (get_or rows k 0)) moved there.2)))

  module _ (path : Operand) (row : ℕ) (v : verb_at n.plan r.command ≡ Some (verb.Read path row)) (e : Effect) (q : Reads below n r path row e) where
    abbrev next : ℕ
    next = next_of n r

    abbrev rows : List ℕ
    rows = flagged_rows q.matches

    abbrev made : List TreeLines
    made = copies q.pattern (tree_of n r) rows

    -- what is typed under the slots that the read fills
    next_typed : Typed below n.plan (record { policy = policy_at n.plan r.location; roles = r.roles; slots = filled_by (Some q.pattern) (row + 1) (map (λ x. x.pattern) r.slots) }) next
    next_typed =
        subst (λ (o : Option Pattern). Typed below n.plan (record { policy = policy_at n.plan r.location; roles = r.roles; slots = filled_by o (row + 1) (map (λ x. x.pattern) r.slots) }) next) q.there
        (at_read below n.plan (running_standing n.plan r) r.command path row j.typed.runs.typed v).next

    copied : eqb next 0 ≡ false → Each (Successor below s n.plan n.shelf made) no_running (readers r next q.pattern row (tree_of n r) (length n.shelf) rows)
    copied z =
        let some : (0 < next) × (next ≤ s.commands) = elim (next_there below s n w r j) [ inl o ↦ absurd (eqb-false next 0 z o) | inr h ↦ h ] in
        readers_sound made row q.pattern q.there (verb_there below s n w r j (verb.Read path row) v).1 next some.0 some.1 next_typed rows (length n.shelf)
        (λ k h.
        let good = rows_matched below (path_of n.plan r path) (tree_of n r) n.plan q.pattern q.matches q.matched k h in
        (good.0.inside, good.1, copy_shelved q.pattern n.shelf (tree_of n r) rows k h))

    -- with next 0 nothing is copied
    outcome : (b : Bool) → eqb next 0 ≡ b → EffectSound below s n.plan (policy_at n.plan r.location) n.shelf (record {
      found = flagged_count q.flags;
      jobs = cond b [] (readers r next q.pattern row (tree_of n r) (length n.shelf) rows);
      copies = cond b [] made;
      tree = tree_of n r;
    })
    outcome true z =
        none_shelved below s n.plan (policy_at n.plan r.location) n.shelf (flagged_count q.flags) [] (tree_of n r) (each_none (Successor below s n.plan n.shelf []) no_running) (tree_sound below s n w r)
    outcome false z = record {
      jobs = copied z;
      copies = copies_stand below s n w r q.pattern rows;
      short = copies_short below s n w r q.pattern rows;
      tree = tree_sound below s n w r;
    }

    pub read_sound : EffectSound below s n.plan (policy_at n.plan r.location) n.shelf e
    read_sound = subst (EffectSound below s n.plan (policy_at n.plan r.location) n.shelf) (sym q.effect) (outcome (eqb next 0) refl)

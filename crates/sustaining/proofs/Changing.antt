-- Changes: the tree stays sound.
use Rattle.std.proofs.Common.{◌≡◌, ℕ, ◌+◌, Bool, List, [], map, Some, Option, sym, ◌∙◌, subst}
use Rattle.std.proofs.lemmas.List.{length-map}
use Rattle.rows.specs.declared.row.PathStepRow.{PathStepRow}
use Rattle.layout.specs.declared.memory.RunningRow.{RunningRow}
use Rattle.layout.specs.Network.{Network}
use Rattle.meaning.specs.declared.contents.Content.{Content}
use Rattle.meaning.specs.declared.patterns.Pattern.{Pattern}
use Rattle.meaning.specs.declared.verbs.Operand.{Operand}
use Rattle.meaning.specs.declared.verbs.Verb.TheVariants as verb
use Rattle.slots.specs.Slots.{filled_by}
use Rattle.pasting.specs.Words.{ContentFits, ContentObeys}
use Rattle.typing.specs.Flow.{verb_at}
use Rattle.typing.specs.TypingLaws.{ChangeKeeps}
use Rattle.typing.proofs.Inversions.{at_change}
use Rattle.matching.specs.Matching.{policy_at}
use Rattle.breaches.specs.Words.{running_standing}
use Rattle.standing.specs.declared.sizes.Sizes.{Sizes}
use Rattle.edges.specs.Rows.{flagged_count}
use Rattle.replacing.specs.Granted.{Allowed, Meets}
use Rattle.replacing.proofs.Granted.{allowed}
use Rattle.reduction.specs.Effects.{Effect, goes_on}
use Rattle.reduction.specs.Soundness.{JobSound, NetworkSound, EffectSound}
use Rattle.reduction.specs.Steps.{next_of, Changes}
use Rattle.reduction.specs.Values.{tree_of, path_of, held_in}
use Rattle.sustaining.proofs.HeldSlots.{slots_hold}
use Rattle.sustaining.proofs.Networks.{tree_sound, next_there, verb_there}
use Rattle.sustaining.proofs.Operands.{path_there}
use Rattle.sustaining.proofs.Patterns.{pattern_in_slots}
use Rattle.sustaining.proofs.Successors.{goes_on_sound, none_shelved}

module _ (below : ℕ → ℕ → Bool) (s : Sizes) (n : Network) (w : NetworkSound below s n) (r : RunningRow) (j : JobSound below s n.plan n.shelf r)
    (path : Operand) (row : ℕ) (content : Content) (v : verb_at n.plan r.command ≡ Some (verb.Change path row content)) (e : Effect) (q : Changes below n r path row content e) where
  abbrev policy : ℕ
  policy = policy_at n.plan r.location

  abbrev marks : List ℕ
  marks = map (λ x. x.pattern) r.slots

  abbrev steps : List PathStepRow
  steps = path_of n.plan r path

  keeps : ChangeKeeps below n.plan (running_standing n.plan r) r.command path row content
  keeps = at_change below n.plan (running_standing n.plan r) r.command path row content j.typed.runs.typed v

  allowed_there : Allowed below s n.plan policy steps row q.pattern marks content
  allowed_there = record {
    pattern = q.there;
    own = pattern_in_slots s n.plan w.plan w.counts.patterns row q.pattern (verb_there below s n w r j (verb.Change path row content) v).1.0 q.there;
    six = length-map r.slots (λ x. x.pattern) ∙ j.six;
    content = (verb_there below s n w r j (verb.Change path row content) v).1.1;
    templates = w.plan.templates;
    jobs = w.counts.jobs;
    fits = subst (λ (o : Option Pattern). ContentFits n.plan (filled_by o (row + 1) marks) content) q.there keeps.fits;
    obeys =
        subst (λ (set : ℕ). ContentObeys below n.plan policy set (filled_by (Some q.pattern) (row + 1) marks) content) (sym (path_there below n.plan n.shelf r j.typed.slots path keeps.last keeps.there).1)
        (subst (λ (o : Option Pattern). ContentObeys below n.plan policy keeps.last (filled_by o (row + 1) marks) content) q.there keeps.obeys);
  }

  met : Meets below s n.plan policy steps q.pattern marks (held_in n.plan n.shelf r.slots) (tree_of n r) q.matches
  met = record {
    sound = tree_sound below s n w r;
    holds = slots_hold below s n w r j;
    found = λ i h f. ((q.matched.each i h).0 f).0;
    matched = λ i h f. ((q.matched.each i h).0 f).1;
  }

  pub change_sound : EffectSound below s n.plan policy n.shelf e
  change_sound =
      subst (EffectSound below s n.plan policy n.shelf) (sym q.effect)
      (none_shelved below s n.plan policy n.shelf (flagged_count q.flags) (goes_on r (next_of n r)) q.after
      (goes_on_sound below s n.plan n.shelf [] w.counts.shelf r j (next_of n r) (next_there below s n w r j) keeps.next)
      (allowed s below w.lawful n.plan policy steps row q.pattern marks (held_in n.plan n.shelf r.slots) content (tree_of n r) q.matches allowed_there met q.after q.changed))

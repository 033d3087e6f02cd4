-- Enabling and disabling: the tree stays sound.
use Rattle.std.proofs.Common.{◌≡◌, ℕ, ◌^◌, Bool, true, [], Some, Contains, sym, ◌∙◌, subst, refl}
use Rattle.std.proofs.lemmas.List.{get_or_default}
use Rattle.order.specs.RoleSets.{SetBelow}
use Rattle.order.proofs.Sets.{single_to}
use Rattle.rows.specs.declared.row.GrantRow.{GrantRow}
use Rattle.layout.specs.declared.memory.RunningRow.{RunningRow}
use Rattle.layout.specs.Network.{TreeLines, Network}
use Rattle.layout.specs.Zeros.{grant0}
use Rattle.meaning.specs.declared.directions.Direction.TheVariants as direction
use Rattle.meaning.specs.declared.verbs.Operand.{Operand}
use Rattle.meaning.specs.declared.verbs.Verb.TheVariants as verb
use Rattle.obeying.specs.Rules.{GrantObeys}
use Rattle.pasting.specs.Words.{least_of}
use Rattle.commands.specs.Rules.{wanted}
use Rattle.typing.specs.Flow.{verb_at}
use Rattle.typing.proofs.Inversions.{at_enable, at_disable}
use Rattle.matching.specs.Matching.{policy_at}
use Rattle.breaches.specs.Words.{running_standing}
use Rattle.standing.specs.declared.sizes.Sizes.{Sizes}
use Rattle.edges.specs.Rows.{flagged_count}
use Rattle.edges.specs.Enabling.{Enabled}
use Rattle.edges.specs.Disabling.{Disabled}
use Rattle.edges.proofs.Enabling.{enabling_laws}
use Rattle.edges.proofs.Disabling.{disabling_laws}
use Rattle.edges.proofs.Nesting.{standing_nested}
use Rattle.replacing.specs.Sound.{Sound}
use Rattle.replacing.proofs.Sound.{sound}
use Rattle.reduction.specs.Effects.{Effect, goes_on}
use Rattle.reduction.specs.Soundness.{JobSound, NetworkSound, EffectSound}
use Rattle.reduction.specs.Steps.{next_of, Enables, Disables}
use Rattle.reduction.specs.Values.{tree_of, path_of}
use Rattle.sustaining.proofs.Networks.{tree_stands, tree_obeys, next_there, verb_there}
use Rattle.sustaining.proofs.Operands.{path_there}
use Rattle.sustaining.proofs.Successors.{goes_on_sound, none_shelved}

module _ (below : ℕ → ℕ → Bool) (s : Sizes) (n : Network) (w : NetworkSound below s n) (r : RunningRow) (j : JobSound below s n.plan n.shelf r) where
  abbrev policy : ℕ
  policy = policy_at n.plan r.location

  abbrev least : ℕ
  least = least_of n.plan policy

  -- the role is none that the top role is at or below
  not_top : (role : ℕ) → Contains n.plan.grants (wanted (running_standing n.plan r) direction.Disable role) → below s.top role ≡ true → ⊥
  not_top role g =
      let x : GrantRow = wanted (running_standing n.plan r) direction.Disable role in
      subst (GrantObeys below s.top) (get_or_default n.plan.grants g.0 grant0 x g.1 ∙ g.2) (w.obeys.grants g.0 g.1) refl

  enabled_tree : (path : Operand) (role : ℕ) → verb_at n.plan r.command ≡ Some (verb.Enable path role) → (after : TreeLines)
      → Enabled below (path_of n.plan r path) role (tree_of n r) after → Sound below s least n.plan.jobs policy after
  enabled_tree path role v after d =
      let k = at_enable below n.plan (running_standing n.plan r) r.command path role j.typed.runs.typed v in
      let last = path_there below n.plan n.shelf r j.typed.slots path k.last k.there in
      sound below s least n.plan.jobs policy after
      (enabling_laws.stands below (path_of n.plan r path) role s (tree_of n r) after (verb_there below s n w r j (verb.Enable path role) v).1 d (tree_stands below s n w r.location))
      (enabling_laws.obeys s.roles s.top below w.lawful least n.plan.jobs policy (path_of n.plan r path) role (tree_of n r) after
      (subst (λ (set : ℕ). SetBelow below set (2 ^ role)) (sym last.1) (single_to below k.last role k.under)) d (tree_obeys below s n w r.location))

  disabled_tree : (path : Operand) (role : ℕ) → verb_at n.plan r.command ≡ Some (verb.Disable path role) → (after : TreeLines)
      → Disabled below (path_of n.plan r path) role (tree_of n r) after → Sound below s least n.plan.jobs policy after
  disabled_tree path role v after d =
      let k = at_disable below n.plan (running_standing n.plan r) r.command path role j.typed.runs.typed v in
      sound below s least n.plan.jobs policy after
      (disabling_laws.stands s below w.lawful (path_of n.plan r path) role (tree_of n r) after (not_top role k.granted) d (tree_stands below s n w r.location))
      (disabling_laws.obeys s.roles s.top below w.lawful least n.plan.jobs policy (path_of n.plan r path) role (tree_of n r) after
      (standing_nested s (tree_of n r) (tree_stands below s n w r.location)) d (tree_obeys below s n w r.location))

  pub enable_sound : (path : Operand) (role : ℕ) → verb_at n.plan r.command ≡ Some (verb.Enable path role) → (e : Effect) → Enables below n r path role e
      → EffectSound below s n.plan policy n.shelf e
  enable_sound path role v e q =
      let k = at_enable below n.plan (running_standing n.plan r) r.command path role j.typed.runs.typed v in
      subst (EffectSound below s n.plan policy n.shelf) (sym q.effect)
      (none_shelved below s n.plan policy n.shelf (flagged_count q.flags) (goes_on r (next_of n r)) q.after
      (goes_on_sound below s n.plan n.shelf [] w.counts.shelf r j (next_of n r) (next_there below s n w r j) k.next)
      (enabled_tree path role v q.after q.enabled))

  pub disable_sound : (path : Operand) (role : ℕ) → verb_at n.plan r.command ≡ Some (verb.Disable path role) → (e : Effect) → Disables below n r path role e
      → EffectSound below s n.plan policy n.shelf e
  disable_sound path role v e q =
      let k = at_disable below n.plan (running_standing n.plan r) r.command path role j.typed.runs.typed v in
      subst (EffectSound below s n.plan policy n.shelf) (sym q.effect)
      (none_shelved below s n.plan policy n.shelf (flagged_count q.flags) (goes_on r (next_of n r)) q.after
      (goes_on_sound below s n.plan n.shelf [] w.counts.shelf r j (next_of n r) (next_there below s n w r j) k.next)
      (disabled_tree path role v q.after q.disabled))

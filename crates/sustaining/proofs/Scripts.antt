-- Runs: the jobs of the scripts found are sound.
use Rattle.std.proofs.Common.{◌≡◌, ℕ, zero, suc, ◌<◌, Bool, eqb, List, [], ◌∷◌, ◌++◌, length, get_or, replicate, Some, sym, refl, subst, arith}
use Rattle.std.proofs.lemmas.Bool.{cond_both, eqb-true}
use Rattle.order.specs.RoleSets.{SetBelow}
use Rattle.layout.specs.declared.memory.RunningRow.{RunningRow}
use Rattle.layout.specs.Network.{Network}
use Rattle.layout.specs.Zeros.{job0, slot0, no_running}
use Rattle.meaning.specs.declared.verbs.Operand.{Operand}
use Rattle.meaning.specs.declared.verbs.Verb.TheVariants as verb
use Rattle.obeying.specs.Rules.{line}
use Rattle.scan.specs.Scan.{Each}
use Rattle.pasting.specs.Words.{least_of}
use Rattle.typing.specs.Typing.{Typed}
use Rattle.typing.specs.Flow.{verb_at}
use Rattle.typing.proofs.Inversions.{at_run}
use Rattle.matching.specs.Matching.{policy_at}
use Rattle.matching.proofs.Growing.{empty}
use Rattle.breaches.specs.Words.{running_standing}
use Rattle.standing.specs.declared.sizes.Sizes.{Sizes}
use Rattle.standing.specs.Words.{SlotStands}
use Rattle.standing.specs.Words.SlotStands.{none}
use Rattle.edges.specs.Rows.{flagged_rows, flagged_count}
use Rattle.reduction.specs.Effects.{Effect, goes_on, started, script_on, scripts}
use Rattle.reduction.specs.Soundness.{JobSound, NetworkSound, EffectSound, with_shelf}
use Rattle.reduction.specs.Steps.{next_of, Runs}
use Rattle.reduction.specs.Values.{tree_of, path_of}
use Rattle.sustaining.proofs.Lists.{each_none, each_more, each_append}
use Rattle.sustaining.proofs.Networks.{tree_obeys, tree_sound, next_there}
use Rattle.sustaining.proofs.Rows.{rows_found}
use Rattle.sustaining.proofs.Successors.{Successor, goes_on_sound, none_shelved}

empty_slot : (m k : ℕ) → get_or (replicate m slot0) k slot0 ≡ slot0
empty_slot zero k = refl
empty_slot (suc m) zero = refl
empty_slot (suc m) (suc k) = empty_slot m k

module _ (below : ℕ → ℕ → Bool) (s : Sizes) (n : Network) (w : NetworkSound below s n) (r : RunningRow) (j : JobSound below s n.plan n.shelf r) where
  abbrev Started : RunningRow → Type 0
  Started x = Successor below s n.plan n.shelf [] x

  -- a job of the location's policy starts soundly
  started_sound : (job : ℕ) → job < length n.plan.jobs → (get_or n.plan.jobs job job0).policy ≡ policy_at n.plan r.location → Started (started r.location (get_or n.plan.jobs job job0))
  started_sound job h e =
      let x = get_or n.plan.jobs job job0 in
      let stands = w.plan.jobs job h in
      let typed = w.obeys.jobs job h in
      record {
        six = refl;
        stands = record {
          location = j.stands.location;
          roles = stands.roles;
          command = stands.command;
          slots = λ k l. subst (SlotStands (with_shelf s (length (n.shelf ++ []))) n.plan.patterns k) (sym (empty_slot 6 k)) (none refl refl);
        };
        typed = record {
          runs = record {
            least = subst (λ (policy : ℕ). SetBelow below (least_of n.plan policy) x.roles) e typed.least;
            typed = subst (λ (policy : ℕ). Typed below n.plan (record { policy = policy; roles = x.roles; slots = replicate 6 0 }) x.command) e typed.typed;
          };
          slots = empty below n.plan (n.shelf ++ []) 6;
        };
      }

  scripts_sound : (rows : List ℕ) → Each (λ i. i < length (tree_of n r)) 0 rows → Each Started no_running (scripts n.plan r.location (tree_of n r) rows)
  scripts_sound [] w' = each_none Started no_running
  scripts_sound (row ∷ rows) inside =
      each_append Started no_running (script_on n.plan r.location (line (tree_of n r) row)) (scripts n.plan r.location (tree_of n r) rows)
      (cond_both (eqb (line (tree_of n r) row).content 2) (started r.location (get_or n.plan.jobs (line (tree_of n r) row).first job0) ∷ []) [] (Each Started no_running)
      (λ e.
      let o = (tree_obeys below s n w r.location).scripts row (inside 0 (omega arith)) (eqb-true (line (tree_of n r) row).content 2 e) in
      each_more Started no_running (started r.location (get_or n.plan.jobs (line (tree_of n r) row).first job0)) [] (started_sound (line (tree_of n r) row).first o.0 o.1) (each_none Started no_running))
      (λ e. each_none Started no_running))
      (scripts_sound rows (λ k h. inside (suc k) (omega arith)))

  pub run_sound : (path : Operand) → verb_at n.plan r.command ≡ Some (verb.Run path) → (e : Effect) → Runs below n r path e
      → EffectSound below s n.plan (policy_at n.plan r.location) n.shelf e
  run_sound path v e q =
      let k = at_run below n.plan (running_standing n.plan r) r.command path j.typed.runs.typed v in
      let next = next_of n r in
      let rows = flagged_rows q.flags in
      subst (EffectSound below s n.plan (policy_at n.plan r.location) n.shelf) (sym q.effect)
      (none_shelved below s n.plan (policy_at n.plan r.location) n.shelf (flagged_count q.flags) (goes_on r next ++ scripts n.plan r.location (tree_of n r) rows) (tree_of n r)
      (each_append Started no_running (goes_on r next) (scripts n.plan r.location (tree_of n r) rows)
      (goes_on_sound below s n.plan n.shelf [] w.counts.shelf r j next (next_there below s n w r j) k.next)
      (scripts_sound rows (λ i h. (rows_found below (path_of n.plan r path) (tree_of n r) q.flags q.found i h).inside)))
      (tree_sound below s n w r))

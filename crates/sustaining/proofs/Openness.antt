-- What a step touches is open to the job's roles.
use Rattle.std.proofs.Common.{◌≡◌, ℕ, ◌<◌, Bool, length, Some, sym, subst, inl, inr, arith}
use Rattle.std.proofs.lemmas.Bool.{cases_eq, cases_lt}
use Rattle.order.specs.RoleSets.{SetBelow, Opens}
use Rattle.layout.specs.declared.memory.RunningRow.{RunningRow}
use Rattle.layout.specs.Network.{Network}
use Rattle.obeying.specs.Rules.{line}
use Rattle.meaning.specs.declared.verbs.Operand.{Operand}
use Rattle.meaning.specs.declared.verbs.Verb.{Verb}
use Rattle.meaning.specs.declared.verbs.Verb.TheVariants as verb
use Rattle.slots.specs.Slots.{pattern_at}
use Rattle.pasting.specs.Words.{least_of}
use Rattle.commands.specs.Rules.{last_of, Open}
use Rattle.typing.specs.Flow.{verb_at}
use Rattle.typing.proofs.Inversions.{at_run, at_read, at_change, at_enable, at_disable}
use Rattle.matching.specs.Matching.{policy_at}
use Rattle.breaches.specs.Words.{running_standing}
use Rattle.standing.specs.declared.sizes.Sizes.{Sizes}
use Rattle.edges.specs.Edges.{Nested, Over}
use Rattle.edges.specs.Paths.{last_set}
use Rattle.edges.proofs.Matched.{matching_laws}
use Rattle.edges.proofs.Nesting.{standing_nested}
use Rattle.edges.proofs.Opening.{access}
use Rattle.reduction.specs.Access.{Finds, Takes, Touches, OpenTo}
use Rattle.reduction.specs.Soundness.{JobSound, NetworkSound}
use Rattle.reduction.specs.Values.{tree_of, path_of}
use Rattle.sustaining.proofs.Networks.{tree_stands, tree_obeys}
use Rattle.sustaining.proofs.Operands.{path_there}

module _ (below : ℕ → ℕ → Bool) (s : Sizes) (n : Network) (w : NetworkSound below s n) (r : RunningRow) (j : JobSound below s n.plan n.shelf r) where
  nested : Nested (tree_of n r)
  nested = standing_nested s (tree_of n r) (tree_stands below s n w r.location)

  module _ (path : Operand) (last : ℕ) (there : last_of n.plan (running_standing n.plan r) path ≡ Some last) (open_path : SetBelow below last r.roles) where
    last_below : SetBelow below (last_set (path_of n.plan r path)) r.roles
    last_below = subst (λ (set : ℕ). SetBelow below set r.roles) (sym (path_there below n.plan n.shelf r j.typed.slots path last there).1) open_path

    found_open : (i : ℕ) → Finds below n r path i → OpenTo below n r i
    found_open i f = record {
      own = access.own s.roles s.top below w.lawful (path_of n.plan r path) (tree_of n r) i r.roles f last_below j.stands.roles.0;
      over = λ k v. access.over s.roles s.top below w.lawful (least_of n.plan (policy_at n.plan r.location)) n.plan.jobs (policy_at n.plan r.location) (path_of n.plan r path)
          (tree_of n r) i r.roles nested (tree_obeys below s n w r.location) f last_below j.stands.roles.0 k v;
    }

    module _ (row : ℕ) (open_tree : Open below r.roles (pattern_at n.plan.patterns row)) (i : ℕ) (h : i < length (tree_of n r)) (t : Takes below n r path row i) where
      all_below : SetBelow below t.all r.roles
      all_below = subst (Open below r.roles) t.there open_tree

      under_open : (k : ℕ) → k < length (tree_of n r) → Over (tree_of n r) t.edge k → Opens below (line (tree_of n r) k).set r.roles
      under_open k l v =
          matching_laws.beneath s.roles s.top below w.lawful n.plan t.slot t.policy t.top t.all (tree_of n r) t.edge r.roles t.matched all_below j.stands.roles.0 k l v

      taken_open : OpenTo below n r i
      taken_open = record {
        own = under_open i h t.over;
        over = λ k v. elim (cases_eq k t.edge) [
          | inl e ↦ subst (λ (m : ℕ). Opens below (line (tree_of n r) m).set r.roles) (sym e) (found_open t.edge t.found).own
          | inr d ↦ elim (cases_lt k t.edge) [
            | inl l ↦ (found_open t.edge t.found).over k (record { before = l; deeper = λ m a b. v.deeper m a (omega (arith, t.over.before)) })
            | inr l ↦ under_open k (omega (arith, v.before)) (record { before = omega arith; deeper = λ m a b. t.over.deeper m a (omega (arith, v.before)) })
          ]
        ];
      }

  pub touched_open : (v : Verb) → verb_at n.plan r.command ≡ Some v → (i : ℕ) → i < length (tree_of n r) → Touches below n r v i → OpenTo below n r i
  touched_open (verb.Fork other) e i h t = absurd t
  touched_open (verb.Go location roles) e i h t = absurd t
  touched_open (verb.Run path) e i h t =
      let k = at_run below n.plan (running_standing n.plan r) r.command path j.typed.runs.typed e in found_open path k.last k.there k.open_path i t
  touched_open (verb.Read path row) e i h t =
      let k = at_read below n.plan (running_standing n.plan r) r.command path row j.typed.runs.typed e in
      elim t [ inl f ↦ found_open path k.last k.there k.open_path i f | inr f ↦ taken_open path k.last k.there k.open_path row k.open_tree i h f ]
  touched_open (verb.Change path row content) e i h t =
      let k = at_change below n.plan (running_standing n.plan r) r.command path row content j.typed.runs.typed e in
      elim t [ inl f ↦ found_open path k.last k.there k.open_path i f | inr f ↦ taken_open path k.last k.there k.open_path row k.open_tree i h f ]
  touched_open (verb.Enable path role) e i h t =
      let k = at_enable below n.plan (running_standing n.plan r) r.command path role j.typed.runs.typed e in found_open path k.last k.there k.open_path i t
  touched_open (verb.Disable path role) e i h t =
      let k = at_disable below n.plan (running_standing n.plan r) r.command path role j.typed.runs.typed e in found_open path k.last k.there k.open_path i t

-- Commands that are typed, and networks that obey.
use Rattle.std.proofs.Common.{◌≡◌, ℕ, suc, ◌+◌, ◌-◌, ◌<◌, Bool, true, eqb, ltb, List, [], ◌∷◌, length, get_or, Some, None, Option, sym, refl, ap, ◌∙◌, subst, inl, inr, arith}
use Rattle.std.specs.Option.{option_map}
use Rattle.std.proofs.lemmas.Bool.{cases_lt, cond-true, cond-false, lt-ltb, le-ltb, eq-eqb, and_from}
use Rattle.order.specs.Laws.{Lawful}
use Rattle.order.specs.RoleSets.{set_below}
use Rattle.rows.specs.declared.row.GrantRow.{GrantRow}
use Rattle.rows.specs.declared.row.JobRow.{JobRow}
use Rattle.layout.specs.declared.memory.RunningRow.{RunningRow}
use Rattle.layout.specs.declared.memory.Slot.{Slot}
use Rattle.layout.specs.Network.{TreeLines, Plan, Network}
use Rattle.layout.specs.Zeros.{grant0, job0, slot0, no_running}
use Rattle.meaning.specs.declared.verbs.Verb.{Verb}
use Rattle.meaning.specs.declared.verbs.Verb.TheVariants as verb
use Rattle.scan.specs.Scan.{or_else, Each}
use Rattle.obeying.specs.Rules.{GrantObeys}
use Rattle.obeying.specs.Breaches.{tree_matches}
use Rattle.obeying.proofs.Firsts.{grants_first}
use Rattle.slots.specs.declared.part.Part.{Part}
use Rattle.slots.specs.declared.part.Part.TheVariants as part
use Rattle.slots.specs.Slots.{part_by}
use Rattle.pasting.specs.Words.{least_of}
use Rattle.commands.specs.declared.standing.Standing.{Standing}
use Rattle.commands.specs.declared.rule.CommandRule.{CommandRule}
use Rattle.commands.specs.Rules.{Asks}
use Rattle.typing.specs.declared.breach.CommandBreach.{CommandBreach}
use Rattle.typing.specs.Flow.{command_at, verb_at, other_of, policy_or, standing_after}
use Rattle.typing.specs.Typing.{Typed}
use Rattle.typing.specs.Typing.Typed.{nil, fork, go, run, read, change, enable, disable}
use Rattle.typing.specs.Telling.{breach_at, told, later}
use Rattle.typing.proofs.Inversions.{parts}
use Rattle.typing.proofs.Tellings.{told_zero, told_verb}
use Rattle.matching.specs.Matching.{policy_at, ValueMatches, SlotMatches, SlotsMatch, is_set, is_tree, value_matches, slot_matches, slots_match}
use Rattle.breaches.specs.declared.breach.RuleBreach.{RuleBreach}
use Rattle.breaches.specs.Told.{first_told, edges_before, tree_told, edges_told, grants_told, job_told, rules_told, running_rule, running_told, all_running_told}
use Rattle.breaches.specs.Words.{JobTyped, RunsTyped, RunningTyped, Obeys, RunningObeys}
use Rattle.quiet.proofs.Sets.{set_passes}
use Rattle.quiet.proofs.Trees.{tree_quiet}
use Rattle.quiet.proofs.Patterns.{match_passes}
use Rattle.quiet.proofs.Contents.{job_passes}
use Rattle.quiet.proofs.Commands.{command_quiet}

-- nothing is told of rows of which nothing is told one by one
rows_quiet : {X : Type 0} (told : ℕ → X → Option RuleBreach) (z : X) (row : ℕ) (xs : List X) → ((k : ℕ) → k < length xs → told (row + k) (get_or xs k z) ≡ None) → first_told told row xs ≡ None
rows_quiet told z row [] w = refl
rows_quiet told z row (x ∷ xs) w =
    let here : row + 0 ≡ row = omega arith in
    ap (λ (o : Option RuleBreach). or_else o (first_told told (row + 1) xs)) (subst (λ (n : ℕ). told n x ≡ None) here (w 0 (omega arith)))
    ∙ rows_quiet told z (row + 1) xs (λ k h. subst (λ (n : ℕ). told n (get_or xs k z) ≡ None) (omega arith) (w (suc k) (omega arith)))

or_none : (a b : Option RuleBreach) → a ≡ None → b ≡ None → or_else a b ≡ None
or_none a b e f = ap (λ (o : Option RuleBreach). or_else o b) e ∙ f

module _ {count top : ℕ} {below : ℕ → ℕ → Bool} (law : Lawful count top below) where
  later_quiet : (p : Plan) (s : Standing) (c to : ℕ) → told below p s to ≡ None → told below p s (later c to) ≡ None
  later_quiet p s c to e = elim (cases_lt c to) [
    | inl l ↦ ap (told below p s) (cond-true (ltb c to) to 0 (lt-ltb c to l)) ∙ e
    | inr l ↦ ap (told below p s) (cond-false (ltb c to) to 0 (le-ltb c to l)) ∙ told_zero below p s
  ]

  one_quiet : (p : Plan) (s : Standing) (c : ℕ) (v : Verb) → verb_at p c ≡ Some v → ((r : CommandRule) → Asks below p s v r)
      → told below p (standing_after p s v) (command_at p c).next ≡ None → told below p s (other_of v) ≡ None → told below p s c ≡ None
  one_quiet p s c v e a n o =
      told_verb below p s c v e
      ∙ (ap (λ (x : Option CommandRule). or_else (breach_at (c - 1) x) (or_else (told below p (standing_after p s v) (later c (command_at p c).next)) (told below p s (later c (other_of v))))) (command_quiet law p s v a)
      ∙ (ap (λ (x : Option CommandBreach). or_else x (told below p s (later c (other_of v)))) (later_quiet p (standing_after p s v) c (command_at p c).next n)
      ∙ later_quiet p s c (other_of v) o))

  pub typed_quiet : (p : Plan) {s : Standing} {c : ℕ} → Typed below p s c → told below p s c ≡ None
  typed_quiet p {s = s} {c = c} (nil z) = ap (told below p s) z ∙ told_zero below p s
  typed_quiet p {s = s} {c = c} (fork other e n o) = one_quiet p s c (verb.Fork other) e (parts below p (fork other e n o) (verb.Fork other) e).asks (typed_quiet p n) (typed_quiet p o)
  typed_quiet p {s = s} {c = c} (go location roles policy e g w n) =
      one_quiet p s c (verb.Go location roles) e (parts below p (go {s = s} location roles policy e g w n) (verb.Go location roles) e).asks
      (subst (λ (o : Option ℕ). told below p (record { policy = policy_or s.policy o; roles = roles; slots = s.slots }) (command_at p c).next ≡ None) (sym g) (typed_quiet p n))
      (told_zero below p s)
  typed_quiet p {s = s} {c = c} (run path last e l w n) =
      one_quiet p s c (verb.Run path) e (parts below p (run path last e l w n) (verb.Run path) e).asks (typed_quiet p n) (told_zero below p s)
  typed_quiet p {s = s} {c = c} (read path row last e l w k n) =
      one_quiet p s c (verb.Read path row) e (parts below p (read path row last e l w k n) (verb.Read path row) e).asks (typed_quiet p n) (told_zero below p s)
  typed_quiet p {s = s} {c = c} (change path row last content e l f w k b n) =
      one_quiet p s c (verb.Change path row content) e (parts below p (change path row last content e l f w k b n) (verb.Change path row content) e).asks (typed_quiet p n) (told_zero below p s)
  typed_quiet p {s = s} {c = c} (enable path role last e l w g b n) =
      one_quiet p s c (verb.Enable path role) e (parts below p (enable path role last e l w g b n) (verb.Enable path role) e).asks (typed_quiet p n) (told_zero below p s)
  typed_quiet p {s = s} {c = c} (disable path role last e l w g n) =
      one_quiet p s c (verb.Disable path role) e (parts below p (disable path role last e l w g n) (verb.Disable path role) e).asks (typed_quiet p n) (told_zero below p s)

  -- ---- jobs

  job_quiet : (p : Plan) (row : ℕ) (j : JobRow) → JobTyped below p j → job_told below p row j ≡ None
  job_quiet p row j w =
      cond-true (set_below below (least_of p j.policy) j.roles) _ _ (set_passes law (least_of p j.policy) j.roles w.least)
      ∙ ap (option_map _) (typed_quiet p w.typed)

  -- ---- what slots hold

  value_passes : (p : Plan) (shelf : List TreeLines) (o : Option Part) (value : ℕ) → ValueMatches below p shelf o value → value_matches below p shelf o value ≡ true
  unfolding is_tree
  value_passes p shelf None value w = refl
  value_passes p shelf (Some part.Number) value w = refl
  value_passes p shelf (Some (part.Script policy)) value w = job_passes p.jobs policy value w
  value_passes p shelf (Some (part.Place policy)) value w =
      and_from (ltb value (length p.locations)) (eqb (policy_at p value) policy) (lt-ltb value (length p.locations) w.0) (eq-eqb (policy_at p value) policy w.1)
  value_passes p shelf (Some (part.Route last)) value w = ap (λ (o : Option ℕ). is_set o last) w ∙ eq-eqb last last refl
  value_passes p shelf (Some (part.Tree policy topmost all)) value w =
      and_from (ltb value (length shelf)) (tree_matches below (least_of p policy) p.jobs policy topmost all (get_or shelf value [])) (lt-ltb value (length shelf) w.0)
      (match_passes law (least_of p policy) p.jobs policy topmost all (get_or shelf value []) w.1)

  slots_pass : (p : Plan) (shelf : List TreeLines) (from : ℕ) (xs : List Slot) → ((k : ℕ) → k < length xs → SlotMatches below p shelf (from + k) (get_or xs k slot0)) → slots_match below p shelf from xs ≡ true
  slots_pass p shelf from [] w = refl
  slots_pass p shelf from (x ∷ xs) w =
      let here : from + 0 ≡ from = omega arith in
      and_from (slot_matches below p shelf from x) (slots_match below p shelf (from + 1) xs)
      (value_passes p shelf (part_by p.patterns x.pattern from) x.value (subst (λ (n : ℕ). SlotMatches below p shelf n x) here (w 0 (omega arith))))
      (slots_pass p shelf (from + 1) xs (λ k h. subst (λ (n : ℕ). SlotMatches below p shelf n (get_or xs k slot0)) (omega arith) (w (suc k) (omega arith))))

  slots_from : (p : Plan) (shelf : List TreeLines) (xs : List Slot) → SlotsMatch below p shelf xs → slots_match below p shelf 0 xs ≡ true
  slots_from p shelf xs w = slots_pass p shelf 0 xs (λ k h. subst (λ (n : ℕ). SlotMatches below p shelf n (get_or xs k slot0)) (omega arith) (w k h))

  -- ---- running jobs

  rule_quiet : (p : Plan) (r : RunningRow) → RunsTyped below p r → running_rule below p r ≡ None
  rule_quiet p r w =
      cond-true (set_below below (least_of p (policy_at p r.location)) r.roles) _ _ (set_passes law (least_of p (policy_at p r.location)) r.roles w.least)
      ∙ ap (option_map _) (typed_quiet p w.typed)

  running_quiet : (p : Plan) (shelf : List TreeLines) (place : ℕ) (r : RunningRow) → RunningTyped below p shelf r → running_told below p shelf place r ≡ None
  running_quiet p shelf place r w =
      or_none _ _ (ap (option_map _) (rule_quiet p r w.runs)) (cond-true (slots_match below p shelf 0 r.slots) _ _ (slots_from p shelf r.slots w.slots))

  pub all_running_quiet : (n : Network) → RunningObeys below n → all_running_told below n ≡ None
  all_running_quiet n w =
      rows_quiet (running_told below n.plan n.shelf) no_running 0 n.running (λ k h. running_quiet n.plan n.shelf (0 + k) (get_or n.running k no_running) (w k h))

  -- ---- networks

  tree_at : (n : Network) (k l : ℕ) → Obeys below top n → l ≡ k → k < length n.trees → tree_told below n.plan (edges_before n.trees l) l (get_or n.trees k []) ≡ None
  tree_at n k l w e h =
      subst (λ (m : ℕ). tree_told below n.plan (edges_before n.trees m) m (get_or n.trees k []) ≡ None) (sym e)
      (ap (option_map _) (tree_quiet law (least_of n.plan (policy_at n.plan k)) n.plan.jobs (policy_at n.plan k) (get_or n.trees k []) (w.trees k h)))

  trees_quiet : (n : Network) → Obeys below top n → edges_told below n.plan n.trees ≡ None
  trees_quiet n w = rows_quiet (λ l tree. tree_told below n.plan (edges_before n.trees l) l tree) [] 0 n.trees (λ k h. tree_at n k (0 + k) w (omega arith) h)

  grants_quiet : (grants : List GrantRow) → Each (GrantObeys below top) grant0 grants → grants_told below top grants ≡ None
  grants_quiet grants w = ap (option_map _) (sym (grants_first below top grants None (λ e. w) tt))

  pub network_quiet : (n : Network) → Obeys below top n → rules_told below top n ≡ None
  network_quiet n w =
      or_none _ _ (grants_quiet n.plan.grants w.grants)
      (or_none _ _ (trees_quiet n w) (rows_quiet (job_told below n.plan) job0 0 n.plan.jobs (λ k h. job_quiet n.plan (0 + k) (get_or n.plan.jobs k job0) (w.jobs k h))))

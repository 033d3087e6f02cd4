-- Networks stay sound after a post, a recall and a granted step.
use Rattle.std.proofs.Common.{◌≡◌, ℕ, zero, suc, ◌<◌, ◌≤◌, max, Bool, true, false, cond, eqb, ltb, List, [], ◌∷◌, ◌++◌, length, get_or, set, replicate, Some, None, Ok, Err, Option, sym, refl, ap, ◌∙◌, subst, arith}
use Rattle.std.specs.List.{slice_get}
use Rattle.std.proofs.lemmas.Bool.{eqb-true}
use Rattle.std.proofs.lemmas.List.{length-append, length-set, get_or-replicate}
use Rattle.order.specs.RoleSets.{SetBelow}
use Rattle.rows.specs.declared.row.JobRow.{JobRow}
use Rattle.rows.specs.declared.row.LocationRow.{LocationRow}
use Rattle.layout.specs.declared.memory.RunningRow.{RunningRow}
use Rattle.layout.specs.declared.memory.Tables.{Tables}
use Rattle.layout.specs.Network.{Network, TreeLines, Plan, Holds}
use Rattle.layout.specs.Zeros.{location0, job0, slot0, no_running}
use Rattle.obeying.specs.Rules.{line}
use Rattle.pasting.specs.Words.{least_of}
use Rattle.typing.specs.Typing.{Typed}
use Rattle.matching.specs.Matching.{policy_at}
use Rattle.matching.proofs.Growing.{empty}
use Rattle.scan.specs.Scan.{Each}
use Rattle.standing.specs.declared.sizes.Sizes.{Sizes}
use Rattle.standing.specs.Sizes.{sizes_of}
use Rattle.standing.specs.Words.{TreeStands, SlotStands}
use Rattle.standing.specs.Words.SlotStands.{none}
use Rattle.breaches.specs.Words.{TreeAtObeys}
use Rattle.outcomes.specs.Outcomes.{deepest}
use Rattle.replacing.proofs.Sound.{not_deep}
use Rattle.rooms.specs.Rooms.{lacking}
use Rattle.rooms.specs.Leaving.{without}
use Rattle.rooms.proofs.Committing.{roomy}
use Rattle.machine.specs.declared.denial.Denial.{Denial}
use Rattle.machine.specs.Calls.{with_running, to_post, position_of, posted, after_post, after_recall}
use Rattle.reduction.specs.Effects.{Effect, aftermath, started}
use Rattle.reduction.specs.Values.{job_at}
use Rattle.reduction.specs.Soundness.{JobSound, NetworkSound, EffectSound, with_shelf}
use Rattle.keeping.specs.Keeping.{HoldsSound, after_step}
use Rattle.keeping.proofs.Growing.{tree_on, plan_on, job_sound_on, sizes_then}
use Rattle.keeping.proofs.Listed.{each_like, each_append, each_without, put_at, short_append}

-- ---- what a granted post says

there : {X : Type 0} (xs : List X) (i : ℕ) (x d : X) → slice_get xs i ≡ Some x → (i < length xs) × (get_or xs i d ≡ x)
there [] i x d e = absurd (cc)
there (y ∷ xs) zero x d e = (omega arith, grind arith)
there (y ∷ xs) (suc i) x d e = let r = there xs i x d e in (omega (arith, r.0), r.1)

agreed : (same free : Bool) (j : JobRow) (full other : Denial) (m position : ℕ) → position_of m (cond same (cond free (Ok j) (Err full)) (Err other)) ≡ Ok position → same ≡ true
agreed true free j full other m position e = refl
agreed false free j full other m position e = absurd (cc)

-- both rows are there, and the policies are the same
abbrev Granted : Plan → ℕ → ℕ → Type 0
Granted p location job =
    (location < length p.locations) × ((job < length p.jobs) × ((get_or p.jobs job job0).policy ≡ policy_at p location))

granted_by : (p : Plan) (location job m position : ℕ) (l : Option LocationRow) (j : Option JobRow) → slice_get p.locations location ≡ l → slice_get p.jobs job ≡ j
    → position_of m (to_post l j m) ≡ Ok position → Granted p location job
granted_by p location job m position None j a b e = absurd (cc)
granted_by p location job m position (Some l) None a b e = absurd (cc)
granted_by p location job m position (Some l) (Some j) a b e =
    let x = there p.locations location l location0 a in
    let y = there p.jobs job j job0 b in
    let same : j.policy ≡ l.policy = eqb-true j.policy l.policy (agreed (eqb j.policy l.policy) (ltb m 64) j _ _ m position e) in
    (x.0, (y.0, ap (λ (r : JobRow). r.policy) y.1 ∙ same ∙ sym (ap (λ (r : LocationRow). r.policy) x.1)))

-- ---- a job that starts

module _ (below : ℕ → ℕ → Bool) (s : Sizes) (n : Network) (w : NetworkSound below s n) where
  -- with the roles and the command of a job of the location's policy
  pub starts_sound : (location job : ℕ) → location < s.locations → job < length n.plan.jobs → (get_or n.plan.jobs job job0).policy ≡ policy_at n.plan location
      → JobSound below s n.plan n.shelf (started location (get_or n.plan.jobs job job0))
  starts_sound location job here row same =
      let j : JobRow = get_or n.plan.jobs job job0 in
      let stands = w.plan.jobs job row in
      let typed = w.obeys.jobs job row in
      record {
        six = refl;
        stands = record {
          location = here;
          roles = stands.roles;
          command = stands.command;
          slots = λ k h. subst (SlotStands s n.plan.patterns k) (sym (get_or-replicate 6 k slot0 slot0 (omega arith))) (none refl refl);
        };
        typed = record {
          runs = record {
            least = subst (λ (q : ℕ). SetBelow below (least_of n.plan q) j.roles) same typed.least;
            typed = subst (λ (q : ℕ). Typed below n.plan (record { policy = q; roles = j.roles; slots = replicate 6 0 }) j.command) same typed.typed;
          };
          slots = empty below n.plan n.shelf 6;
        };
      }

  -- other running jobs
  others_sound : (running : List RunningRow) → Each (JobSound below s n.plan n.shelf) no_running running → NetworkSound below s (with_running n running)
  others_sound running jobs = record {
    lawful = w.lawful;
    counts = record {
      policies = w.counts.policies;
      locations = w.counts.locations;
      patterns = w.counts.patterns;
      commands = w.counts.commands;
      jobs = w.counts.jobs;
      shelf = w.counts.shelf;
    };
    plan = w.plan;
    trees = w.trees;
    every_location = w.every_location;
    nowhere = w.nowhere;
    short = w.short;
    shelf = w.shelf;
    shelved = w.shelved;
    obeys = record { grants = w.obeys.grants; trees = w.obeys.trees; jobs = w.obeys.jobs };
    running = jobs;
  }

  one : (r : RunningRow) → JobSound below s n.plan n.shelf r → Each (JobSound below s n.plan n.shelf) no_running (r ∷ [])
  one r v zero h = v
  one r v (suc i) h = absurd (omega arith)

  post_sound : (location job position : ℕ) → posted n location job ≡ Ok position → NetworkSound below s (after_post n location job)
  post_sound location job position e =
      let g : Granted n.plan location job = granted_by n.plan location job (length n.running) position (slice_get n.plan.locations location) (slice_get n.plan.jobs job) refl refl e in
      others_sound (n.running ++ (started location (get_or n.plan.jobs job job0) ∷ []))
      (each_append (JobSound below s n.plan n.shelf) no_running n.running (started location (get_or n.plan.jobs job job0) ∷ []) w.running
      (one (started location (get_or n.plan.jobs job job0)) (starts_sound location job (omega (arith, g.0, w.counts.locations)) g.1.0 g.1.1)))

  recall_sound : (position : ℕ) → NetworkSound below s (after_recall n position)
  recall_sound position = others_sound (without position n.running) (each_without (JobSound below s n.plan n.shelf) no_running position n.running w.running)

  -- as many trees are shelved as the sizes say
  as_many : with_shelf s (length n.shelf) ≡ s
  as_many = ap (with_shelf s) (sym w.counts.shelf)

-- ---- a step

deepest_least : (d : ℕ) (t : TreeLines) → d ≤ deepest d t
deepest_least d [] = omega arith
deepest_least d (x ∷ t) = omega (arith, deepest_least (max d x.depth) t)

deepest_each : (d : ℕ) (t : TreeLines) (i : ℕ) → i < length t → (line t i).depth ≤ deepest d t
deepest_each d [] i h = absurd (omega arith)
deepest_each d (x ∷ t) zero h = omega (arith, deepest_least (max d x.depth) t)
deepest_each d (x ∷ t) (suc i) h = deepest_each (max d x.depth) t i (omega arith)

module _ (below : ℕ → ℕ → Bool) (s : Sizes) (n : Network) (w : NetworkSound below s n) (place : ℕ) (here : place < length n.running) (e : Effect) where
  abbrev at : ℕ
  at = (job_at n place).location

  abbrev shelf : List TreeLines
  shelf = n.shelf ++ e.copies

  abbrev Next : Sizes
  Next = with_shelf s (length shelf)

  module _ (v : EffectSound below s n.plan (policy_at n.plan at) n.shelf e) (room : lacking (aftermath n place e) ≡ None)
      (short : (l : ℕ) → length (get_or (set n.trees at e.tree) l []) ≤ 128) where
    flat : (i : ℕ) → i < length e.tree → (line e.tree i).depth ≤ 12
    flat i h = omega (arith, (roomy (aftermath n place e) room).deep, deepest_each 0 e.tree i h)

    there_is : at < s.locations
    there_is = (w.running place here).stands.location

    own_tree : TreeStands Next e.tree
    own_tree = tree_on s (length shelf) e.tree (not_deep below s (least_of n.plan (policy_at n.plan at)) n.plan.jobs (policy_at n.plan at) e.tree flat v.tree)

    more : s.shelf ≤ length shelf
    more = omega (arith, w.counts.shelf, length-append n.shelf e.copies)

    on : (r : RunningRow) → JobSound below s n.plan n.shelf r → JobSound below Next n.plan shelf r
    on r j = job_sound_on s (length shelf) more below n.plan n.shelf e.copies r j

    jobs : Each (JobSound below Next n.plan shelf) no_running (without place n.running ++ e.jobs)
    jobs =
        each_append (JobSound below Next n.plan shelf) no_running (without place n.running) e.jobs
        (each_without (JobSound below Next n.plan shelf) no_running place n.running
        (each_like (JobSound below s n.plan n.shelf) (JobSound below Next n.plan shelf) no_running n.running on w.running)) v.jobs

    step_sound : NetworkSound below Next (after_step n place e)
    step_sound = record {
      lawful = w.lawful;
      counts = record {
        policies = w.counts.policies;
        locations = w.counts.locations;
        patterns = w.counts.patterns;
        commands = w.counts.commands;
        jobs = w.counts.jobs;
        shelf = refl;
      };
      plan = plan_on s (length shelf) n.plan w.plan;
      trees = put_at (λ l t. TreeStands Next t) [] n.trees at e.tree (λ l h. tree_on s (length shelf) (get_or n.trees l []) (w.trees l h)) own_tree;
      every_location = length-set n.trees at e.tree ∙ w.every_location;
      nowhere = put_at (λ l t. (l < s.locations → ⊥) → t ≡ []) [] n.trees at e.tree w.nowhere (λ g. absurd (g there_is));
      short = short;
      shelf = each_append (TreeStands Next) [] n.shelf e.copies (λ k h. tree_on s (length shelf) (get_or n.shelf k []) (w.shelf k h))
          (λ k h. tree_on s (length shelf) (get_or e.copies k []) (v.copies k h));
      shelved = short_append 128 n.shelf e.copies w.shelved v.short;
      obeys = record {
        grants = w.obeys.grants;
        trees = put_at (TreeAtObeys below n.plan) [] n.trees at e.tree w.obeys.trees v.tree.obeys;
        jobs = w.obeys.jobs;
      };
      running = jobs;
    }

-- ---- the tables

module _ (count top : ℕ) (below : ℕ → ℕ → Bool) (t u : Tables) (n : Network) (w : HoldsSound count top below t n) where
  abbrev S : Sizes
  S = sizes_of count top t

  same_sizes : (running : List RunningRow) → Holds u (with_running n running) → sizes_of count top u ≡ S
  same_sizes running h = sizes_then count top t u n n.trees running n.shelf w.holds h ∙ as_many below S n w.sound

  jobs_kept : (running : List RunningRow) → Holds u (with_running n running) → NetworkSound below S (with_running n running) → HoldsSound count top below u (with_running n running)
  jobs_kept running h v = record { holds = h; sound = subst (λ (s : Sizes). NetworkSound below s (with_running n running)) (sym (same_sizes running h)) v }

  pub post_kept : (location job position : ℕ) → posted n location job ≡ Ok position → Holds u (after_post n location job) → HoldsSound count top below u (after_post n location job)
  post_kept location job position e h =
      jobs_kept (n.running ++ (started location (get_or n.plan.jobs job job0) ∷ [])) h (post_sound below S n w.sound location job position e)

  pub recall_kept : (position : ℕ) → Holds u (after_recall n position) → HoldsSound count top below u (after_recall n position)
  recall_kept position h = jobs_kept (without position n.running) h (recall_sound below S n w.sound position)

  pub step_kept : (place : ℕ) → place < length n.running → (e : Effect) → EffectSound below S n.plan (policy_at n.plan (job_at n place).location) n.shelf e
      → lacking (aftermath n place e) ≡ None → Holds u (after_step n place e) → HoldsSound count top below u (after_step n place e)
  step_kept place here e v room h = record {
    holds = h;
    sound = subst (λ (s : Sizes). NetworkSound below s (after_step n place e))
        (sym (sizes_then count top t u n (set n.trees (job_at n place).location e.tree) (without place n.running ++ e.jobs) (n.shelf ++ e.copies) w.holds h))
        (step_sound below S n w.sound place here e v room h.fits.edges);
  }
